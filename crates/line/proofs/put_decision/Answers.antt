use mathlib.Core.Path.{sym, ◌∙◌}
use native.Mathlib.Omega.{arith}
use Rattle.line.proofs.Laws.{length_decision, decision_put, put_short, places_short, places_fits}
use Rattle.line.proofs.put_decision.Goals as goal
use Rattle.line.proofs.put_decision.Goals.{then-out-lt7-via-then-out-lt7, then-out-lt7-via-else-out-lt7+then-out-count}

pub returns-then-out-lt7 : goal.returns-then-out-lt7
returns-then-out-lt7 c =
    let args = c.args in
    elim c.then-out-lt7.branch [
      | then-out-lt7-via-then-out-lt7 w ↦ (
        places_short _ _ (omega (arith, length_decision args.decision args.obligations.now, w.if-out-lt7.true)),
        put_short _ _ (omega (arith, length_decision args.decision args.obligations.now, w.if-out-lt7.true)),
      )
      | then-out-lt7-via-else-out-lt7+then-out-count w ↦ (
        places_short _ _ (omega (arith, length_decision args.decision args.obligations.now, w.if-out-count.true)),
        put_short _ _ (omega (arith, length_decision args.decision args.obligations.now, w.if-out-count.true)),
      )
    ]

pub returns : goal.returns
returns c =
    let args = c.args in (
      sym (length_decision _ _) ∙ places_fits _ _ (omega (arith, length_decision args.decision args.obligations.now)),
      decision_put _ _ _ (omega arith) (rw c.from.ensures at c.two_digits.ensures) c.four_digits.ensures c.put_obligations.ensures,
    )
