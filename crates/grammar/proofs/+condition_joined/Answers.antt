use Rattle.grammar.proofs.Fits.{fits, fit_span}
use Rattle.grammar.proofs.Parts.{is_comparison, is_not, is_logic, one_of_many}
use Rattle.grammar.proofs.Rows.{row_none, row_then}
use mathlib.Core.Path.{refl}
use native.Mathlib.Omega.{arith}
use Rattle.grammar.proofs.+condition_joined.Goals as goal

pub condition-returns-then-is_fit : goal.condition-returns-then-is_fit
condition-returns-then-is_fit t c = is_comparison _ (fits c.if-is_fit.ensures) (omega arith) (omega arith)

pub joined-returns-then-is_fit : goal.joined-returns-then-is_fit
joined-returns-then-is_fit t c =
    is_not _ (omega arith) (omega arith) (omega arith) (fits c.if-is_fit.ensures) c.if-branch-next.false c.in_ok-condition.ensures

pub joined-loop-at-init : goal.joined-loop-at-init
joined-loop-at-init t c = (omega arith, omega (arith, fit_span _ _ (fits c.if-not-is_fit.ensures)), λ gc pc. row_none _ refl (omega arith))

pub joined-loop-at-preserved : goal.joined-loop-at-preserved
joined-loop-at-preserved t c =
    let y = c.in_ok-at.ensures in
    (omega (arith, y.after), y.upto, λ gc pc. row_then _ (c.loop-at.invariant.2 gc pc) (one_of_many _ y gc pc))

pub joined-returns : goal.joined-returns
joined-returns t c = is_logic _ (omega arith) (omega arith) (omega arith) (fits c.if-not-is_fit.ensures) (omega arith) c.loop-at.invariant.2
