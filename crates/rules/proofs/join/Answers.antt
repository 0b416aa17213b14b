use native.Mathlib.Omega.{arith}
use mathlib.Core.Path.{refl, ap}
use Rattle.std.specs.Prelude.{length}
use Rattle.record.proofs.Walks.{still, next_left, none_left}
use Rattle.rules.proofs.Loops.{join_none, join_turn, join_stop, join_end}
use Rattle.rules.proofs.Laws.{truths_none, truths_more}
use Rattle.rules.proofs.join.Goals as goal

pub loop-at-init : goal.loop-at-init
loop-at-init g c = rw c.into_iter-at-iterator.ensures.into_iter_gives (refl, λ says p. join_none _ _ c.truth_of-acc.ensures)

pub returns-then-is_sure : goal.returns-then-is_sure
returns-then-is_sure g c says p =
    let kept = c.loop-at.invariant in
    let step = c.in-Some.ensures.steps in
    join_stop _ _ (truths_more says (next_left kept.0 step) (p _ _ _ step.long (omega (arith, ap length kept.0, c.loop-at.at-iterator.fits, step.place, step.short)) c.part-t.ensures)) c.is_sure.ensures c.if-is_sure.true (kept.1 says p)

pub loop-at-preserved : goal.loop-at-preserved
loop-at-preserved g c =
    let kept = c.loop-at.invariant in
    let step = c.in-Some.ensures.steps in (
      still kept.0 step,
      λ says p.
          join_turn _ _ (truths_more says (next_left kept.0 step) (p _ _ _ step.long (omega (arith, ap length kept.0, c.loop-at.at-iterator.fits, step.place, step.short)) c.part-t.ensures)) c.joined-acc.ensures (kept.1 says p),
    )

pub returns : goal.returns
returns g c says p = join_end _ _ (truths_none (none_left c.loop-at.at-iterator c.in-None.ensures.steps) says) (c.loop-at.invariant.1 says p)
