use native.Mathlib.Omega.{arith}
use Rattle.record.proofs.Walks.{all_left, still, next_left, none_left}
use Rattle.decider.proofs.Laws.{put_start, put_room, put_skip, put_turn, put_end}
use Rattle.decider.proofs.put.Goals as goal

pub loop-i-init : goal.loop-i-init
loop-i-init c =
    let new = c.new-i-items.ensures in
    let begun = all_left c.into_iter-i-iterator.ensures.into_iter_gives new.book new.at new.left in
    (begun.0, put_start _ _ _ _ begun.1)

pub bounds-out-m : goal.bounds-out-m
bounds-out-m c =
    let kept = c.loop-i.invariant in
    omega (arith, kept.1.kept, c.requires.1, put_room kept.1 (next_left kept.0 c.in-Some.ensures.steps) c.is_due.ensures c.if-is_due.true)

pub overflow_add-m : goal.overflow_add-m
overflow_add-m c =
    let kept = c.loop-i.invariant in
    omega (arith, kept.1.kept, c.requires.1, put_room kept.1 (next_left kept.0 c.in-Some.ensures.steps) c.is_due.ensures c.if-is_due.true)

pub loop-i-preserved-then-is_due : goal.loop-i-preserved-then-is_due
loop-i-preserved-then-is_due c =
    let kept = c.loop-i.invariant in
    let next = next_left kept.0 c.in-Some.ensures.steps in
    let room = put_room kept.1 next c.is_due.ensures c.if-is_due.true in (
      still kept.0 c.in-Some.ensures.steps,
      put_turn kept.1 next c.is_due.ensures c.if-is_due.true c.big2.ensures
          (omega (arith, kept.1.kept, c.requires.1, room)),
    )

pub loop-i-preserved : goal.loop-i-preserved
loop-i-preserved c =
    let kept = c.loop-i.invariant in
    (still kept.0 c.in-Some.ensures.steps, put_skip kept.1 (next_left kept.0 c.in-Some.ensures.steps) c.is_due.ensures c.if-is_due.false)

pub shape_of-out : goal.shape_of-out
shape_of-out c = c.loop-i.invariant.1.kept

pub returns : goal.returns
returns c = put_end c.loop-i.invariant.1 (none_left c.loop-i.i-iterator c.in-None.ensures.steps)
