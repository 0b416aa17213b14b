use Rattle.record.proofs.Walks.{all_left, still, next_left, none_left}
use Rattle.decider.proofs.Rooms.{deep_is, nest_kids, nest_rest, rooms}
use Rattle.decider.proofs.Laws.{child_no, child_lost, child_yes, body_own, gather_rules, gather_walk, gather_nobody, gather_many, gather_one, picked_one, walk_start, walk_skip, walk_turn, walk_stop, walk_end}
use native.Mathlib.Omega.{arith}
use borrow.Author.Rules.{rules}
use Prim.Native.Nat.{◌+◌, ◌-◌}
use mathlib.Core.Path.{sym, ap, ◌∙◌}
use Rattle.std.specs.Prelude.{length}
use Rattle.decider.proofs.+body_child_gather_walk.Goals as goal

pub body-gather-r-requires : goal.body-gather-r-requires
body-gather-r-requires t c =
    (omega arith, (c.requires.0, c.requires.1, omega (arith, c.requires.2, rooms c.args.book.now (c.args.i + 1) (c.args.s - 1)), c.requires.3))

pub body-own-requires : goal.body-own-requires
body-own-requires t c =
    (search rules, omega (arith, c.gather-r.ensures.puts.within, c.gather-r.auto.out, c.requires.2, rooms c.args.book.now (c.args.i + 1) (c.args.s - 1)))

pub body-returns : goal.body-returns
body-returns t c = body_own _ _ _ _ c.gather-r.ensures c.decision_in.ensures c.own.ensures

pub child-body-requires : goal.child-body-requires
child-body-requires t c =
    (omega arith, (c.requires.0, c.requires.1, c.requires.2, c.requires.3))

pub child-returns-in-False : goal.child-returns-in-False
child-returns-in-False t c = child_no _ _ _ _ c.requires.4 _ _ _ c.in-False.is

pub child-returns-in-Unknown : goal.child-returns-in-Unknown
child-returns-in-Unknown t c = child_lost _ _ _ _ c.requires.4 _ _ _ c.in-Unknown.is

pub child-returns-in-True : goal.child-returns-in-True
child-returns-in-True t c =
    child_yes _ _ _ _ c.requires.4 c.in-True.is c.body.ensures

pub gather-returns-then-byte-ne-SET : goal.gather-returns-then-byte-ne-SET
gather-returns-then-byte-ne-SET t c = gather_rules _ _ _ _ c.byte.ensures.0 c.byte-choice.ensures.0 _ _ _ c.if-byte-ne-SET.true c.rules.ensures

pub gather-overflow_sub-depth : goal.gather-overflow_sub-depth
gather-overflow_sub-depth t c =
    let w = picked_one _ _ _ _ _ (rw c.in-Ok-Some.field-0-is at c.in-Ok-Some.ensures) in
    omega (arith, w.applies.nest, c.requires.3)

pub gather-body-requires : goal.gather-body-requires
gather-body-requires t c =
    let w = picked_one _ _ _ _ _ (rw c.in-Ok-Some.field-0-is at c.in-Ok-Some.ensures) in
    (omega (arith, w.applies.fits, c.requires.0), (w.applies.there, omega (arith, w.applies.ends, c.requires.0, c.requires.1), omega (arith, w.applies.room, c.requires.2), omega (arith, w.applies.nest, c.requires.3)))

pub gather-returns-in-Ok-None : goal.gather-returns-in-Ok-None
gather-returns-in-Ok-None t c =
    gather_nobody _ _ _ _ c.byte.ensures.0 c.byte-choice.ensures.0 c.if-byte-ne-SET.false c.over_policies-a.ensures c.is_only.ensures
    c.if-is_only.true _ _ _ (rw c.in-Ok-None.field-0-is at c.in-Ok-None.ensures)

pub gather-returns-in-Err : goal.gather-returns-in-Err
gather-returns-in-Err t c =
    gather_many _ _ _ _ c.byte.ensures.0 c.byte-choice.ensures.0 c.if-byte-ne-SET.false c.over_policies-a.ensures c.is_only.ensures
    c.if-is_only.true _ _ _ c.in-Err.ensures

pub gather-returns-in-Ok-Some : goal.gather-returns-in-Ok-Some
gather-returns-in-Ok-Some t c =
    let w = picked_one _ _ _ _ _ (rw c.in-Ok-Some.field-0-is at c.in-Ok-Some.ensures) in
    gather_one _ _ _ _ c.byte.ensures.0 c.byte-choice.ensures.0 c.if-byte-ne-SET.false c.over_policies-a.ensures c.is_only.ensures
    c.if-is_only.true w c.body.ensures

pub gather-walk-requires : goal.gather-walk-requires
gather-walk-requires t c =
    (search rules, (search rules, c.requires.2, c.requires.3, sym c.is_only.ensures ∙ c.if-is_only.false))

pub gather-returns : goal.gather-returns
gather-returns t c =
    gather_walk _ _ _ _ c.byte.ensures.0 c.byte-choice.ensures.0 c.if-byte-ne-SET.false c.over_policies-a.ensures c.walk.ensures

pub walk-loop-i-init : goal.walk-loop-i-init
walk-loop-i-init t c =
    let new = c.new-i-items.ensures in
    let begun = all_left c.into_iter-i-iterator.ensures.into_iter_gives new.book new.at new.left in (
      begun.0,
      omega (arith, ap (λ w. w.left) c.into_iter-i-iterator.ensures.into_iter_gives, new.left),
      walk_start _ _ _ _ _ _ _ c.requires.3 begun.1 c.begin-k.ensures,
      rw begun.1 c.requires.2,
    )

pub walk-loop-i-preserved-then-not-is_party : goal.walk-loop-i-preserved-then-not-is_party
walk-loop-i-preserved-then-not-is_party t c =
    let kept = c.loop-i.invariant in
    let step = c.in-Some.ensures.steps in
    let next = next_left kept.0 step in (
      still kept.0 step,
      omega (arith, kept.1, step.left),
      walk_skip c.requires.3 kept.2 c.in-Some.s next c.if-not-is_party.ensures,
      omega (arith, kept.3, nest_rest next),
    )

pub walk-overflow_sub-depth : goal.walk-overflow_sub-depth
walk-overflow_sub-depth t c =
    let kept = c.loop-i.invariant in
    omega (arith, kept.3, nest_kids (next_left kept.0 c.in-Some.ensures.steps))

pub walk-child-r-requires : goal.walk-child-r-requires
walk-child-r-requires t c =
    let kept = c.loop-i.invariant in
    let step = c.in-Some.ensures.steps in
    let next = next_left kept.0 step in (
      omega (arith, kept.1, step.short),
      (
        step.long,
        omega (arith, ap length kept.0, c.loop-i.i-iterator.fits, step.place, step.short),
        omega (arith, kept.2.room, kept.2.kept, c.requires.1, deep_is c.args.book.now next),
        omega (arith, kept.3, nest_kids next),
        c.target-t.ensures,
      ),
    )

pub walk-settle-m-requires : goal.walk-settle-m-requires
walk-settle-m-requires t c =
    let kept = c.loop-i.invariant in
    let sofar = kept.2 in
    let here = deep_is c.args.book.now (next_left kept.0 c.in-Some.ensures.steps) in (
      omega (arith, sofar.holds.count),
      omega (arith, c.child-r.ensures.puts.holds.count),
      omega (arith, c.child-r.ensures.puts.within, sofar.room, sofar.kept, c.child-r.auto.out, c.requires.1, here),
    )

pub walk-shape_of-out-then-settles : goal.walk-shape_of-out-then-settles
walk-shape_of-out-then-settles t c = c.settle-m.auto.out ∙ c.child-r.auto.out ∙ c.loop-i.invariant.2.kept

pub walk-returns-then-settles : goal.walk-returns-then-settles
walk-returns-then-settles t c =
    let kept = c.loop-i.invariant in
    let sofar = kept.2 in
    walk_stop c.requires.3 sofar c.in-Some.s (next_left kept.0 c.in-Some.ensures.steps) c.if-not-is_party.ensures c.child-r.ensures c.child-r.auto.out
    c.decision_in-d.ensures c.outcome-before.ensures c.take_in-k.ensures c.outcome-after.ensures c.stay.ensures c.stay-in-loop-i.ensures c.settles.ensures
    c.settle-m.ensures (omega (arith, c.requires.1)) (omega (arith, sofar.room, sofar.kept, c.requires.1)) c.if-settles.true c.verdict.ensures

pub walk-loop-i-preserved : goal.walk-loop-i-preserved
walk-loop-i-preserved t c =
    let kept = c.loop-i.invariant in
    let sofar = kept.2 in
    let step = c.in-Some.ensures.steps in
    let next = next_left kept.0 step in (
      still kept.0 step,
      omega (arith, kept.1, step.left),
      walk_turn c.requires.3 sofar c.in-Some.s next c.if-not-is_party.ensures c.child-r.ensures c.child-r.auto.out
          c.decision_in-d.ensures c.outcome-before.ensures c.take_in-k.ensures c.outcome-after.ensures c.stay.ensures c.stay-in-loop-i.ensures c.settles.ensures
          c.settle-m.ensures (omega (arith, c.requires.1)) (omega (arith, sofar.room, sofar.kept, c.requires.1)) c.settle-m.auto.out c.if-settles.false,
      omega (arith, kept.3, nest_rest next),
    )

pub walk-shape_of-out : goal.walk-shape_of-out
walk-shape_of-out t c = c.loop-i.invariant.2.kept

pub walk-returns : goal.walk-returns
walk-returns t c = walk_end c.requires.3 c.loop-i.invariant.2 (none_left c.loop-i.i-iterator c.in-None.ensures.steps) c.verdict-2.ensures
