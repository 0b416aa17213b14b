use mathlib.Core.Path.{refl}
use Rattle.meaning.specs.Meaning.{target_of}
use Rattle.record.proofs.Walks.{all_left, still, next_left, none_left}
use Rattle.rules.proofs.Loops.{targets, targets_stop, then, turn, end}
use Rattle.rules.proofs.Laws.{sections_more, sections_over, sections_none}
use Rattle.rules.proofs.sections.Goals as goal

pub loop-i-init : goal.loop-i-init
unfolding then target_of
loop-i-init c =
    let new = c.new-i-items.ensures in
    let begun = all_left c.into_iter-i-iterator.ensures.into_iter_gives new.book new.at new.left in
    (begun.0, rw begun.1 refl)

pub returns-then-byte-ne-SECTION : goal.returns-then-byte-ne-SECTION
returns-then-byte-ne-SECTION c =
    let kept = c.loop-i.invariant in
    end targets _ (sections_over _ (next_left kept.0 c.in-Some.ensures.steps) _ c.byte.ensures.0 c.if-byte-ne-SECTION.true) kept.1

pub returns-in-Unknown : goal.returns-in-Unknown
returns-in-Unknown c =
    let kept = c.loop-i.invariant in
    targets_stop _ _ c.in-Unknown.is
    (turn targets _ (sections_more _ (next_left kept.0 c.in-Some.ensures.steps) _ c.byte.ensures.0 c.if-byte-ne-SECTION.false c.section.ensures)
    c.target3-acc.ensures kept.1)

pub loop-i-preserved : goal.loop-i-preserved
loop-i-preserved c =
    let kept = c.loop-i.invariant in (
      still kept.0 c.in-Some.ensures.steps,
      turn targets _ (sections_more _ (next_left kept.0 c.in-Some.ensures.steps) _ c.byte.ensures.0 c.if-byte-ne-SECTION.false c.section.ensures)
          c.target3-acc.ensures kept.1,
    )

pub returns : goal.returns
returns c = end targets _ (sections_none (none_left c.loop-i.i-iterator c.in-None.ensures.steps) _ _) c.loop-i.invariant.1
