use mathlib.Core.Path.{refl, sym, ◌∙◌, ap}
use Rattle.record.proofs.Walks.{all_left, still, next_left, none_left}
use Rattle.rules.proofs.Loops.{join_none, join_turn, join_stop, join_end}
use Rattle.rules.proofs.Laws.{conditions_more, conditions_none, is_joined, is_comparison, not_none, not_more}
use native.Mathlib.Omega.{arith}
use Rattle.rules.proofs.+condition.Goals as goal

pub returns-then-choice-gt-WEIGHS : goal.returns-then-choice-gt-WEIGHS
returns-then-choice-gt-WEIGHS t c = c.weighed.ensures

pub returns-then-choice-eq0 : goal.returns-then-choice-eq0
returns-then-choice-eq0 t c =
    let p = c.then-choice-eq0.either in
    is_comparison _ _ _ _ c.byte-choice.ensures.0 (λ w. omega (arith, p, w)) (λ w. omega (arith, p, w)) (λ w. omega (arith, p, w)) c.if-choice-gt-WEIGHS.false c.compared.ensures

pub returns-in-Some : goal.returns-in-Some
returns-in-Some t c =
    let new = c.new-parts.ensures in
    let begun = all_left {w = c.new-parts.result} refl new.book new.at new.left in
    not_more _ _ _ _ c.byte-choice.ensures.0 c.if-choice-eq-NOT.true (sym begun.1 ∙ next_left new.book c.in-Some.ensures.steps) c.condition.ensures c.not3.ensures

pub returns-in-None : goal.returns-in-None
returns-in-None t c =
    let new = c.new-parts.ensures in
    let begun = all_left {w = c.new-parts.result} refl new.book new.at new.left in
    not_none _ _ _ _ c.byte-choice.ensures.0 c.if-choice-eq-NOT.true (sym begun.1 ∙ none_left c.new-parts.result c.in-None.ensures.steps) c.compared-in-None.ensures

pub loop-at-init : goal.loop-at-init
loop-at-init t c =
    let new = c.new-parts.ensures in
    let begun = all_left c.into_iter-at-iterator.ensures.into_iter_gives new.book new.at new.left in (
      begun.0,
      omega (arith, ap (λ w. w.left) c.into_iter-at-iterator.ensures.into_iter_gives, new.left),
      rw begun.1 (join_none _ _ c.truth_of-acc.ensures ∙ is_joined _ _ _ _ c.byte-choice.ensures.0 c.if-choice-eq0.false c.if-choice-gt-NOT.false c.if-choice-eq-NOT.false),
    )

pub returns-then-is_sure : goal.returns-then-is_sure
returns-then-is_sure t c =
    let kept = c.loop-at.invariant in
    join_stop _ _ (conditions_more _ (next_left kept.0 c.in-Some-2.ensures.steps) _ c.condition-t.ensures) c.is_sure.ensures c.if-is_sure.true kept.2

pub loop-at-preserved : goal.loop-at-preserved
loop-at-preserved t c =
    let kept = c.loop-at.invariant in
    let step = c.in-Some-2.ensures.steps in
    (still kept.0 step, omega (arith, kept.1, step.left), join_turn _ _ (conditions_more _ (next_left kept.0 step) _ c.condition-t.ensures) c.joined-acc.ensures kept.2)

pub returns : goal.returns
returns t c = join_end _ _ (conditions_none (none_left c.loop-at.at-iterator c.in-None-2.ensures.steps) _ _) c.loop-at.invariant.2
