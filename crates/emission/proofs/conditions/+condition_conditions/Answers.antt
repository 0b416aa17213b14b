use mathlib.Core.Path.{refl}
use native.Mathlib.Omega.{arith}
use borrow.Author.Rules.{rules}
use Rattle.emission.proofs.Emit.{as_is, fits_as, same_as, differs, above, no_more, three, third_fits, second_fits, first_fits, op_at_lem, closes, opened, condition_zero}
use Rattle.emission.proofs.Turns.{conditions_to, go_begin, go_room, go_again, go_end, conditions_stop, conditions_turn, conditions_grow, cond_bare, cond_not, cond_parts, first_child, no_child}
use Rattle.emission.proofs.conditions.+condition_conditions.Goals as goal

pub condition-comparison-requires : goal.condition-comparison-requires
condition-comparison-requires t c =
    (fits_as _ (condition_zero _ _ _ _ (same_as c.choice-choice.ensures.0 c.if-choice-eq0.true)) c.requires.0, search rules)

pub condition-returns-then-choice-eq0 : goal.condition-returns-then-choice-eq0
condition-returns-then-choice-eq0 t c =
    as_is (condition_zero _ _ _ _ (same_as c.choice-choice.ensures.0 c.if-choice-eq0.true)) c.comparison.ensures

pub condition-weighing-requires : goal.condition-weighing-requires
condition-weighing-requires t c =
    (above 3 c.choice-choice.ensures.0 c.if-choice-gt-NOT.true, c.requires.0, search rules)

pub condition-comparison-requires-in_default : goal.condition-comparison-requires-in_default
condition-comparison-requires-in_default t c =
    (fits_as _ (cond_bare _ _ _ _ c.args.node.some (same_as c.choice-choice.ensures.0 c.if-choice-eq-NOT.true) (no_child c.rest.ensures c.in_default.ensures.none)) c.requires.0, search rules)

pub condition-returns-in_default : goal.condition-returns-in_default
condition-returns-in_default t c =
    as_is (cond_bare _ _ _ _ c.args.node.some (same_as c.choice-choice.ensures.0 c.if-choice-eq-NOT.true) (no_child c.rest.ensures c.in_default.ensures.none)) c.comparison-in_default.ensures

pub condition-single-foot-requires : goal.condition-single-foot-requires
condition-single-foot-requires t c = (
  third_fits (cond_not _ _ _ _ c.args.node.some (same_as c.choice-choice.ensures.0 c.if-choice-eq-NOT.true)
      (first_child c.rest.ensures c.in-Some.ensures.first)) _ c.requires.0,
  search rules,
  search rules,
)

pub condition-condition-head-requires : goal.condition-condition-head-requires
condition-condition-head-requires t c = (
  search rules,
  (
    second_fits
        (cond_not _ _ _ _ c.args.node.some (same_as c.choice-choice.ensures.0 c.if-choice-eq-NOT.true) (first_child c.rest.ensures c.in-Some.ensures.first))
        c.requires.0 (closes _ c.single-foot.ensures),
    search rules,
  ),
)

pub condition-single-requires : goal.condition-single-requires
condition-single-requires t c = (
  first_fits (cond_not _ _ _ _ c.args.node.some (same_as c.choice-choice.ensures.0 c.if-choice-eq-NOT.true)
      (first_child c.rest.ensures c.in-Some.ensures.first)) c.requires.0 (closes _ c.single-foot.ensures) c.condition-head.ensures,
  search rules,
  search rules,
)

pub condition-returns-then-choice-eq-NOT : goal.condition-returns-then-choice-eq-NOT
condition-returns-then-choice-eq-NOT t c =
    three (cond_not _ _ _ _ c.args.node.some (same_as c.choice-choice.ensures.0 c.if-choice-eq-NOT.true) (first_child c.rest.ensures c.in-Some.ensures.first))
    (closes _ c.single-foot.ensures) c.condition-head.ensures (opened _ 2 refl c.single.ensures)

pub condition-single-foot-requires-2 : goal.condition-single-foot-requires-2
condition-single-foot-requires-2 t c = (
  third_fits (cond_parts _ _ _ _ c.args.node.some (differs 0 c.choice-choice.ensures.0 c.if-choice-eq0.false)
      (no_more 3 c.choice-choice.ensures.0 c.if-choice-gt-NOT.false) (differs 3 c.choice-choice.ensures.0 c.if-choice-eq-NOT.false)) _ c.requires.0,
  search rules,
  search rules,
)

pub condition-conditions-head-requires : goal.condition-conditions-head-requires
condition-conditions-head-requires t c = (
  search rules,
  (
    second_fits
        (cond_parts _ _ _ _ c.args.node.some (differs 0 c.choice-choice.ensures.0 c.if-choice-eq0.false)
        (no_more 3 c.choice-choice.ensures.0 c.if-choice-gt-NOT.false) (differs 3 c.choice-choice.ensures.0 c.if-choice-eq-NOT.false)) c.requires.0
        (closes _ c.single-foot-2.ensures),
    search rules,
  ),
)

pub condition-single-requires-2 : goal.condition-single-requires-2
condition-single-requires-2 t c = (
  first_fits (cond_parts _ _ _ _ c.args.node.some (differs 0 c.choice-choice.ensures.0 c.if-choice-eq0.false)
      (no_more 3 c.choice-choice.ensures.0 c.if-choice-gt-NOT.false) (differs 3 c.choice-choice.ensures.0 c.if-choice-eq-NOT.false)) c.requires.0
      (closes _ c.single-foot-2.ensures) c.conditions-head.ensures,
  search rules,
  search rules,
)

pub condition-returns : goal.condition-returns
condition-returns t c =
    three (cond_parts _ _ _ _ c.args.node.some (differs 0 c.choice-choice.ensures.0 c.if-choice-eq0.false)
    (no_more 3 c.choice-choice.ensures.0 c.if-choice-gt-NOT.false) (differs 3 c.choice-choice.ensures.0 c.if-choice-eq-NOT.false))
    (closes _ c.single-foot-2.ensures) c.conditions-head.ensures
    (opened _ _ (op_at_lem c.choice-choice.ensures.0 c.if-choice-eq0.false c.if-choice-gt-NOT.false c.if-choice-eq-NOT.false) c.single-2.ensures)

pub conditions-loop-child-init : goal.conditions-loop-child-init
conditions-loop-child-init t c = go_begin (conditions_to _ _) _ _ (conditions_stop _ _) c.children-row.ensures

pub conditions-condition-start-requires : goal.conditions-condition-start-requires
conditions-condition-start-requires t c = (
  search rules,
  (
    go_room (conditions_to _ _) c.loop-child.invariant c.in-Some.ensures.child (conditions_grow _) c.requires.0
        (λ p k. conditions_turn _ p _ k),
    omega (arith, c.loop-child.invariant.done.starts, c.requires.1),
  ),
)

pub conditions-loop-child-preserved : goal.conditions-loop-child-preserved
conditions-loop-child-preserved t c =
    go_again (conditions_to _ _) c.loop-child.invariant c.in-Some.ensures.child c.take_last.ensures.parent (λ p k. conditions_turn _ p _ k) c.condition-start.ensures

pub conditions-returns : goal.conditions-returns
conditions-returns t c = go_end (conditions_to _ _) c.loop-child.invariant c.in_default.ensures.none
