use mathlib.Core.Path.{refl, sym, ◌∙◌}
use native.Mathlib.Omega.{arith}
use borrow.Author.Rules.{rules}
use Rattle.emission.proofs.Turns.{go_begin, go_room, go_again, go_skip, go_end, trees_to, trees_stop, trees_turn, trees_skip, trees_grow, set_to, policy_to, body_to, within_to, target_children}
use Rattle.emission.proofs.Emit.{as_is, fits_as, third_fits, second_fits, first_fits, three, behind, past_body, past_both, same_as, differs, code_of, concluded, left_by, entered, tree_parts}
use Rattle.translator.proofs.policies.+body_tree_trees_within.Goals as goal

pub body-obligations-own-requires : goal.body-obligations-own-requires
body-obligations-own-requires t c =
    third_fits (body_to _ _ _ _ refl) _ c.requires.0

pub body-single-mid-requires : goal.body-single-mid-requires
body-single-mid-requires t c =
    (second_fits (body_to _ _ _ _ refl) c.requires.0 c.obligations-own.ensures, search rules, search rules)

pub body-trees-requires : goal.body-trees-requires
body-trees-requires t c = (
  search rules,
  (
    first_fits (set_to _ _ _ _ _ (same_as c.kind.ensures.0 c.if-kind-eq-SET.true) c.choice.ensures.0 (behind c.obligations-own.ensures))
        c.requires.0 c.obligations-own.ensures (concluded _ c.single-mid.ensures),
    search rules,
  ),
)

pub body-returns-then-kind-eq-SET : goal.body-returns-then-kind-eq-SET
body-returns-then-kind-eq-SET t c =
    three (set_to _ _ _ _ _ (same_as c.kind.ensures.0 c.if-kind-eq-SET.true) c.choice.ensures.0 (behind c.obligations-own.ensures)) c.obligations-own.ensures
    (concluded _ c.single-mid.ensures) c.trees.ensures

pub body-rules_in-requires : goal.body-rules_in-requires
body-rules_in-requires t c = (
  first_fits (policy_to _ _ _ _ (differs 1 c.kind.ensures.0 c.if-kind-eq-SET.false) (behind c.obligations-own.ensures)) c.requires.0
      c.obligations-own.ensures (concluded _ c.single-mid.ensures),
  search rules,
)

pub body-returns : goal.body-returns
body-returns t c =
    three (policy_to _ _ _ _ (differs 1 c.kind.ensures.0 c.if-kind-eq-SET.false) (behind c.obligations-own.ensures)) c.obligations-own.ensures (concluded _ c.single-mid.ensures) c.rules_in.ensures

pub tree-single-foot-requires : goal.tree-single-foot-requires
tree-single-foot-requires t c = (third_fits (tree_parts _ _ _ _ _) _ c.requires.0, search rules, search rules)

pub tree-within-head-requires : goal.tree-within-head-requires
tree-within-head-requires t c =
    (search rules, (second_fits (tree_parts _ _ _ _ _) c.requires.0 (left_by _ c.single-foot.ensures), search rules))

pub tree-single-requires : goal.tree-single-requires
tree-single-requires t c =
    (first_fits (tree_parts _ _ _ _ _) c.requires.0 (left_by _ c.single-foot.ensures) c.within-head.ensures, search rules, search rules)

pub tree-returns : goal.tree-returns
tree-returns t c =
    three (tree_parts _ _ _ _ _) (left_by _ c.single-foot.ensures) c.within-head.ensures (entered _ (code_of c.code-algorithm.ensures.0 c.algorithm_at.ensures) c.single.ensures)

pub trees-loop-child-init : goal.trees-loop-child-init
trees-loop-child-init t c = go_begin (trees_to _ _ _) _ _ (trees_stop _ _ _) c.children-row.ensures

pub trees-tree-start-requires : goal.trees-tree-start-requires
trees-tree-start-requires t c = (
  search rules,
  (
    go_room (trees_to _ _ _) c.loop-child.invariant c.in-Some.ensures.child (trees_grow _ _ _) c.requires.0
        (λ p k. trees_turn _ _ _ p _ (sym c.is_party.ensures ∙ c.if-is_party.true) k),
    omega (arith, c.loop-child.invariant.done.starts, c.requires.1),
  ),
)

pub trees-loop-child-preserved-then-is_party : goal.trees-loop-child-preserved-then-is_party
trees-loop-child-preserved-then-is_party t c =
    go_again (trees_to _ _ _) c.loop-child.invariant c.in-Some.ensures.child c.take_last.ensures.parent
    (λ p k. trees_turn _ _ _ p _ (sym c.is_party.ensures ∙ c.if-is_party.true) k) c.tree-start.ensures

pub trees-loop-child-preserved : goal.trees-loop-child-preserved
trees-loop-child-preserved t c =
    go_skip (trees_to _ _ _) c.loop-child.invariant c.in-Some.ensures.child c.take_last.ensures.parent (λ p. trees_skip _ _ _ p (sym c.is_party.ensures ∙ c.if-is_party.false))

pub trees-returns : goal.trees-returns
trees-returns t c = go_end (trees_to _ _ _) c.loop-child.invariant c.in_default.ensures.none

pub within-body-low-requires : goal.within-body-low-requires
within-body-low-requires t c =
    (search rules, (third_fits (within_to _ _ _ _ _ _ _ refl refl) _ c.requires.0, search rules))

pub within-applies-mid-requires : goal.within-applies-mid-requires
within-applies-mid-requires t c =
    (second_fits (within_to _ _ _ _ _ _ _ (past_body _ c.body-low.ensures c.beyond-away.ensures) refl) c.requires.0 c.body-low.ensures, search rules)

pub within-target-requires : goal.within-target-requires
within-target-requires t c = (
  fits_as _ (target_children c.args.node.at _ c.rest.ensures)
      (first_fits (within_to _ _ _ _ _ _ _ (past_body _ c.body-low.ensures c.beyond-away.ensures) (past_both c.body-low.ensures c.applies-mid.ensures))
      c.requires.0 c.body-low.ensures c.applies-mid.ensures),
  search rules,
)

pub within-returns : goal.within-returns
within-returns t c =
    three (within_to _ _ _ _ _ _ _ (past_body _ c.body-low.ensures c.beyond-away.ensures) (past_both c.body-low.ensures c.applies-mid.ensures))
    c.body-low.ensures c.applies-mid.ensures (as_is (target_children c.args.node.at _ c.rest.ensures) c.target.ensures)
