use native.Mathlib.Omega.{arith}
use Rattle.emission.proofs.Turns.{go_begin, go_room, go_again, go_end, conjunctions_to, conjunctions_stop, conjunctions_turn, conjunctions_grow}
use Rattle.emission.proofs.targets.conjunctions.Goals as goal

pub loop-child-init : goal.loop-child-init
loop-child-init c = go_begin (conjunctions_to _ _ _ _) _ _ (conjunctions_stop _ _ _ _) c.children-row.ensures

pub conjunction-start-requires : goal.conjunction-start-requires
conjunction-start-requires c = (
  go_room (conjunctions_to _ _ _ _) c.loop-child.invariant c.in-Some.ensures.child (conjunctions_grow _ _ _ _) c.requires.0
      (λ p k. conjunctions_turn _ _ _ _ p _ k),
  omega (arith, c.loop-child.invariant.done.starts, c.requires.1),
  omega (arith, c.loop-child.invariant.done.starts, c.requires.1),
)

pub loop-child-preserved : goal.loop-child-preserved
loop-child-preserved c =
    go_again (conjunctions_to _ _ _ _) c.loop-child.invariant c.in-Some.ensures.child c.take_last.ensures.parent (λ p k. conjunctions_turn _ _ _ _ p _ k) c.conjunction-start.ensures

pub returns : goal.returns
returns c = go_end (conjunctions_to _ _ _ _) c.loop-child.invariant c.in_default.ensures.none
