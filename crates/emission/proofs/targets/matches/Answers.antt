use borrow.Author.Rules.{rules}
use Rattle.emission.proofs.Turns.{go_begin, go_room, go_again, go_end, matches_to, matches_stop, matches_turn, matches_grow}
use Rattle.emission.proofs.targets.matches.Goals as goal

pub loop-child-init : goal.loop-child-init
loop-child-init c = go_begin (matches_to _ _ _ _ _ _) _ _ (matches_stop _ _ _ _ _ _) c.children-row.ensures

pub match_entry-start-requires : goal.match_entry-start-requires
match_entry-start-requires c = (
  go_room (matches_to _ _ _ _ _ _) c.loop-child.invariant c.in-Some.ensures.child (matches_grow _ _ _ _ _ _) c.requires.0
      (λ p k. matches_turn _ _ _ _ _ _ p _ k),
  search rules,
  search rules,
  search rules,
)

pub loop-child-preserved : goal.loop-child-preserved
loop-child-preserved c =
    go_again (matches_to _ _ _ _ _ _) c.loop-child.invariant c.in-Some.ensures.child c.take_last.ensures.parent (λ p k. matches_turn _ _ _ _ _ _ p _ k) c.match_entry-start.ensures

pub returns : goal.returns
returns c = go_end (matches_to _ _ _ _ _ _) c.loop-child.invariant c.in_default.ensures.none
