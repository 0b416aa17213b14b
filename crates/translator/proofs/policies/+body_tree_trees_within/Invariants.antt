use Prim.Native.Nat.{◌+◌, ◌-◌, ◌*◌}
use Rattle.emission.proofs.Turns.{Going, trees_to}
use Rattle.translator.proofs.policies.+body_tree_trees_within.Given as goal

abbrev pub invariant-trees-loop-child : goal.invariant-trees-loop-child
invariant-trees-loop-child l = Going l.node l.row (trees_to l.node.book.now l.node.stop l.up l.row.next) l.end l.initial.out l.out l.start

abbrev pub decreases-trees-loop-child : goal.decreases-trees-loop-child
decreases-trees-loop-child l = l.row.next

abbrev pub decreases-body : goal.decreases-body
decreases-body l = 4 * (l.node.stop - l.node.at)

abbrev pub decreases-tree : goal.decreases-tree
decreases-tree l = 4 * (l.node.stop - l.node.at) + 2

abbrev pub decreases-trees : goal.decreases-trees
decreases-trees l = 4 * (l.node.stop - l.node.at) - 1

abbrev pub decreases-within : goal.decreases-within
decreases-within l = 4 * (l.node.stop - l.node.at) + 1
