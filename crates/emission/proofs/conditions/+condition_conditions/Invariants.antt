use Prim.Native.Nat.{◌-◌, ◌*◌}
use Rattle.emission.proofs.Turns.{Going, conditions_to}
use Rattle.emission.proofs.conditions.+condition_conditions.Given as goal

abbrev pub invariant-conditions-loop-child : goal.invariant-conditions-loop-child
invariant-conditions-loop-child l = Going l.node l.row (conditions_to l.node.book.now l.node.stop l.row.next) l.end l.initial.out l.out l.start

abbrev pub decreases-conditions-loop-child : goal.decreases-conditions-loop-child
decreases-conditions-loop-child l = l.row.next

abbrev pub decreases-condition : goal.decreases-condition
decreases-condition l = 2 * (l.node.stop - l.node.at)

abbrev pub decreases-conditions : goal.decreases-conditions
decreases-conditions l = 2 * (l.node.stop - l.node.at) - 1
