use Rattle.emission.proofs.Turns.{Going, rules_to}
use Rattle.translator.proofs.policies.rules_in.Given as goal

abbrev pub invariant-loop-child : goal.invariant-loop-child
invariant-loop-child l = Going l.node l.row (rules_to l.node.book.now l.node.stop l.row.next) l.end l.initial.out l.out l.start

abbrev pub decreases-loop-child : goal.decreases-loop-child
decreases-loop-child l = l.row.next
