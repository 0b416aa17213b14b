use Rattle.std.proofs.Common.{◌≡◌, ◌+◌, ◌-◌, ◌<◌}
use Rattle.record.specs.Forest.{forest}
use Rattle.record.specs.Siblings.{forest_left}
use Rattle.meaning.specs.Meaning.{condition_of, conditions_of}
use Rattle.meaning.specs.Reading.{condition_from, conditions_in, bags_of}
use Rattle.rules.proofs.Loops.{join_then}
use Rattle.rules.proofs.+condition.Given as goal

abbrev pub invariant-loop-at : goal.invariant-loop-at
invariant-loop-at l =
    (l.at-iterator.book.now ≡ l.book) × (l.at-iterator.left < l.s)
    × (join_then l.all l.acc (conditions_of (bags_of l.request) (conditions_in l.book (forest_left l.at-iterator))) ≡ condition_of (bags_of l.request) (condition_from l.book l.i (forest l.book (l.i + 1) (l.s - 1))))

abbrev pub decreases-condition : goal.decreases-condition
decreases-condition l = l.s
