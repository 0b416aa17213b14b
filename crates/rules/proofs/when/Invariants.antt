use Rattle.std.proofs.Common.{◌≡◌}
use Rattle.record.specs.Forest.{forest}
use Rattle.record.specs.Siblings.{forest_left}
use Rattle.meaning.specs.Meaning.{when_of}
use Rattle.meaning.specs.Reading.{when_in, bags_of}
use Rattle.rules.proofs.when.Given as goal

abbrev pub invariant-loop-i : goal.invariant-loop-i
invariant-loop-i l =
    (l.i-iterator.book.now ≡ l.book)
    × (when_of (bags_of l.request) (when_in l.book (forest_left l.i-iterator)) ≡ when_of (bags_of l.request) (when_in l.book (forest l.book l.from l.count)))
