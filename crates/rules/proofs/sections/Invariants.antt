use Rattle.std.proofs.Common.{◌≡◌}
use Rattle.record.specs.Forest.{forest}
use Rattle.record.specs.Siblings.{forest_left}
use Rattle.meaning.specs.Logic.{target_all, target_and}
use Rattle.meaning.specs.Meaning.{sections_of, target_of}
use Rattle.meaning.specs.Reading.{target_in, bags_of}
use Rattle.rules.proofs.Loops.{then}
use Rattle.rules.proofs.sections.Given as goal

abbrev pub invariant-loop-i : goal.invariant-loop-i
invariant-loop-i l =
    (l.i-iterator.book.now ≡ l.book)
    × (then target_all target_and l.acc (sections_of (bags_of l.request) (target_in l.book (forest_left l.i-iterator))) ≡ target_of (bags_of l.request) (target_in l.book (forest l.book l.from l.count)))
