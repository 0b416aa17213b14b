use Rattle.std.proofs.Common.{◌≡◌, ℕ}
use Rattle.record.specs.Choose.{if}
use Rattle.record.specs.Forest.{Forest}
use Rattle.record.specs.Siblings.{forest_left}
use Rattle.meaning.specs.Logic.{and_all, or_all}
use Rattle.meaning.specs.declared.Truth.{Truth}
use Rattle.rules.specs.Parts.{truths, Says}
use Rattle.rules.proofs.Loops.{join_then}
use Rattle.rules.proofs.join.Given as goal

abbrev pub invariant-loop-at : goal.invariant-loop-at
invariant-loop-at g l =
    (l.at-iterator.book.now ≡ l.fn.parts.book.now)
    × ((says : ℕ → Forest → Truth) → Says g.F.Fn l.part l.fn.parts.book.now says
    → join_then l.all l.acc (truths says (forest_left l.at-iterator)) ≡ if l.all (and_all (truths says (forest_left l.fn.parts))) (or_all (truths says (forest_left l.fn.parts))))
