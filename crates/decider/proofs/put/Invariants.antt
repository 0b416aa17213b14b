use Rattle.std.proofs.Common.{◌≡◌}
use Rattle.record.specs.Forest.{forest}
use Rattle.record.specs.Siblings.{forest_left}
use Rattle.decider.proofs.Laws.{Putting}
use Rattle.decider.proofs.put.Given as goal

abbrev pub invariant-loop-i : goal.invariant-loop-i
invariant-loop-i l =
    (l.i-iterator.book.now ≡ l.book) × Putting l.book l.d l.initial.out l.n (forest l.book l.from l.count) (forest_left l.i-iterator) l.out l.m
