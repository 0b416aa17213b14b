use Rattle.meaning.specs.Reading.{bags_of}
use Rattle.record.specs.Forest.{height}
use Rattle.record.specs.Siblings.{forest_left}
use Rattle.decider.proofs.Laws.{Sofar}
use Prim.Native.Nat.{◌+◌, ◌*◌, ◌≤◌}
use mathlib.Core.Path.{◌≡◌}
use Rattle.decider.proofs.+body_child_gather_walk.Given as goal

abbrev pub invariant-walk-loop-i : goal.invariant-walk-loop-i
invariant-walk-loop-i l =
    (l.i-iterator.book.now ≡ l.book) × (l.i-iterator.left ≤ l.count)
    × Sofar l.book (bags_of l.request) l.a l.initial.out l.n l.from l.count (forest_left l.i-iterator) l.k l.out l.m
    × (height (forest_left l.i-iterator) ≤ l.depth)

abbrev pub decreases-body : goal.decreases-body
decreases-body l = 4 * l.s + 1

abbrev pub decreases-child : goal.decreases-child
decreases-child l = 4 * l.s + 2

abbrev pub decreases-gather : goal.decreases-gather
decreases-gather l = 4 * l.s

abbrev pub decreases-walk : goal.decreases-walk
decreases-walk l = 4 * l.count + 3
