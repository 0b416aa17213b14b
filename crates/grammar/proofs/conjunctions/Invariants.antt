use Rattle.grammar.specs.Row.{Row}
use Rattle.placement.specs.Place.{most_depth}
use Prim.Native.Nat.{ℕ, ◌+◌, ◌≤◌, ◌<◌, ◌-◌}
use Rattle.grammar.proofs.conjunctions.Given as goal

abbrev pub invariant-loop-i : goal.invariant-loop-i
invariant-loop-i l =
    (l.from ≤ l.i) × (l.i ≤ l.end) × ((d gc : ℕ) → d + 1 < most_depth → Row l.book l.from l.i l.end d 4 gc l.category 5 5 0)

abbrev pub decreases-loop-i : goal.decreases-loop-i
decreases-loop-i l = l.end - l.i
