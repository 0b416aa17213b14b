use Rattle.grammar.specs.Row.{Row}
use Prim.Native.Nat.{◌+◌, ◌-◌, ◌≤◌}
use Prim.Native.Nat.{ℕ, ◌<◌}
use Rattle.grammar.proofs.+party.Given as goal

abbrev pub invariant-loop-at : goal.invariant-loop-at
invariant-loop-at l =
    (l.at ≤ l.next) × (l.i < l.at) × ((gc pc : ℕ) → Row l.book (l.i + 1) l.at l.next l.depth 1 gc pc 0 5 l.due)

abbrev pub decreases-loop-at : goal.decreases-loop-at
decreases-loop-at l = l.next - l.at

abbrev pub decreases-party : goal.decreases-party
decreases-party l = l.top - l.i
