use Rattle.grammar.specs.Row.{Row}
use Prim.Native.Nat.{ℕ, ◌+◌, ◌-◌, ◌*◌, ◌≤◌, ◌<◌}
use Rattle.grammar.proofs.+condition_joined.Given as goal

abbrev pub invariant-joined-loop-at : goal.invariant-joined-loop-at
invariant-joined-loop-at l =
    (l.i < l.at) × (l.at ≤ l.next) × ((gc pc : ℕ) → Row l.book (l.i + 1) l.at l.next (l.depth + 1) 71 gc pc 5 5 0)

abbrev pub decreases-joined-loop-at : goal.decreases-joined-loop-at
decreases-joined-loop-at l = l.next - l.at

abbrev pub decreases-condition : goal.decreases-condition
decreases-condition l = 2 * (l.end - l.i) + 1

abbrev pub decreases-joined : goal.decreases-joined
decreases-joined l = 2 * (l.end - l.i)
