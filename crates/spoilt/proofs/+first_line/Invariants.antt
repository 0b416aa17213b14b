use Prim.Native.Nat.{◌≤◌, ◌<◌, ◌-◌}
use mathlib.Core.Path.{◌≡◌}
use Rattle.spoilt.specs.Places.{of_parent, first_at}
use Rattle.record.proofs.Steps.{Left}
use Rattle.spoilt.proofs.+first_line.Given as goal

abbrev pub invariant-loop-i : goal.invariant-loop-i
invariant-loop-i l =
    let at = l.i-iterator.at in
    (at ≤ l.top) × (l.from ≤ at) × (l.rank < 256)
    × (first_at l.replaces (of_parent l.up) l.before l.book l.from (l.top - l.from) ≡ first_at l.replaces (of_parent l.up) l.rank l.book at (l.top - at))
    × Left l.i-iterator l.book at l.top

abbrev pub decreases-first_line : goal.decreases-first_line
decreases-first_line l = l.top - l.from
