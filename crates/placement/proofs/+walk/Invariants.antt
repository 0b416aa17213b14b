use Prim.Native.Nat.{◌≤◌, ◌<◌, ◌+◌, ◌-◌}
use mathlib.Core.Path.{◌≡◌}
use Rattle.record.proofs.Steps.{Left}
use Rattle.fields.specs.First.{first_from}
use Rattle.placement.specs.Place.{place_ok}
use Rattle.placement.specs.Walk.{Walk}
use Rattle.placement.proofs.+walk.Given as goal

abbrev pub invariant-loop-i : goal.invariant-loop-i
invariant-loop-i l =
    let at = l.i-iterator.at in
    (at ≤ l.top) × (l.p < at) × (l.before < 256)
    × Walk l.book l.p at l.top l.parent.depth l.parent.kind l.parent.outer l.parent.category l.before
    × (first_from (place_ok l.book) (l.p + 1) (l.top - (l.p + 1)) ≡ first_from (place_ok l.book) at (l.top - at))
    × Left l.i-iterator l.book at l.top

abbrev pub decreases-walk : goal.decreases-walk
decreases-walk l = l.top - l.p
