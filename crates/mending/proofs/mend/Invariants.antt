use Prim.Native.Nat.{◌≤◌, ◌<◌, ◌*◌}
use mathlib.Core.Path.{◌≡◌}
use lib.ListN.{length}
use Rattle.record.proofs.Steps.{Left}
use Rattle.mending.proofs.Mending.{Mending}
use Rattle.mending.proofs.mend.Given as goal

abbrev pub invariant-loop-i : goal.invariant-loop-i
invariant-loop-i l =
    let at = l.i-iterator.at in
    (at ≤ l.n) × (l.k ≤ at) × (l.m * 2 < at) × (length l.out ≡ length l.initial.out) × (length l.replaced ≡ length l.initial.replaced)
    × Mending l.book l.n l.category l.initial.out l.initial.replaced at l.out l.k l.replaced l.m
    × Left l.i-iterator l.book at l.n
