use Prim.Native.Nat.{◌*◌}
use mathlib.Core.Path.{◌≡◌}
use lib.ListN.{length}
use Rattle.record.specs.Bytes.{size}
use Rattle.record.specs.Stored.{stored}
use Rattle.structure.specs.Subtrees.{slice_of}
use Rattle.mending.proofs.copy.Given as goal

abbrev pub invariant-loop-j : goal.invariant-loop-j
invariant-loop-j l = (length l.out ≡ length l.initial.out) × (l.out ≡ stored l.initial.out (l.k * size) (slice_of l.book l.i l.j))
