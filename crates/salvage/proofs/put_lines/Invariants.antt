use mathlib.Core.Path.{◌≡◌}
use Prim.Native.Nat.{◌-◌, ◌*◌}
use lib.ListN.{length}
use Rattle.record.specs.Stored.{stored}
use Rattle.salvage.specs.Salvage.{lines_of}
use Rattle.salvage.specs.Places.{replacements_at}
use Rattle.salvage.proofs.put_lines.Given as goal

abbrev pub invariant-loop-i : goal.invariant-loop-i
invariant-loop-i l =
    (length l.out ≡ length l.initial.out)
    × (stored l.out (l.i * 9) (lines_of (replacements_at l.replaced l.i (l.m - l.i))) ≡ stored l.initial.out 0 (lines_of (replacements_at l.replaced 0 l.m)))
