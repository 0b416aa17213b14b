use mathlib.Core.Path.{◌≡◌}
use mathlib.Core.List.{[], ◌∷◌, ◌++◌}
use Prim.Native.Nat.{◌*◌, ◌+◌}
use lib.ListN.{length, drop}
use Rattle.record.specs.Stored.{stored}
use Rattle.line.specs.Line.{fours}
use Rattle.line.proofs.put_obligations.Given as goal

abbrev pub invariant-loop-i : goal.invariant-loop-i
invariant-loop-i l =
    (length l.out ≡ length l.initial.out)
    × (stored l.out (6 + 4 * l.i) (fours (drop l.i l.obligations) ++ (10 ∷ [])) ≡ stored l.initial.out 6 (fours l.obligations ++ (10 ∷ [])))
