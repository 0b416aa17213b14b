use lib.ListN.{length}
use Prim.Native.Nat.{◌<◌, ◌≤◌}
use mathlib.Core.Bool.{true}
use mathlib.Core.Path.{◌≡◌}
use Rattle.record.specs.Below.{all_below}
use Rattle.ticks.specs.Budget.{is_decimal, decimal_of}
use Rattle.ticks.proofs.budget.budget_in.Given as goal

abbrev pub invariant-loop-c : goal.invariant-loop-c
invariant-loop-c l = (0 < length l.word) × (all_below (is_decimal l.word) l.c-index ≡ true) × (l.n ≡ decimal_of l.word l.c-index) × (l.n ≤ 18446744073709551615)
