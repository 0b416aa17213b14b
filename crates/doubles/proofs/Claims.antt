-- The claims of specs/Claims.antt. Assumes nothing.
use mathlib.Core.Path.{◌≡◌}
use Prim.Native.Nat.{ℕ, ◌*◌, ◌^◌, ◌≤◌}
use mathlib.Core.Bool.{Bool}
use borrow.Author.Tests.{le-ltb, ltb-true, ltb-false}
use lib.IntN.{nat_abs}
use lib.Ieee.{inf, binary64, units}
use lib.Ieee.Exact.{units_val}
use Rattle.doubles.specs.Rounds.{dropped, even, minus_of}
use Rattle.doubles.specs.Claims.{MachineAdds, RoundedSize, NoneNearer, TieEven, InfiniteFrom}
use Rattle.doubles.proofs.Rounds.{add_units}
use Rattle.doubles.proofs.Overflow.{fits_below, fails_from}
use Rattle.doubles.proofs.Closest as closest

pub machine_adds : MachineAdds
machine_adds a b p q = add_units a b p q

pub rounded_size : RoundedSize
rounded_size s t z h = units_val binary64 (minus_of s t z) (even (nat_abs z) (dropped (nat_abs z))) (dropped (nat_abs z)) (fits_below (nat_abs z) (ltb-true _ _ h))

pub none_nearer : NoneNearer
none_nearer m q j h = closest.none_nearer m q j h

pub tie_even : TieEven
tie_even m q j h e = closest.tie_even m q j h e

over : (s : Bool) (q k : ℕ) → 2 ^ 2098 ≤ q * 2 ^ k → units binary64 s q k ≡ inf s
unfolding units
over s q k h = rw (le-ltb (q * 2 ^ k) (2 ^ 2098) h)

pub infinite_from : InfiniteFrom
infinite_from s t z h = over (minus_of s t z) (even (nat_abs z) (dropped (nat_abs z))) (dropped (nat_abs z)) (fails_from (nat_abs z) (ltb-false _ _ h))
