-- Document 02, 3, of double add: "rounded once: the double nearest the exact sum (a whole number of units of two to the power -1074), on a tie the one whose last
-- bit is 0, not finite from two to the power 1024 less two to the power 970 in size". `proofs/Claims.antt` proves it. Assumes nothing.
use Rattle.std.specs.Prelude.{ℕ, ◌*◌, ◌%◌, ◌^◌, ◌<◌, ◌≤◌, ◌≡◌, Bool, true, false, ◌⊎◌, T, leb, ℤ, nat_abs, ◌+ℤ◌}
use Rattle.std.specs.Float.{inf, binary64}
use Rattle.std.specs.Float.Ieee.{of_bits, add}
use Rattle.std.specs.Float.Ieee.Exact.{HasValue}
use Rattle.value.specs.Value.{finite_of}
use Rattle.value.specs.Units.{units_of}
use Rattle.doubles.specs.Rounds.{dropped, even, nearest_size, minus_of, rounded_of, finite_sum, dist}

-- the machine's addition of two finite doubles, by their eight bytes, is this double
abbrev pub MachineAdds : Type 0
MachineAdds =
    (a b : ℕ) → T (finite_of a) → T (finite_of b)
    → add binary64 (of_bits binary64 a) (of_bits binary64 b) ≡ rounded_of (leb (2 ^ 63) a) (leb (2 ^ 63) b) (units_of a +ℤ units_of b)

-- a finite one has the size that is rounded to, in units
abbrev pub RoundedSize : Type 0
RoundedSize = (s t : Bool) (z : ℤ) → finite_sum z ≡ true → HasValue (rounded_of s t z) (minus_of s t z) (nearest_size (nat_abs z)) (2 ^ 1074)

-- of all sizes that 53 binary digits hold none is nearer to m than the one that is rounded to, and one as near is the same or has an odd last digit
abbrev pub NoneNearer : Type 0
NoneNearer = (m q j : ℕ) → q < 2 ^ 53 → dist m (nearest_size m) ≤ dist m (q * 2 ^ j)

abbrev pub TieEven : Type 0
TieEven = (m q j : ℕ) → q < 2 ^ 53 → dist m (q * 2 ^ j) ≡ dist m (nearest_size m) → (q * 2 ^ j ≡ nearest_size m) ⊎ (even m (dropped m) % 2 ≡ 0)

-- and from that size on it is not finite
abbrev pub InfiniteFrom : Type 0
InfiniteFrom = (s t : Bool) (z : ℤ) → finite_sum z ≡ false → rounded_of s t z ≡ inf (minus_of s t z)
