-- Worked examples, computed.
use Rattle.std.specs.Prelude.{◌≡◌, refl, ◌+◌, ◌^◌, pos}
use Rattle.std.specs.Float.{binary64}
use Rattle.std.specs.Float.Ieee.{to_bits, of_bits, add, size}
use Rattle.value.specs.Units.{units_of}
use Rattle.doubles.specs.Rounds.{nearest_size}

-- 0.1 + 0.2 is 0.30000000000000004
point_three : to_bits binary64 (add binary64 (of_bits binary64 0x3FB999999999999A) (of_bits binary64 0x3FC999999999999A)) ≡ 0x3FD3333333333334
unfolding to_bits of_bits add
point_three = refl

units_one : units_of 0x3FF0000000000000 ≡ pos (2 ^ 1074)
units_one = refl

units_minus_zero : units_of 0x8000000000000000 ≡ pos 0
units_minus_zero = refl

least : units_of 1 ≡ pos 1
least = refl

-- 2 ^ 53 + 1 units is a tie, and goes down to the even
tie : nearest_size (2 ^ 53 + 1) ≡ 2 ^ 53
unfolding size
tie = refl
