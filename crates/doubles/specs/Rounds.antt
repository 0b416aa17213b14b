-- Document 02, 3: the double nearest an exact sum, a whole number of units of two to the power -1074. Assumes nothing.
use Prim.Native.Nat.{ℕ, ◌+◌, ◌-◌, ◌*◌, ◌/◌, ◌%◌, ◌^◌, compare}
use Rattle.std.specs.Prelude.{Bool, ◌&&◌, ◌||◌, ltb, ℤ, pos, nat_abs, Float}
use Rattle.std.specs.Int.Signed.{lt_z}
use Rattle.std.specs.Float.{binary64}
use Rattle.std.specs.Float.Ieee.{size, nearest, units}

-- how many binary digits of m a double drops: it keeps the leading 53
abbrev pub dropped : ℕ → ℕ
dropped m = size m - 53

-- m to the nearest multiple of 2 ^ k, a tie to the even one
abbrev pub even : ℕ → ℕ → ℕ
even m k = nearest (m / 2 ^ k) (compare (m % 2 ^ k * 2) (2 ^ k))

-- the nearest double's size, in units
abbrev pub nearest_size : ℕ → ℕ
nearest_size m = even m (dropped m) * 2 ^ dropped m

-- a sum is negative where its value is, and a zero where both summands have the sign
abbrev pub minus_of : Bool → Bool → ℤ → Bool
minus_of s t z = (s && t) || lt_z z (pos 0)

-- the double nearest z units, where the summands have the signs s and t
abbrev pub rounded_of : Bool → Bool → ℤ → Float
rounded_of s t z = units binary64 (minus_of s t z) (even (nat_abs z) (dropped (nat_abs z))) (dropped (nat_abs z))

-- not finite from 2 ^ 1024 - 2 ^ 970 in size, which is 2 ^ 2098 - 2 ^ 2044 units
abbrev pub finite_sum : ℤ → Bool
finite_sum z = ltb (nat_abs z) (2 ^ 2098 - 2 ^ 2044)

-- how far apart two numbers are
abbrev pub dist : ℕ → ℕ → ℕ
dist a b = (a - b) + (b - a)
