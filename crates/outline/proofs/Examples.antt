-- What a person reads of some numbers, computed: doubles and integers by their eight bytes. Assumes nothing.
use mathlib.Core.Path.{◌≡◌, refl}
use mathlib.Core.List.{[], ◌∷◌}
use Rattle.outline.specs.Outline.{digits_of, integer_of, sign_of, hexes_of, point_of, written_of, power_of, lead_of, hex_of, halved_of, whole_of, is_whole, digits_too, double_of}

-- 0.1: 0x1.999999999999ap-4
tenth : double_of 4591870180066957722 ≡ 48 ∷ 120 ∷ 49 ∷ 46 ∷ 57 ∷ 57 ∷ 57 ∷ 57 ∷ 57 ∷ 57 ∷ 57 ∷ 57 ∷ 57 ∷ 57 ∷ 57 ∷ 57 ∷ 97 ∷ 112 ∷ 45 ∷ 52 ∷ []
unfolding digits_of integer_of sign_of hexes_of point_of written_of power_of lead_of hex_of halved_of whole_of is_whole digits_too double_of
tenth = refl

-- -0.0: -0x0p+0 (-0)
minus_zero : double_of 9223372036854775808 ≡ 45 ∷ 48 ∷ 120 ∷ 48 ∷ 112 ∷ 43 ∷ 48 ∷ 32 ∷ 40 ∷ 45 ∷ 48 ∷ 41 ∷ []
unfolding digits_of integer_of sign_of hexes_of point_of written_of power_of lead_of hex_of halved_of whole_of is_whole digits_too double_of
minus_zero = refl

-- 42.0: 0x1.5p+5 (42)
forty_two : double_of 4631107791820423168 ≡ 48 ∷ 120 ∷ 49 ∷ 46 ∷ 53 ∷ 112 ∷ 43 ∷ 53 ∷ 32 ∷ 40 ∷ 52 ∷ 50 ∷ 41 ∷ []
unfolding digits_of integer_of sign_of hexes_of point_of written_of power_of lead_of hex_of halved_of whole_of is_whole digits_too double_of
forty_two = refl

-- the least double above 0: 0x0.0000000000001p-1022
least : double_of 1 ≡ 48 ∷ 120 ∷ 48 ∷ 46 ∷ 48 ∷ 48 ∷ 48 ∷ 48 ∷ 48 ∷ 48 ∷ 48 ∷ 48 ∷ 48 ∷ 48 ∷ 48 ∷ 48 ∷ 49 ∷ 112 ∷ 45 ∷ 49 ∷ 48 ∷ 50 ∷ 50 ∷ []
unfolding digits_of integer_of sign_of hexes_of point_of written_of power_of lead_of hex_of halved_of whole_of is_whole digits_too double_of
least = refl

-- 2^53 - 1: 0x1.fffffffffffffp+52 (9007199254740991)
largest_whole : double_of 4845873199050653695 ≡ 48 ∷ 120 ∷ 49 ∷ 46 ∷ 102 ∷ 102 ∷ 102 ∷ 102 ∷ 102 ∷ 102 ∷ 102 ∷ 102 ∷ 102 ∷ 102 ∷ 102 ∷ 102 ∷ 102 ∷ 112 ∷ 43 ∷ 53 ∷ 50 ∷ 32 ∷ 40 ∷ 57 ∷ 48 ∷ 48 ∷ 55 ∷ 49 ∷ 57 ∷ 57 ∷ 50 ∷ 53 ∷ 52 ∷ 55 ∷ 52 ∷ 48 ∷ 57 ∷ 57 ∷ 49 ∷ 41 ∷ []
unfolding digits_of integer_of sign_of hexes_of point_of written_of power_of lead_of hex_of halved_of whole_of is_whole digits_too double_of
largest_whole = refl

-- 2^53: 0x1p+53
not_below : double_of 4845873199050653696 ≡ 48 ∷ 120 ∷ 49 ∷ 112 ∷ 43 ∷ 53 ∷ 51 ∷ []
unfolding digits_of integer_of sign_of hexes_of point_of written_of power_of lead_of hex_of halved_of whole_of is_whole digits_too double_of
not_below = refl

-- -1: -1
minus_one : integer_of 18446744073709551615 ≡ 45 ∷ 49 ∷ []
unfolding digits_of integer_of sign_of hexes_of point_of written_of power_of lead_of hex_of halved_of whole_of is_whole digits_too double_of
minus_one = refl

-- -2^63: -9223372036854775808
lowest : integer_of 9223372036854775808 ≡ 45 ∷ 57 ∷ 50 ∷ 50 ∷ 51 ∷ 51 ∷ 55 ∷ 50 ∷ 48 ∷ 51 ∷ 54 ∷ 56 ∷ 53 ∷ 52 ∷ 55 ∷ 55 ∷ 53 ∷ 56 ∷ 48 ∷ 56 ∷ []
unfolding digits_of integer_of sign_of hexes_of point_of written_of power_of lead_of hex_of halved_of whole_of is_whole digits_too double_of
lowest = refl

-- 2^63 - 1: 9223372036854775807
highest : integer_of 9223372036854775807 ≡ 57 ∷ 50 ∷ 50 ∷ 51 ∷ 51 ∷ 55 ∷ 50 ∷ 48 ∷ 51 ∷ 54 ∷ 56 ∷ 53 ∷ 52 ∷ 55 ∷ 55 ∷ 53 ∷ 56 ∷ 48 ∷ 55 ∷ []
unfolding digits_of integer_of sign_of hexes_of point_of written_of power_of lead_of hex_of halved_of whole_of is_whole digits_too double_of
highest = refl
