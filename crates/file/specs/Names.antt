-- The names under which MENDED.HEX is written first. Assumes nothing.
use Rattle.std.specs.Prelude.{ℕ, ◌+◌, ◌/◌, ◌%◌, List, [], ◌∷◌, ◌++◌, map, codes}

-- a digit's place in a number of six digits
abbrev pub units : List ℕ
units = 100000 ∷ 10000 ∷ 1000 ∷ 100 ∷ 10 ∷ 1 ∷ []

-- the digit of that place
abbrev pub digit_of : ℕ → ℕ → ℕ
digit_of n unit = 48 + n / unit % 10

-- the last six digits of a number behind MENDED.HEX and a point
unfoldable pub name_of : ℕ → List ℕ
name_of n = codes "MENDED.HEX." ++ map (digit_of n) units
