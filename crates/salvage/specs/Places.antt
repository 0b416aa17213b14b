-- Replacements by places in bytes, and what stands first in a lent output. Assumes nothing.
use Rattle.std.specs.Prelude.{ℕ, zero, suc, ◌+◌, ◌*◌, ◌≤◌, ◌≡◌, List, [], ◌∷◌, length, take}
use Rattle.record.specs.Bytes.{big_of}
use Rattle.mending.specs.Mending.{Replacement}

-- the n replacements from replacement i on, four bytes each: first old line and old count
unfoldable pub replacements_at : List ℕ → ℕ → ℕ → List Replacement
replacements_at b i zero = []
replacements_at b i (suc n) = record { line = big_of b (i * 4) 2; lines = big_of b (i * 4 + 2) 2 } ∷ replacements_at b (i + 1) n

-- the first n of a list are these
pub record First (n : ℕ) (l xs : List ℕ) : Type 0 where
  pub inside : n ≤ length l
  pub are : take n l ≡ xs
