-- Lent places as a stack: what stands below a height, and all of it. Assumes nothing.
use Rattle.std.specs.Prelude.{ℕ, ◌+◌, ◌-◌, ◌≡◌, List, ◌++◌, length, take, drop}

-- the first m places of e are the first n of l and then xs; what stands above m is not said
pub record Holds (l : List ℕ) (n : ℕ) (xs : List ℕ) (e : List ℕ) (m : ℕ) : Type 0 where
  pub front : take m e ≡ take n l ++ xs
  pub count : m ≡ n + length xs

-- the places are those of l with xs from place n on, and m is the height above xs; what stands higher stays
pub record Stacked (l : List ℕ) (n : ℕ) (xs : List ℕ) (e : List ℕ) (m : ℕ) : Type 0 where
  pub places : e ≡ take n l ++ xs ++ drop m l
  pub count : m ≡ n + length xs

-- the places from m to below e
unfoldable pub between : ℕ → ℕ → List ℕ → List ℕ
between m e l = take (e - m) (drop m l)
