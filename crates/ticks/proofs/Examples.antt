-- Words as budgets, by computation. Assumes nothing.
use Rattle.std.specs.Prelude.{Some, None}
use mathlib.Core.Path.{◌≡◌, refl}
use mathlib.Core.List.{List, [], ◌∷◌}
use Prim.Native.Nat.{ℕ}
use Rattle.record.specs.Below.{all_below}
use Rattle.ticks.specs.Budget.{decimal_of, budget_of}

-- 300, and the same with a zero before it
pub three_hundred : (budget_of (51 ∷ 48 ∷ 48 ∷ []) ≡ Some 300) × (budget_of (48 ∷ 51 ∷ 48 ∷ 48 ∷ []) ≡ Some 300)
unfolding budget_of all_below decimal_of
three_hundred = (refl, refl)

-- 1844674407370955161, of which the largest is ten times as much and 5
abbrev most : ℕ → List ℕ
most last = 49 ∷ 56 ∷ 52 ∷ 52 ∷ 54 ∷ 55 ∷ 52 ∷ 52 ∷ 48 ∷ 55 ∷ 51 ∷ 55 ∷ 48 ∷ 57 ∷ 53 ∷ 53 ∷ 49 ∷ 54 ∷ 49 ∷ last ∷ []

pub the_largest : (budget_of (most 53) ≡ Some 18446744073709551615) × (budget_of (most 54) ≡ None)
unfolding budget_of all_below decimal_of
the_largest = (refl, refl)

-- nothing, a sign, a letter
pub no_budget : (budget_of [] ≡ None) × (budget_of (45 ∷ 49 ∷ []) ≡ None) × (budget_of (49 ∷ 65 ∷ []) ≡ None)
unfolding budget_of all_below decimal_of
no_budget = (refl, refl, refl)
