-- Any reordering: one list has the elements of another, perhaps in another order. Assumes nothing.
use Rattle.std.specs.Prelude.{ℕ, ◌+◌, ◌≡◌, List, [], ◌∷◌, eqb}
use Rattle.record.specs.Choose.{if}

-- of no elements; the first stays and the others are reordered; the first two change places; one reordering after another
pub data Reordered (A : Type 0) : List A → List A → Type 0 where
  none : Reordered A [] []
  keep : {x : A} {xs ys : List A} → Reordered A xs ys → Reordered A (x ∷ xs) (x ∷ ys)
  swap : {x y : A} {xs : List A} → Reordered A (x ∷ y ∷ xs) (y ∷ x ∷ xs)
  then : {xs ys zs : List A} → Reordered A xs ys → Reordered A ys zs → Reordered A xs zs

-- how often a number occurs
abbrev pub occurs : ℕ → List ℕ → ℕ
occurs k [] = 0
occurs k (x ∷ xs) = if (eqb k x) 1 0 + occurs k xs

-- claimed: two lists are a reordering of each other exactly when they have the same numbers, each as often
abbrev pub ReorderedIsAsOften : Type 0
ReorderedIsAsOften = (xs ys : List ℕ) → Reordered ℕ xs ys → (k : ℕ) → occurs k xs ≡ occurs k ys

abbrev pub AsOftenIsReordered : Type 0
AsOftenIsReordered = (xs ys : List ℕ) → ((k : ℕ) → occurs k xs ≡ occurs k ys) → Reordered ℕ xs ys
