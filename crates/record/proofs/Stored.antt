-- Stores that follow one another. Assumes nothing.
use mathlib.Core.Path.{◌≡◌, refl, ◌∙◌}
use mathlib.Core.List.{List, [], ◌∷◌, ◌++◌}
use Prim.Native.Nat.{ℕ, suc, ◌+◌, ◌≤◌}
use native.Mathlib.Nat.{add-zero, zero-add}
use native.Mathlib.Numerals.{add-one}
use native.Mathlib.Omega.{arith}
use lib.ListN.{length, set, drop}
use lib.Seq.{sets, sets-eq}
use Rattle.record.specs.Stored.{stored}

sets_append : (l xs ys : List ℕ) (at : ℕ) → sets l at (xs ++ ys) ≡ sets (sets l at xs) (at + length xs) ys
sets_append l [] ys at = rw (add-zero at)
sets_append l (x ∷ xs) ys at =
    let e : suc at + length xs ≡ at + suc (length xs) = omega arith in
    sets_append (set l at x) xs ys (suc at) ∙ rw e

pub stored_then : (l xs ys : List ℕ) (at n : ℕ) → length xs ≡ n → stored l at (xs ++ ys) ≡ stored (stored l at xs) (at + n) ys
unfolding stored
stored_then l xs ys at n e = sets_append l xs ys at ∙ rw e

-- none, one and two
pub stored_none : (l : List ℕ) (at : ℕ) → stored l at [] ≡ l
unfolding stored
stored_none l at = refl

pub stored_one : (l : List ℕ) (at x : ℕ) → set l at x ≡ stored l at (x ∷ [])
unfolding stored
stored_one l at x = refl

pub stored_pair : (l : List ℕ) (at x y : ℕ) → set (set l at x) (at + 1) y ≡ stored l at (x ∷ y ∷ [])
unfolding stored
stored_pair l at x y = rw (add-one at)

-- what is stored first stands before what was there behind it
pub stored_first : (l xs : List ℕ) → length xs ≤ length l → stored l 0 xs ≡ xs ++ drop (length xs) l
unfolding stored
stored_first l xs h = sets-eq xs l 0 (omega arith) ∙ rw (zero-add (length xs))
