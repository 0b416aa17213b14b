-- Reordered numbers are the same numbers, each as often: the claims of specs/Reordered.antt. Assumes nothing.
use Prim.Native.Nat.{ℕ, ◌+◌, ◌≤◌}
use mathlib.Core.Path.{◌≡◌, refl, ap, ◌∙◌}
use mathlib.Core.Bool.{Bool, true, false}
use mathlib.Core.List.{List, [], ◌∷◌}
use native.Mathlib.Omega.{arith}
use lib.Dec.{eqb}
use borrow.Author.Tests.{eqb-true, eq-eqb}
use Rattle.record.specs.Choose.{if}
use Rattle.order.specs.Reordered.{Reordered, none, keep, swap, then, occurs, ReorderedIsAsOften, AsOftenIsReordered}
use Rattle.order.proofs.Reordered.{same_order}

often : {xs ys : List ℕ} → Reordered ℕ xs ys → (k : ℕ) → occurs k xs ≡ occurs k ys
often none k = refl
often (keep {x} r) k = ap (◌+◌ (if (eqb k x) 1 0)) (often r k)
often (swap {x} {y} {xs}) k = omega arith
often (then r s) k = often r k ∙ often s k

pub reordered_is_as_often : ReorderedIsAsOften
reordered_is_as_often xs ys r k = often r k

pub turned_back : {A : Type 0} {xs ys : List A} → Reordered A xs ys → Reordered A ys xs
turned_back none = none
turned_back (keep r) = keep (turned_back r)
turned_back swap = swap
turned_back (then r s) = then (turned_back s) (turned_back r)

-- a number that occurs may be brought to the front
bring : (x : ℕ) (ys : List ℕ) → 1 ≤ occurs x ys → (zs : List ℕ) × Reordered ℕ ys (x ∷ zs)
bring x [] h = absurd (omega arith)
bring x (y ∷ ys) h = go (eqb x y) refl (bring x ys) h
  where
    go : (b : Bool) → eqb x y ≡ b → (1 ≤ occurs x ys → (zs : List ℕ) × Reordered ℕ ys (x ∷ zs)) → 1 ≤ if b 1 0 + occurs x ys
        → (zs : List ℕ) × Reordered ℕ (y ∷ ys) (x ∷ zs)
    go true e ih h = (ys, rw (eqb-true x y e) (same_order (y ∷ ys)))
    go false e ih h = let z = ih (omega arith) in (y ∷ z.0, then (keep z.1) swap)

once : (x : ℕ) (xs : List ℕ) → 1 ≤ occurs x (x ∷ xs)
once x xs = rw (eq-eqb x x refl) (omega arith)

pub as_often_is_reordered : AsOftenIsReordered
as_often_is_reordered [] [] h = none
as_often_is_reordered [] (y ∷ ys) h = absurd (omega (arith, h y, once y ys))
as_often_is_reordered (x ∷ xs) ys h =
    let z = bring x ys (omega (arith, h x, once x xs)) in
    let others : (k : ℕ) → occurs k xs ≡ occurs k z.0 = λ k. omega (arith, h k, often z.1 k) in
    then (keep (as_often_is_reordered xs z.0 others)) (turned_back z.1)
