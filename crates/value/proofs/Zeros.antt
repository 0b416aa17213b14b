-- Of doubles that differ in their bytes only the two zeros are equal. Assumes nothing.
use mathlib.Core.Path.{◌≡◌, refl, sym, ap, ap₂, ◌∙◌}
use mathlib.Core.Bool.{Bool, true, false, ◌&&◌, ◌||◌, beq, and_self}
use Prim.Native.Nat.{ℕ, zero, suc, ◌+◌, ◌*◌, ◌/◌, ◌%◌, ◌^◌, ◌<◌, ◌≤◌}
use native.Mathlib.Nat.{eq_of_mul-eq-mul_right, mul-lt-mul_of_pos_right, mul-le-mul, two-pow-succ}
use native.Mathlib.Omega.{arith}
use borrow.Author.Tests.{eq-eqb, ne_eqb, eqb-true, eqb-false, ltb-true, ltb-false, leb-true, leb-false}
use lib.Dec.{eqb, ltb, leb}
use lib.Pow.{pow_pos, pow_mono}
use Rattle.record.specs.Choose.{both, either}
use Rattle.value.specs.Units.{size_in, size_of, zero_of, OnlyZeros}
use Rattle.value.proofs.Laws.{same_test}
use Rattle.value.proofs.Sizes.{double_value}
use Rattle.value.proofs.Equality.{eq_level}

-- a larger exponent is a larger size, whatever the last 52 bits
above : (x y t u : ℕ) → t < 2 ^ 52 → x < y → size_in x t < size_in y u
above x zero t u h l = absurd (omega (arith, l))
above zero (suc y) t u h l =
    let lead : 2 ^ 52 ≤ 2 ^ 52 + u = omega arith in
    let m : 2 ^ 52 * 1 ≤ (2 ^ 52 + u) * 2 ^ y = mul-le-mul lead (pow_pos y) in
    omega (arith, h, m)
above (suc x) (suc y) t u h l =
    let short : 2 ^ 52 + t < 2 ^ 53 = omega (arith, h) in
    let lead : 2 ^ 52 ≤ 2 ^ 52 + u = omega arith in
    let next : suc x ≤ y = omega (arith, l) in
    let a : (2 ^ 52 + t) * 2 ^ x < 2 ^ 53 * 2 ^ x = mul-lt-mul_of_pos_right short (pow_pos x) in
    let m : 2 ^ 52 * 2 ^ suc x ≤ (2 ^ 52 + u) * 2 ^ y = mul-le-mul lead (pow_mono next) in
    let two = two-pow-succ x in
    omega (arith, a, m, two)

part : (x t u : ℕ) → size_in x t ≡ size_in x u → t ≡ u
part zero t u e = e
part (suc x) t u e = let c = eq_of_mul-eq-mul_right (2 ^ x) (pow_pos x) (2 ^ 52 + t) (2 ^ 52 + u) e in omega (arith, c)

-- one size has one exponent and one row of 52 bits
sizes : (x y t u : ℕ) → t < 2 ^ 52 → u < 2 ^ 52 → size_in x t ≡ size_in y u → (x ≡ y) × (t ≡ u)
sizes x y t u h k e = go (ltb x y) (ltb y x) refl refl
  where
    go : (s r : Bool) → ltb x y ≡ s → ltb y x ≡ r → (x ≡ y) × (t ≡ u)
    go true r p q = absurd (let l = above x y t u h (ltb-true x y p) in omega (arith, l, e))
    go false true p q = absurd (let l = above y x u t k (ltb-true y x q) in omega (arith, l, e))
    go false false p q =
        let same : x ≡ y = let a = ltb-false x y p in let b = ltb-false y x q in omega (arith, a, b) in
        (same, part x t u (e ∙ ap (λ (z : ℕ). size_in z u) (sym same)))

size_test : (a b : ℕ) → eqb (size_of a) (size_of b) ≡ eqb (a % 2 ^ 63) (b % 2 ^ 63)
size_test a b = same_test (size_of a) (size_of b) (a % 2 ^ 63) (b % 2 ^ 63) bits back
  where
    bits : size_of a ≡ size_of b → a % 2 ^ 63 ≡ b % 2 ^ 63
    bits e = let s = sizes (a / 2 ^ 52 % 2048) (b / 2 ^ 52 % 2048) (a % 2 ^ 52) (b % 2 ^ 52) (omega arith) (omega arith) e in let x = s.0 in let t = s.1 in omega (arith, x, t)

    back : a % 2 ^ 63 ≡ b % 2 ^ 63 → size_of a ≡ size_of b
    back e =
        let x : a / 2 ^ 52 % 2048 ≡ b / 2 ^ 52 % 2048 = omega (arith, e) in
        let t : a % 2 ^ 52 ≡ b % 2 ^ 52 = omega (arith, e) in
        ap₂ size_in x t

-- the tests of the bytes
not_both : (x y : ℕ) → (x ≡ y → ⊥) → both (eqb x 0) (eqb y 0) ≡ false
not_both x y n = go (eqb x 0) refl
  where
    go : (t : Bool) → eqb x 0 ≡ t → both t (eqb y 0) ≡ false
    go true e = ne_eqb y 0 (λ z. n (eqb-true x 0 e ∙ sym z))
    go false e = refl

module _ (a b : ℕ) (h : a < 2 ^ 64) (k : b < 2 ^ 64) where
  by_bytes : (x s t : Bool) → eqb (a % 2 ^ 63) (b % 2 ^ 63) ≡ x → leb (2 ^ 63) a ≡ s → leb (2 ^ 63) b ≡ t
      → (x && (beq s t || zero_of a)) ≡ either (eqb a b) (both (zero_of a) (zero_of b))
  by_bytes false s t e p q =
      let n = eqb-false (a % 2 ^ 63) (b % 2 ^ 63) e in
      rw (ne_eqb a b (λ z. n (ap (λ (m : ℕ). m % 2 ^ 63) z)), not_both (a % 2 ^ 63) (b % 2 ^ 63) n)
  by_bytes true true true e p q =
      let r = eqb-true (a % 2 ^ 63) (b % 2 ^ 63) e in
      let u = leb-true (2 ^ 63) a p in
      let v = leb-true (2 ^ 63) b q in
      rw (eq-eqb a b (omega (arith, r, u, v)))
  by_bytes true false false e p q =
      let r = eqb-true (a % 2 ^ 63) (b % 2 ^ 63) e in
      let u = leb-false (2 ^ 63) a p in
      let v = leb-false (2 ^ 63) b q in
      rw (eq-eqb a b (omega (arith, r, u, v)))
  by_bytes true true false e p q =
      let u = leb-true (2 ^ 63) a p in
      let v = leb-false (2 ^ 63) b q in
      rw (ne_eqb a b (λ z. omega (arith, z, u, v)), ← eqb-true (a % 2 ^ 63) (b % 2 ^ 63) e) (sym (and_self (zero_of a)))
  by_bytes true false true e p q =
      let u = leb-false (2 ^ 63) a p in
      let v = leb-true (2 ^ 63) b q in
      rw (ne_eqb a b (λ z. omega (arith, z, u, v)), ← eqb-true (a % 2 ^ 63) (b % 2 ^ 63) e) (sym (and_self (zero_of a)))

pub only_zeros : OnlyZeros
only_zeros a b h k p q =
    rw (double_value a p, double_value b q)
    (eq_level a b p q
    ∙ ap₂ (λ (e z : Bool). e && (beq (leb (2 ^ 63) a) (leb (2 ^ 63) b) || z)) (size_test a b) (size_test a 0)
    ∙ by_bytes a b h k (eqb (a % 2 ^ 63) (b % 2 ^ 63)) (leb (2 ^ 63) a) (leb (2 ^ 63) b) refl refl refl)
