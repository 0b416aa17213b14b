-- The order of finite doubles is that of their whole numbers of units of two to the power -1074. Assumes nothing.
use mathlib.Core.Path.{◌≡◌, refl, sym, ◌∙◌}
use mathlib.Core.Bool.{Bool, true, false}
use Prim.Native.Nat.{ℕ, zero, suc, ◌+◌, ◌*◌, ◌^◌, ◌<◌, ◌≤◌}
use native.Mathlib.Nat.{add-mul, zero-add, mul-lt-mul_of_pos_right, mul-le-mul_right, le_of_mul-le-mul_right, lt_of_mul-lt-mul_right, zero-mul}
use native.Mathlib.Omega.{arith}
use borrow.Author.Tests.{ltb-true, ltb-false, lt-ltb, le-ltb}
use lib.Dec.{T, ltb, leb, leb-suc-suc}
use lib.Signed.{lt_z}
use lib.Ieee.{binary64, below, lt, of_bits}
use Rattle.value.specs.Value.{finite_of}
use Rattle.value.specs.Units.{size_of, with_sign, units_of, OrderIsOfUnits}
use Rattle.value.proofs.Sizes.{Scales, of_bits_lem, double_value}

-- x is to y as a to b, where x * c is a * d and y * c is b * d
pub ltb_scale : (x y a b c d : ℕ) → 0 < c → 0 < d → x * c ≡ a * d → y * c ≡ b * d → ltb x y ≡ ltb a b
ltb_scale x y a b c d C D p q = go (ltb a b) refl
  where
    go : (t : Bool) → ltb a b ≡ t → ltb x y ≡ ltb a b
    go true e =
        let h : a * d < b * d = mul-lt-mul_of_pos_right (ltb-true a b e) D in
        let k : x * c < y * c = rw (p, q) h in
        lt-ltb x y (lt_of_mul-lt-mul_right c k) ∙ sym e
    go false e =
        let h : b * d ≤ a * d = mul-le-mul_right d (ltb-false a b e) in
        let k : y * c ≤ x * c = rw (p, q) h in
        le-ltb x y (le_of_mul-le-mul_right k C) ∙ sym e

-- two values with the sizes a / c and b / c are in the order of a and b
below_scale : Scales below
below_scale false false x y a b c d C D p q = ltb_scale x y a b c d C D p q
below_scale false true x y a b c d C D p q = refl
below_scale true false x y a b c d C D p q = ltb_scale 0 (x + y) 0 (a + b) c d C D (rw (zero-mul c, zero-mul d)) (rw (add-mul x y c, add-mul a b d, p, q))
below_scale true true x y a b c d C D p q = ltb_scale y x b a c d C D q p

-- the same order, of whole numbers
below_lt_z : (s t : Bool) (a b : ℕ) → below s a t b ≡ lt_z (with_sign s a) (with_sign t b)
below_lt_z false false a b = refl
below_lt_z false true a zero = sym (le-ltb a 0 (omega arith))
below_lt_z false true a (suc b) = refl
below_lt_z true false zero b = rw (zero-add b)
below_lt_z true false (suc a) b = lt-ltb 0 (suc a + b) (omega arith)
below_lt_z true true zero zero = refl
below_lt_z true true zero (suc b) = le-ltb (suc b) 0 (omega arith)
below_lt_z true true (suc a) zero = lt-ltb 0 (suc a) (omega arith)
below_lt_z true true (suc a) (suc b) = leb-suc-suc (suc b) a

-- IEEE 754's order of two finite doubles is that of their whole numbers of units
pub lt_units : (a b : ℕ) → T (finite_of a) → T (finite_of b) → lt (of_bits binary64 a) (of_bits binary64 b) ≡ lt_z (units_of a) (units_of b)
unfolding lt
lt_units a b p q =
    of_bits_lem lt below (λ u v m n e d. refl) below_scale a b p q
    ∙ below_lt_z (leb (2 ^ 63) a) (leb (2 ^ 63) b) (size_of a) (size_of b)

-- THE LAW
pub order_of_units : OrderIsOfUnits
order_of_units a b p q = rw (double_value a p, double_value b q) (lt_units b a q p)
