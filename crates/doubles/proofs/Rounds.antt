-- `+` on doubles is the exact sum of units, rounded once. Assumes nothing.
use mathlib.Core.Path.{◌≡◌, refl, sym, ap, ◌∙◌}
use mathlib.Core.Bool.{Bool, true, false, cond, ◌&&◌}
use Prim.Native.Nat.{ℕ, zero, suc, ◌+◌, ◌-◌, ◌*◌, ◌^◌, ◌<◌, ◌≤◌}
use native.Mathlib.Nat.{add-mul, mul_assoc, mul_comm, mul_right_comm, mul-pos, mul-div_cancel, mul-sub}
use native.Mathlib.Omega.{arith}
use borrow.Author.Tests.{lt-ltb, le-ltb, ltb-true, ltb-false}
use lib.Dec.{T, ltb, leb}
use lib.Pow.{pow_pos}
use lib.IntN.{pos, negsuc, nat_abs, sub_ℕ, ◌+ℤ◌}
use lib.Signed.{lt_z}
use lib.Ieee.{Float, Format, nan, inf, fin, binary64, up, down, add, sum, round, units, of_bits}
use lib.Ieee.Exact.{HasValue}
use lib.Ieee.Nearest.{closest_same}
use lib.Ieee.Scale.{round_same}
use lib.Ieee.Fits.{round_is}
use Rattle.value.specs.Value.{finite_of}
use Rattle.value.specs.Units.{size_of, with_sign, units_of}
use Rattle.value.proofs.Sizes.{down_pos, bits_value}
use Rattle.value.proofs.Order.{ltb_scale}
use Rattle.doubles.specs.Rounds.{dropped, even, minus_of, rounded_of}

sub_mul : (a b c : ℕ) → (a - b) * c ≡ a * c - b * c
sub_mul a b c = rw (mul_comm (a - b) c, mul_comm a c, mul_comm b c) (mul-sub c a b)

-- ---- equal fractions have equal sums
module _ (f : Format) (a b c p q d : ℕ) (C : 0 < c) (D : 0 < d) (A : a * d ≡ p * c) (B : b * d ≡ q * c) where
  plus_cross : (a + b) * d ≡ (p + q) * c
  plus_cross = add-mul a b d ∙ rw (A, B) (sym (add-mul p q c))

  less_cross : (b - a) * d ≡ (q - p) * c
  less_cross = sub_mul b a d ∙ rw (A, B) (sym (sub_mul q p c))

  more_cross : (a - b) * d ≡ (p - q) * c
  more_cross = sub_mul a b d ∙ rw (A, B) (sym (sub_mul p q c))

  apart : (s t : Bool) → cond (ltb a b) (round f t (b - a) c) (round f (s && ltb b a) (a - b) c) ≡ cond (ltb p q) (round f t (q - p) d) (round f (s && ltb q p) (p - q) d)
  apart s t = rw (ltb_scale a b p q d c D C A B, ltb_scale b a q p d c D C B A, round_same f t (b - a) c (q - p) d C D less_cross, round_same f (s && ltb q p) (a - b) c (p - q) d C D more_cross)

  pub sum_same : (s t : Bool) → sum f s a t b c ≡ sum f s p t q d
  unfolding sum
  sum_same true true = round_same f true (a + b) c (p + q) d C D plus_cross
  sum_same true false = apart true false
  sum_same false true = apart false true
  sum_same false false = round_same f false (a + b) c (p + q) d C D plus_cross

-- ---- a sum of two finite values, as one of sizes over one denominator
add_of_sizes : (f : Format) (x y : Float) (s t : Bool) (a b c : ℕ) → 0 < c → HasValue x s a c → HasValue y t b c → add f x y ≡ sum f s a t b c
unfolding add
add_of_sizes f nan y s t a b c C p q = absurd p
add_of_sizes f (inf u) y s t a b c C p q = absurd p
add_of_sizes f (fin u m e) nan s t a b c C p q = absurd q
add_of_sizes f (fin u m e) (inf v) s t a b c C p q = absurd q
add_of_sizes f (fin u m e) (fin v n d) s t a b c C p q =
    rw (p.0, q.0)
    (sum_same f (m * up e * down d) (n * up d * down e) (down e * down d) a b c (mul-pos (down_pos e) (down_pos d)) C
    (mul_right_comm (m * up e) (down d) c ∙ ap (λ (z : ℕ). z * down d) p.1 ∙ mul_assoc a (down e) (down d))
    (mul_right_comm (n * up d) (down e) c ∙ ap (λ (z : ℕ). z * down e) q.1 ∙ mul_assoc b (down d) (down e) ∙ ap (λ (z : ℕ). b * z) (mul_comm (down d) (down e))) s t)

-- ---- by the exact sum, a whole number
abbrev Sum : Format → ℕ → Bool → ℕ → Bool → ℕ → Type 0
Sum f c s a t b = sum f s a t b c ≡ round f (minus_of s t (with_sign s a +ℤ with_sign t b)) (nat_abs (with_sign s a +ℤ with_sign t b)) c

sub_parts : (f : Format) (c a b : ℕ) → cond (ltb a b) (round f true (b - a) c) (round f false (a - b) c) ≡ round f (lt_z (sub_ℕ a b) (pos 0)) (nat_abs (sub_ℕ a b)) c
sub_parts f c a b = go (ltb a b) refl
  where
    go : (t : Bool) → ltb a b ≡ t → cond t (round f true (b - a) c) (round f false (a - b) c) ≡ round f (lt_z (cond t (negsuc (b - suc a)) (pos (a - b))) (pos 0)) (nat_abs (cond t (negsuc (b - suc a)) (pos (a - b)))) c
    go true e = let l : a < b = ltb-true a b e in let g : b - a ≡ suc (b - suc a) = omega arith in rw g
    go false e = rw (le-ltb (a - b) 0 (omega arith))

minus_parts : (f : Format) (c a b : ℕ) → cond (ltb a b) (round f false (b - a) c) (round f (ltb b a) (a - b) c) ≡ round f (lt_z (sub_ℕ b a) (pos 0)) (nat_abs (sub_ℕ b a)) c
minus_parts f c a b = go (ltb a b) (ltb b a) refl refl
  where
    go : (t u : Bool) → ltb a b ≡ t → ltb b a ≡ u → cond t (round f false (b - a) c) (round f u (a - b) c) ≡ round f (lt_z (cond u (negsuc (a - suc b)) (pos (b - a))) (pos 0)) (nat_abs (cond u (negsuc (a - suc b)) (pos (b - a)))) c
    go true true e h = let l : a < b = ltb-true a b e in let k : b < a = ltb-true b a h in absurd (omega arith)
    go true false e h = rw (le-ltb (b - a) 0 (omega arith))
    go false true e h = let l : b < a = ltb-true b a h in let g : a - b ≡ suc (a - suc b) = omega arith in rw g
    go false false e h =
        let l : b ≤ a = ltb-false a b e in
        let k : a ≤ b = ltb-false b a h in
        let g : a - b ≡ b - a = omega arith in
        rw (le-ltb (b - a) 0 (omega arith), g)

sum_exact : (f : Format) (c : ℕ) (s : Bool) (a : ℕ) (t : Bool) (b : ℕ) → Sum f c s a t b
unfolding sum
sum_exact f c false a false b = rw (le-ltb (a + b) 0 (omega arith))
sum_exact f c true zero true zero = refl
sum_exact f c true zero true (suc b) =
    let e : 0 + suc b ≡ suc (suc b - 1) = omega arith in
    rw (lt-ltb 0 (suc b) (omega arith)) (ap (λ (m : ℕ). round f true m c) e)
sum_exact f c true (suc a) true zero =
    let e : suc a + 0 ≡ suc (suc a - 1) = omega arith in
    rw (lt-ltb 0 (suc a) (omega arith)) (ap (λ (m : ℕ). round f true m c) e)
sum_exact f c true (suc a) true (suc b) = let e : suc a + suc b ≡ suc (suc (a + b)) = omega arith in ap (λ (m : ℕ). round f true m c) e
sum_exact f c false a true zero =
    let e : a - 0 ≡ a + 0 = omega arith in
    rw (le-ltb a 0 (omega arith), le-ltb (a + 0) 0 (omega arith)) (ap (λ (m : ℕ). round f false m c) e)
sum_exact f c false a true (suc b) = sub_parts f c a (suc b)
sum_exact f c true zero false zero = refl
sum_exact f c true zero false (suc b) =
    let e : suc b - 0 ≡ 0 + suc b = omega arith in
    rw (lt-ltb 0 (suc b) (omega arith), le-ltb (0 + suc b) 0 (omega arith)) (ap (λ (m : ℕ). round f false m c) e)
sum_exact f c true (suc a) false b = minus_parts f c (suc a) b

-- ---- a rounding of units
pub round_units : (s : Bool) (m : ℕ) → round binary64 s m (2 ^ 1074) ≡ units binary64 s (even m (dropped m)) (dropped m)
round_units s m =
    round_is binary64 s m (2 ^ 1074)
    ∙ rw (mul-div_cancel m (pow_pos 1074))
    (ap (λ (q : ℕ). units binary64 s q (dropped m)) (closest_same (m * 2 ^ 1074) (2 ^ 1074 * 2 ^ dropped m) m (2 ^ dropped m) (mul-pos (pow_pos 1074) (pow_pos (dropped m))) (pow_pos (dropped m)) (mul_assoc m (2 ^ 1074) (2 ^ dropped m))))

-- THE LAW: the sum of two finite doubles is the exact sum of their units, to the nearest multiple of 2 ^ k, a tie to the even one, where k digits are dropped
pub add_units : (a b : ℕ) → T (finite_of a) → T (finite_of b) → add binary64 (of_bits binary64 a) (of_bits binary64 b) ≡ rounded_of (leb (2 ^ 63) a) (leb (2 ^ 63) b) (units_of a +ℤ units_of b)
add_units a b p q =
    add_of_sizes binary64 (of_bits binary64 a) (of_bits binary64 b) (leb (2 ^ 63) a) (leb (2 ^ 63) b) (size_of a) (size_of b) (2 ^ 1074) (pow_pos 1074) (bits_value a p) (bits_value b q)
    ∙ sum_exact binary64 (2 ^ 1074) (leb (2 ^ 63) a) (size_of a) (leb (2 ^ 63) b) (size_of b)
    ∙ round_units (minus_of (leb (2 ^ 63) a) (leb (2 ^ 63) b) (units_of a +ℤ units_of b)) (nat_abs (units_of a +ℤ units_of b))
