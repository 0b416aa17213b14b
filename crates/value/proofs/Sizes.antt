-- A comparison of finite doubles that goes by sign and size goes by the bytes: they say the size in whole units of two to the power -1074. Assumes nothing.
use mathlib.Core.Path.{◌≡◌, refl, ap, ◌∙◌, subst}
use mathlib.Core.Bool.{Bool, true, false, not, cond}
use Prim.Native.Nat.{ℕ, zero, suc, ◌+◌, ◌*◌, ◌/◌, ◌%◌, ◌^◌, ◌<◌}
use native.Mathlib.Nat.{mul_assoc, mul_comm, mul_right_comm, mul-pos, mul-one}
use native.Mathlib.Omega.{arith}
use lib.Dec.{T, eqb, leb}
use lib.Pow.{pow_pos}
use lib.IntN.{ℤ, pos, negsuc}
use lib.Ieee.{Float, nan, inf, fin, binary64, up, down, odd, of_fields, of_bits}
use lib.Ieee.Exact.{HasValue, odd_sign}
use Rattle.record.specs.Choose.{if}
use Rattle.value.specs.declared.Value.TheVariants.{Name, Double}
use Rattle.value.specs.Value.{finite_of, value_of}
use Rattle.value.specs.Units.{size_in, size_of}

-- the value of eight bytes of a finite double, and its size
pub double_value : (n : ℕ) → T (finite_of n) → value_of 3 n ≡ Double (of_bits binary64 n)
unfolding value_of
double_value n h = by_test (finite_of n) h
  where
    by_test : (s : Bool) → T s → if s (Double (of_bits binary64 n)) (Name n) ≡ Double (of_bits binary64 n)
    by_test true h = refl
    by_test false h = absurd h

field : (n : ℕ) → n % 2 ^ 63 / 2 ^ 52 ≡ n / 2 ^ 52 % 2048
field n = omega arith

fields_value : (s : Bool) (x t : ℕ) → T (not (eqb x 2047)) → HasValue (of_fields binary64 s x t) s (size_in x t) (2 ^ 1074)
unfolding of_fields
fields_value s zero t h = subst (λ (z : ℕ). HasValue (odd 53 s t 0 1074) s z (2 ^ 1074)) (mul-one t) (odd_sign 53 s t 0 1074)
fields_value s (suc x) t h = go (eqb (suc x) 2047) h
  where
    go : (b : Bool) → T (not b) → HasValue (cond b (cond (eqb t 0) (inf s) nan) (odd 53 s (2 ^ 52 + t) x 1074)) s ((2 ^ 52 + t) * 2 ^ x) (2 ^ 1074)
    go true k = absurd k
    go false k = odd_sign 53 s (2 ^ 52 + t) x 1074

pub bits_value : (n : ℕ) → T (finite_of n) → HasValue (of_bits binary64 n) (leb (2 ^ 63) n) (size_of n) (2 ^ 1074)
unfolding finite_of of_bits
bits_value n h = rw (field n) (fields_value (leb (2 ^ 63) n) (n / 2 ^ 52 % 2048) (n % 2 ^ 52) h)

-- the comparison of doubles goes by sign and size
abbrev pub BySize : (Float → Float → Bool) → (Bool → ℕ → Bool → ℕ → Bool) → Type 0
BySize holds compares = (u v : Bool) (m n : ℕ) (e d : ℤ) → holds (fin u m e) (fin v n d) ≡ compares u (m * up e * down d) v (n * up d * down e)

-- both sizes may be multiplied by the same
abbrev pub Scales : (Bool → ℕ → Bool → ℕ → Bool) → Type 0
Scales compares = (s t : Bool) (x y a b c d : ℕ) → 0 < c → 0 < d → x * c ≡ a * d → y * c ≡ b * d → compares s x t y ≡ compares s a t b

pub down_pos : (e : ℤ) → 0 < down e
down_pos (pos k) = omega arith
down_pos (negsuc k) = pow_pos (suc k)

across : (x a c d w : ℕ) → x * c ≡ a * d → x * w * c ≡ a * (d * w)
across x a c d w p = mul_right_comm x w c ∙ ap (λ (z : ℕ). z * w) p ∙ mul_assoc a d w

module _ (holds : Float → Float → Bool) (compares : Bool → ℕ → Bool → ℕ → Bool) (is : BySize holds compares) (scales : Scales compares) where
  of_sizes : (x y : Float) (s t : Bool) (a b c : ℕ) → 0 < c → HasValue x s a c → HasValue y t b c → holds x y ≡ compares s a t b
  of_sizes nan y s t a b c C p q = absurd p
  of_sizes (inf u) y s t a b c C p q = absurd p
  of_sizes (fin u m e) nan s t a b c C p q = absurd q
  of_sizes (fin u m e) (inf v) s t a b c C p q = absurd q
  of_sizes (fin u m e) (fin v n d) s t a b c C p q =
      is u v m n e d
      ∙ rw (p.0, q.0)
      (scales s t (m * up e * down d) (n * up d * down e) a b c (down e * down d) C (mul-pos (down_pos e) (down_pos d))
      (across (m * up e) a c (down e) (down d) p.1)
      (across (n * up d) b c (down d) (down e) q.1 ∙ ap (λ (z : ℕ). b * z) (mul_comm (down d) (down e))))

  pub of_bits_lem : (a b : ℕ) → T (finite_of a) → T (finite_of b)
      → holds (of_bits binary64 a) (of_bits binary64 b) ≡ compares (leb (2 ^ 63) a) (size_of a) (leb (2 ^ 63) b) (size_of b)
  of_bits_lem a b p q =
      of_sizes (of_bits binary64 a) (of_bits binary64 b) (leb (2 ^ 63) a) (leb (2 ^ 63) b) (size_of a) (size_of b) (2 ^ 1074) (pow_pos 1074) (bits_value a p) (bits_value b q)
