-- Equal operands give equal results: the claims of specs/Equal.antt. Assumes nothing.
use Rattle.std.specs.Prelude.{Err, Ok}
use mathlib.Core.Path.{◌≡◌, refl, sym, ap₂, subst, ◌∙◌}
use mathlib.Core.Bool.{Bool, true, false}
use mathlib.Core.Logic.{◌⊎◌, inl, inr}
use Prim.Native.Nat.{ℕ, zero, suc, ◌^◌}
use Rattle.sums.specs.Worth.{Worth}
use native.Mathlib.Omega.{arith}
use borrow.Author.Tests.{lt-ltb}
use lib.Dec.{T, leb, eqb}
use lib.IntN.{ℤ, pos, nat_abs, ◌+ℤ◌}
use lib.Signed.{lt_z}
use lib.Ieee.{Float, nan, inf, fin, binary64, size, odd, units, eq, of_fields, of_bits, to_bits}
use lib.Ieee.Bits.{of_bits-fits}
use lib.Ieee.Exact.{HasValue}
use Rattle.record.specs.Choose.{if}
use Rattle.value.specs.Value.{signed64, finite_of, value_of, equal_of}
use Rattle.value.specs.Units.{with_sign, size_of, units_of}
use Rattle.value.specs.declared.Value.{Value}
use Rattle.value.specs.declared.Value.TheVariants.{Integer, Name, Double}
use Rattle.value.proofs.Sizes.{double_value, bits_value}
use Rattle.value.proofs.Functions.{equal_to_itself, same_whole, SameUnits, SameName, equal_doubles}
use Rattle.doubles.specs.Rounds.{dropped, even, minus_of, finite_sum}
use Rattle.sums.specs.declared.Operator.TheVariants.{Add, Subtract, Multiply, Divide, Remainder, DoubleAdd}
use Rattle.sums.specs.Sums.{failed, exact_sum, nearest_sum, add_of, sub_of, mul_of, div_of, rem_of, of_integers, bytes_of, result_of}
use Rattle.sums.specs.Equal.{WorthAlike, EqualValues, EqualOperands}
use Rattle.sums.proofs.Finite.{no_first, no_second}
use Rattle.sums.proofs.Bytes.{is_fin, double_back}

alike_itself : (kind : ℕ) (w : Worth) → WorthAlike kind w w
alike_itself kind (Ok v) = equal_to_itself kind (bytes_of v)
alike_itself kind (Err s) = refl

-- a finite double is read from the bytes that it is written as
has_size : (x : Float) (s : Bool) (a c : ℕ) → HasValue x s a c → is_fin x ≡ true
unfolding is_fin
has_size nan s a c h = absurd h
has_size (inf t) s a c h = absurd h
has_size (fin t m e) s a c h = refl

abbrev written : ℕ → ℕ
written n = to_bits binary64 (of_bits binary64 n)

written_value : (n : ℕ) → T (finite_of n) → value_of 3 (written n) ≡ value_of 3 n
written_value n p = double_back (of_bits binary64 n) (of_bits-fits binary64 n) (has_size _ _ _ _ (bits_value n p)) ∙ sym (double_value n p)

written_units : (n : ℕ) → T (finite_of n) → units_of (written n) ≡ units_of n
written_units n p = go (equal_doubles (written n) n (rw (written_value n p) (equal_to_itself 3 n)))
  where
    go : SameUnits (written n) n ⊎ SameName (written n) n → units_of (written n) ≡ units_of n
    go (inl u) = u.2
    go (inr u) = absurd (subst T u.1 p)

-- equal values in bytes
abbrev by_type : Bool → Bool → ℕ → Value
by_type s t n = if s (Integer (signed64 n)) (if t (Name n) (value_of 3 n))

doubles_written : (a b : ℕ) → T (equal_of (value_of 3 a) (value_of 3 b)) → SameUnits a b ⊎ SameName a b → WorthAlike 3 (Ok (value_of 3 a)) (Ok (value_of 3 b))
doubles_written a b e (inl u) =
    rw (double_value a u.0, double_value b u.1, written_value a u.0, written_value b u.1) e
doubles_written a b e (inr u) = rw u.2 (alike_itself 3 (Ok (value_of 3 b)))

pub equal_values : EqualValues
unfolding value_of
equal_values kind a b = go (eqb kind 1) (eqb kind 2)
  where
    go : (s t : Bool) → T (equal_of (by_type s t a) (by_type s t b)) → T (equal_of (by_type s t (bytes_of (by_type s t a))) (by_type s t (bytes_of (by_type s t b))))
    go true t e = rw (same_whole (signed64 a) (signed64 b) e) (equal_to_itself 1 (bytes_of (Integer (signed64 b))))
    go false true e = e
    go false false e = doubles_written a b e (equal_doubles a b e)

-- integers: the same numbers give the same
integers_alike : (f : ℤ → ℤ → Worth) (a b c d : ℕ) → T (equal_of (value_of 1 a) (value_of 1 c)) → T (equal_of (value_of 1 b) (value_of 1 d))
    → WorthAlike 1 (of_integers f (value_of 1 a) (value_of 1 b)) (of_integers f (value_of 1 c) (value_of 1 d))
unfolding value_of
integers_alike f a b c d p q = rw (same_whole (signed64 a) (signed64 c) p, same_whole (signed64 b) (signed64 d) q) (alike_itself 1 (f (signed64 c) (signed64 d)))

-- doubles: of one exact sum the nearest doubles differ at most in the sign of a zero
abbrev nearest_by : Bool → ℤ → Worth
nearest_by s z = if (finite_sum z) (Ok (Double (units binary64 s (even (nat_abs z) (dropped (nat_abs z))) (dropped (nat_abs z))))) failed

zeros_alike : (s t : Bool) → WorthAlike 3 (nearest_by s (pos 0)) (nearest_by t (pos 0))
unfolding size units odd to_bits of_bits of_fields eq value_of finite_of
zeros_alike true true = tt
zeros_alike true false = tt
zeros_alike false true = tt
zeros_alike false false = tt

signs_alike : (s t : Bool) (z : ℤ) → (z ≡ pos 0) ⊎ (s ≡ lt_z z (pos 0)) → (z ≡ pos 0) ⊎ (t ≡ lt_z z (pos 0)) → WorthAlike 3 (nearest_by s z) (nearest_by t z)
signs_alike s t z (inl e) k = rw e (zeros_alike s t)
signs_alike s t z (inr h) (inl e) = rw e (zeros_alike s t)
signs_alike s t z (inr h) (inr k) = rw (h, k) (alike_itself 3 (nearest_by (lt_z z (pos 0)) z))

-- the sign of a sum that is not zero is that of its value
sign_is : (s t : Bool) (m n : ℕ) {z : ℤ} → with_sign s m +ℤ with_sign t n ≡ z → (z ≡ pos 0) ⊎ (minus_of s t z ≡ lt_z z (pos 0))
sign_is true true zero zero e = inl (sym e)
sign_is true true zero (suc n) e = inr (rw (← e, lt-ltb 0 (suc n) (omega arith)) refl)
sign_is true true (suc m) zero e = inr (rw (← e, lt-ltb 0 (suc m) (omega arith)) refl)
sign_is true true (suc m) (suc n) e = inr (rw (← e) refl)
sign_is true false m n e = inr refl
sign_is false t m n e = inr refl

nearest_alike : (a b c d : ℕ) → units_of a ≡ units_of c → units_of b ≡ units_of d → WorthAlike 3 (nearest_sum a b) (nearest_sum c d)
nearest_alike a b c d p q =
    let sum : exact_sum a b ≡ exact_sum c d = ap₂ ◌+ℤ◌ p q in
    rw sum
    (signs_alike _ _ (exact_sum c d)
    (sign_is (leb (2 ^ 63) a) (leb (2 ^ 63) b) (size_of a) (size_of b) sum)
    (sign_is (leb (2 ^ 63) c) (leb (2 ^ 63) d) (size_of c) (size_of d) refl))

doubles_alike : (a b c d : ℕ) → SameUnits a c ⊎ SameName a c → SameUnits b d ⊎ SameName b d
    → WorthAlike 3 (result_of DoubleAdd (value_of 3 a) (value_of 3 b)) (result_of DoubleAdd (value_of 3 c) (value_of 3 d))
doubles_alike a b c d (inl u) (inl v) =
    rw (double_value a u.0, double_value b v.0, double_value c u.1, double_value d v.1)
    (nearest_alike (written a) (written b) (written c) (written d)
    (written_units a u.0 ∙ u.2 ∙ sym (written_units c u.1))
    (written_units b v.0 ∙ v.2 ∙ sym (written_units d v.1)))
doubles_alike a b c d (inl u) (inr v) = rw (no_second a b (sym v.0), no_second c d (sym v.1)) refl
doubles_alike a b c d (inr u) k = rw (no_first a (value_of 3 b) (sym u.0), no_first c (value_of 3 d) (sym u.1)) refl

pub equal_operands : EqualOperands
equal_operands Add a b c d p q = integers_alike add_of a b c d p q
equal_operands Subtract a b c d p q = integers_alike sub_of a b c d p q
equal_operands Multiply a b c d p q = integers_alike mul_of a b c d p q
equal_operands Divide a b c d p q = integers_alike div_of a b c d p q
equal_operands Remainder a b c d p q = integers_alike rem_of a b c d p q
equal_operands DoubleAdd a b c d p q = doubles_alike a b c d (equal_doubles a c p) (equal_doubles b d q)
