-- The machine's sum of two doubles, tested against the infinities, is the sum of document 02. Assumes nothing.
use Rattle.std.specs.Prelude.{Ok}
use mathlib.Core.Path.{◌≡◌, refl, ap, ◌∙◌, subst}
use mathlib.Core.Bool.{Bool, true, false, not}
use Prim.Native.Nat.{ℕ, ◌^◌, ◌<◌}
use Rattle.sums.specs.Worth.{Worth}
use lib.Dec.{T, leb}
use lib.Ieee.{Float, nan, inf, fin, binary64, is_nan, nan_bits, of_bits, to_bits, add}
use Rattle.std.specs.Float.{float_is_finite}
use Rattle.value.proofs.Laws.{finite_no_nan}
use lib.Ieee.Bits.{to_bits-of_bits}
use lib.Ieee.Exact.{HasValue}
use Rattle.record.specs.Choose.{if}
use Rattle.value.specs.Value.{finite_of, value_of}
use Rattle.value.specs.declared.Value.{Value}
use Rattle.value.specs.declared.Value.TheVariants.{Name, Double}
use Rattle.value.proofs.Sizes.{double_value, bits_value}
use Rattle.doubles.specs.Rounds.{rounded_of, finite_sum}
use Rattle.doubles.proofs.Claims.{machine_adds, rounded_size, infinite_from}
use Rattle.sums.specs.declared.Operator.TheVariants.{DoubleAdd}
use Rattle.sums.specs.Sums.{failed, exact_sum, nearest_sum, plus_of, of_doubles, result_of}

-- the double, if it is finite
abbrev pub finite_or : Float → Worth
finite_or nan = failed
finite_or (inf s) = failed
finite_or (fin s m e) = Ok (Double (fin s m e))

finite_is : (x : Float) (s : Bool) (a c : ℕ) → HasValue x s a c → finite_or x ≡ Ok (Double x)
finite_is nan s a c h = absurd h
finite_is (inf t) s a c h = absurd h
finite_is (fin t m e) s a c h = refl

pub number_is : (x : Float) (s : Bool) (a c : ℕ) → HasValue x s a c → T (not (is_nan x))
unfolding is_nan
number_is nan s a c h = absurd h
number_is (inf t) s a c h = absurd h
number_is (fin t m e) s a c h = tt

-- the eight bytes of a finite double stand for it
pub bits_back : (n : ℕ) → n < 2 ^ 64 → T (finite_of n) → to_bits binary64 (of_bits binary64 n) ≡ n
bits_back n h f = to_bits-of_bits binary64 n h (number_is _ _ _ _ (bits_value n f))

module _ (a b : ℕ) (A : a < 2 ^ 64) (B : b < 2 ^ 64) (p : T (finite_of a)) (q : T (finite_of b)) where
  nearest_is : finite_or (add binary64 (of_bits binary64 a) (of_bits binary64 b)) ≡ nearest_sum a b
  nearest_is = ap finite_or (machine_adds a b p q) ∙ go (finite_sum (exact_sum a b)) refl
    where
      go : (f : Bool) → finite_sum (exact_sum a b) ≡ f
          → finite_or (rounded_of (leb (2 ^ 63) a) (leb (2 ^ 63) b) (exact_sum a b)) ≡ if f (Ok (Double (rounded_of (leb (2 ^ 63) a) (leb (2 ^ 63) b) (exact_sum a b)))) failed
      go true e = finite_is _ _ _ _ (rounded_size (leb (2 ^ 63) a) (leb (2 ^ 63) b) (exact_sum a b) e)
      go false e = ap finite_or (infinite_from (leb (2 ^ 63) a) (leb (2 ^ 63) b) (exact_sum a b) e)

  pub sum_is : finite_or (add binary64 (of_bits binary64 a) (of_bits binary64 b)) ≡ result_of DoubleAdd (value_of 3 a) (value_of 3 b)
  sum_is = nearest_is ∙ rw (double_value a p, double_value b q, bits_back a A p, bits_back b B q) refl

-- what the tests find
pub is_double : (n : ℕ) → true ≡ finite_of n → T (not (nan_bits binary64 n))
is_double n e = finite_no_nan n (subst T e tt)

pub plus_is : (a b : ℕ) → a < 2 ^ 64 → b < 2 ^ 64 → true ≡ finite_of a → true ≡ finite_of b → (f : Bool)
    → f ≡ float_is_finite (add binary64 (of_bits binary64 a) (of_bits binary64 b))
    → if f (Ok (Double (add binary64 (of_bits binary64 a) (of_bits binary64 b)))) failed ≡ result_of DoubleAdd (value_of 3 a) (value_of 3 b)
unfolding float_is_finite
plus_is a b A B p q f e = rw e (go (add binary64 (of_bits binary64 a) (of_bits binary64 b)) ∙ sum_is a b A B (subst T p tt) (subst T q tt))
  where
    go : (r : Float) → if (float_is_finite r) (Ok (Double r)) failed ≡ finite_or r
    go nan = refl
    go (inf s) = refl
    go (fin s m e) = refl

-- eight bytes that are not a finite double's have no sum
pub no_first : (a : ℕ) (v : Value) → false ≡ finite_of a → result_of DoubleAdd (value_of 3 a) v ≡ failed
unfolding value_of
no_first a v e = rw (← e)

pub no_second : (a b : ℕ) → false ≡ finite_of b → result_of DoubleAdd (value_of 3 a) (value_of 3 b) ≡ failed
unfolding value_of
no_second a b e = rw (← e) (go (finite_of a))
  where
    go : (f : Bool) → of_doubles plus_of (if f (Double (of_bits binary64 a)) (Name a)) (Name b) ≡ failed
    go true = refl
    go false = refl
