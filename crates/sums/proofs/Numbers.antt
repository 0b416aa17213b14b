-- What an operator gives is never the double that is not a number. Assumes nothing.
use Rattle.std.specs.Prelude.{Err, Ok}
use mathlib.Core.Path.{◌≡◌, refl, sym, subst, ◌∙◌}
use mathlib.Core.Bool.{Bool, true, false, cond}
use Prim.Native.Nat.{ℕ, zero, suc, ◌*◌, ◌^◌}
use Rattle.sums.specs.Worth.{Worth}
use lib.Dec.{T, ltb, leb, eqb}
use lib.IntN.{ℤ, nat_abs, ◌+ℤ◌, ◌-ℤ◌, ◌*ℤ◌}
use lib.Signed.{mag, quot_z, rem_z}
use lib.Ieee.{inf, binary64, is_nan, to_bits, of_bits, units, odd}
use Rattle.record.specs.Choose.{if}
use Rattle.value.specs.Value.{signed64, finite_of, value_of}
use Rattle.value.specs.declared.Value.{Value}
use Rattle.value.specs.declared.Value.TheVariants.{Integer, Name, Double}
use Rattle.value.proofs.Sizes.{bits_value}
use Rattle.doubles.specs.Rounds.{rounded_of, finite_sum}
use Rattle.sums.specs.declared.Operator.{Operator}
use Rattle.sums.specs.declared.Operator.TheVariants.{Add, Subtract, Multiply, Divide, Remainder, DoubleAdd}
use Rattle.sums.specs.Sums.{failed, is_number, fitted, exact_sum, nearest_sum, add_of, sub_of, mul_of, div_of, rem_of, plus_of, of_integers, of_doubles, result_of}
use Rattle.sums.proofs.Finite.{number_is}

-- what an operator gives is a number
Number : Worth → Type 0
Number (Ok v) = T (is_number v)
Number (Err s) = Unit

number_if : (b : Bool) (v w : Worth) → Number v → Number w → Number (if b v w)
number_if true v w h k = h
number_if false v w h k = k

number_fitted : (z : ℤ) → Number (fitted z)
unfolding Number
number_fitted z = number_if (ltb (mag z) (2 ^ 63)) (Ok (Integer z)) failed tt tt

number_odd : (d : ℕ) (s : Bool) (q k l : ℕ) → T (is_number (Double (odd d s q k l)))
unfolding odd is_nan
number_odd d s zero k l = tt
number_odd d s (suc q) k l = tt

number_units : (s : Bool) (q k : ℕ) → T (is_number (Double (units binary64 s q k)))
unfolding units is_nan
number_units s q k = go (ltb (q * 2 ^ k) (2 ^ 2098))
  where
    go : (f : Bool) → T (is_number (Double (cond f (odd 54 s q k 1074) (inf s))))
    go true = number_odd 54 s q k 1074
    go false = tt

number_nearest : (a b : ℕ) → Number (nearest_sum a b)
unfolding Number
number_nearest a b = number_if (finite_sum (exact_sum a b)) (Ok (Double (rounded_of (leb (2 ^ 63) a) (leb (2 ^ 63) b) (exact_sum a b)))) failed (number_units _ _ _) tt

number_integers : (f : ℤ → ℤ → Worth) → ((x y : ℤ) → Number (f x y)) → (a b : Value) → Number (of_integers f a b)
unfolding Number
number_integers f h (Integer x) (Integer y) = h x y
number_integers f h (Integer x) (Name y) = tt
number_integers f h (Integer x) (Double y) = tt
number_integers f h (Name x) b = tt
number_integers f h (Double x) b = tt

number_doubles : (a b : Value) → Number (of_doubles plus_of a b)
unfolding Number
number_doubles (Double x) (Integer y) = tt
number_doubles (Double x) (Name y) = tt
number_doubles (Double x) (Double y) = number_nearest (to_bits binary64 x) (to_bits binary64 y)
number_doubles (Integer x) b = tt
number_doubles (Name x) b = tt

number_result : (op : Operator) (a b : Value) → Number (result_of op a b)
unfolding Number
number_result Add a b = number_integers add_of (λ x y. number_fitted (x +ℤ y)) a b
number_result Subtract a b = number_integers sub_of (λ x y. number_fitted (x -ℤ y)) a b
number_result Multiply a b = number_integers mul_of (λ x y. number_fitted (x *ℤ y)) a b
number_result Divide a b = number_integers div_of (λ x y. number_if (eqb (nat_abs y) 0) failed (fitted (quot_z x y)) tt (number_fitted (quot_z x y))) a b
number_result Remainder a b = number_integers rem_of (λ x y. number_if (eqb (nat_abs y) 0) failed (Ok (Integer (rem_z x y))) tt tt) a b
number_result DoubleAdd a b = number_doubles a b

pub result_number : (op : Operator) (a b v : Value) {w : Worth} → w ≡ result_of op a b → w ≡ Ok v → T (is_number v)
unfolding Number
result_number op a b v e f = subst Number (sym e ∙ f) (number_result op a b)

-- nor does any eight bytes stand for it
pub value_number : (kind n : ℕ) → T (is_number (value_of kind n))
unfolding value_of
value_number kind n = go (eqb kind 1) (eqb kind 2) (finite_of n) refl
  where
    go : (s t u : Bool) → finite_of n ≡ u → T (is_number (if s (Integer (signed64 n)) (if t (Name n) (if u (Double (of_bits binary64 n)) (Name n)))))
    go true t u e = tt
    go false true u e = tt
    go false false true e = number_is _ _ _ _ (bits_value n (subst T (sym e) tt))
    go false false false e = tt
