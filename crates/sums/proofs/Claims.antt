-- The claims of specs/Claims.antt. Assumes nothing.
use Rattle.std.specs.Prelude.{Err, Ok}
use mathlib.Core.Path.{◌≡◌, refl, sym, ap, ◌∙◌}
use mathlib.Core.Bool.{Bool, true, false, true≢false}
use Prim.Native.Nat.{ℕ, zero, suc, ◌+◌, ◌-◌, ◌*◌, ◌/◌, ◌%◌, ◌^◌, ◌<◌, ◌≤◌}
use Rattle.sums.specs.Worth.{Worth}
use native.Mathlib.Nat.{zero-mul, mod-le, mod-lt, mod-one, div-one, div-le_self, div-lt_self, div-add-mod', div-mul-le_self, lt_of_le_of_lt}
use native.Mathlib.Omega.{arith}
use borrow.Author.Tests.{ltb-true, lt-ltb, le-ltb, ne_eqb}
use lib.Dec.{leb, leb-suc-suc}
use lib.IntN.{ℤ, pos, negsuc, neg_ℤ, nat_abs, ◌+ℤ◌, ◌*ℤ◌, neg_ℤ-+ℤ, ℤ_discrete}
use lib.Signed.{mag, lt_z, quot_z, rem_z}
use lib.Ieee.{Float}
use Rattle.record.specs.Choose.{if, both}
use Rattle.value.specs.declared.Value.{Value}
use Rattle.value.specs.declared.Value.TheVariants.{Integer, Name, Double}
use Rattle.sums.specs.declared.Operator.TheVariants.{Add, Subtract, Multiply, Divide, Remainder, DoubleAdd}
use Rattle.sums.specs.Sums.{failed, add_of, sub_of, mul_of, div_of, rem_of, plus_of, of_integers, of_doubles}
use Rattle.sums.specs.Claims.{kind_of_value, FitsIs, ExactFirst, NoneByZero, QuotientAndRemainder, DividesTowardZero, RemainderByMinusOne, LeastByMinusOne, OnlyLeast, NoOther}

-- what fits
pub fits_is : FitsIs
fits_is (pos n) = rw (leb-suc-suc n (2 ^ 63 - 1))
fits_is (negsuc n) = rw (leb-suc-suc n (2 ^ 63 - 1)) (go (leb n (2 ^ 63 - 1)))
  where
    go : (b : Bool) → if b (Ok (Integer (negsuc n))) failed ≡ if (both b true) (Ok (Integer (negsuc n))) failed
    go true = refl
    go false = refl

pub exact_first : ExactFirst
exact_first x y = (refl, refl, refl)

-- by zero and by others
pub none_by_zero : NoneByZero
none_by_zero x = (refl, refl)

pub quotient_and_remainder : QuotientAndRemainder
quotient_and_remainder x y n = (rw (ne_eqb (nat_abs y) 0 n), rw (ne_eqb (nat_abs y) 0 n))

-- sizes and signs of quotient and remainder
size_neg : (k : ℕ) → nat_abs (neg_ℤ (pos k)) ≡ k
size_neg zero = refl
size_neg (suc k) = refl

quot_size : (x y : ℤ) → nat_abs (quot_z x y) ≡ nat_abs x / nat_abs y
quot_size (pos a) (pos b) = refl
quot_size (pos a) (negsuc b) = size_neg (a / suc b)
quot_size (negsuc a) (pos b) = size_neg (suc a / b)
quot_size (negsuc a) (negsuc b) = refl

rem_size : (x y : ℤ) → nat_abs (rem_z x y) ≡ nat_abs x % nat_abs y
rem_size (pos a) y = refl
rem_size (negsuc a) y = size_neg (suc a % nat_abs y)

neg_not_above : (k : ℕ) → lt_z (pos 0) (neg_ℤ (pos k)) ≡ true → ⊥
neg_not_above zero e = true≢false (sym e)
neg_not_above (suc k) e = true≢false (sym e)

rem_below : (x y : ℤ) → lt_z (rem_z x y) (pos 0) ≡ true → lt_z x (pos 0) ≡ true
rem_below (pos a) y e = absurd (true≢false (sym e ∙ le-ltb (a % nat_abs y) 0 (omega arith)))
rem_below (negsuc a) y e = refl

rem_above : (x y : ℤ) → lt_z (pos 0) (rem_z x y) ≡ true → lt_z (pos 0) x ≡ true
rem_above (pos a) y e =
    let l : 0 < a % nat_abs y = ltb-true 0 (a % nat_abs y) e in
    let m : a % nat_abs y ≤ a = mod-le a (nat_abs y) in
    lt-ltb 0 a (omega (arith, l, m))
rem_above (negsuc a) y e = absurd (neg_not_above (suc a % nat_abs y) e)

-- the quotient times the divisor, and the remainder
neg_times_pos : (q b : ℕ) → neg_ℤ (pos q) *ℤ pos b ≡ neg_ℤ (pos (q * b))
neg_times_pos zero b = rw (zero-mul b)
neg_times_pos (suc q) b = refl

neg_times_neg : (q b : ℕ) → neg_ℤ (pos q) *ℤ negsuc b ≡ pos (q * suc b)
neg_times_neg zero b = rw (zero-mul (suc b))
neg_times_neg (suc q) b = refl

neg_sum : (m n k : ℕ) → m + n ≡ k → neg_ℤ (pos m) +ℤ neg_ℤ (pos n) ≡ neg_ℤ (pos k)
neg_sum m n k e = sym (neg_ℤ-+ℤ (pos m) (pos n)) ∙ ap (λ (j : ℕ). neg_ℤ (pos j)) e

makes_whole : (x y : ℤ) → quot_z x y *ℤ y +ℤ rem_z x y ≡ x
makes_whole (pos a) (pos b) = ap pos (div-add-mod' a b)
makes_whole (pos a) (negsuc b) = rw (neg_times_neg (a / suc b) b) (ap pos (div-add-mod' a (suc b)))
makes_whole (negsuc a) (pos b) = rw (neg_times_pos (suc a / b) b) (neg_sum (suc a / b * b) (suc a % b) (suc a) (div-add-mod' (suc a) b))
makes_whole (negsuc a) (negsuc b) = neg_sum (suc a / suc b * suc b) (suc a % suc b) (suc a) (div-add-mod' (suc a) (suc b))

pub divides_toward_zero : DividesTowardZero
divides_toward_zero x y n =
    record {
      whole = sym (makes_whole x y);
      smaller = rw (rem_size x y) (mod-lt (nat_abs x) (omega (arith, n)));
      below = rem_below x y;
      above = rem_above x y;
      toward = rw (quot_size x y) (div-mul-le_self (nat_abs x) (nat_abs y));
    }

-- by -1
by_one : (x : ℤ) → Ok (Integer (pos 0)) ≡ rem_of x (negsuc 0)
by_one (pos a) = rw (mod-one a)
by_one (negsuc a) = rw (mod-one (suc a))

pub remainder_by_minus_one : RemainderByMinusOne
remainder_by_minus_one x = sym (by_one x)

pub least_by_minus_one : LeastByMinusOne
least_by_minus_one = refl

neg_mag : (k : ℕ) → k ≤ 2 ^ 63 → mag (neg_ℤ (pos k)) < 2 ^ 63
neg_mag zero h = omega arith
neg_mag (suc k) h = omega arith

quot_fits : (x y : ℤ) → mag x < 2 ^ 63 → (y ≡ negsuc 0 → x ≡ negsuc 9223372036854775807 → ⊥) → mag (quot_z x y) < 2 ^ 63
quot_fits (pos a) (pos b) h n = lt_of_le_of_lt (div-le_self a b) h
quot_fits (pos a) (negsuc b) h n = let l : a / suc b ≤ a = div-le_self a (suc b) in neg_mag (a / suc b) (omega arith)
quot_fits (negsuc a) (pos b) h n = let l : suc a / b ≤ suc a = div-le_self (suc a) b in neg_mag (suc a / b) (omega arith)
quot_fits (negsuc a) (negsuc zero) h n =
    let m : a ≡ 9223372036854775807 → ⊥ = λ e. n refl (ap negsuc e) in
    rw (div-one (suc a)) (omega arith)
quot_fits (negsuc a) (negsuc (suc b)) h n =
    let l : suc a / suc (suc b) < suc a = div-lt_self (omega arith) (omega arith) in
    omega arith

is_lost : Worth → Bool
is_lost (Ok v) = false
is_lost (Err s) = true

given : (x y : ℤ) → (nat_abs y ≡ 0 → ⊥) → div_of x y ≡ failed → mag (quot_z x y) < 2 ^ 63 → ⊥
unfolding is_lost
given x y n e h =
    let f : div_of x y ≡ Ok (Integer (quot_z x y)) = rw (ne_eqb (nat_abs y) 0 n, lt-ltb (mag (quot_z x y)) (2 ^ 63) h) refl in
    true≢false (ap is_lost (sym e ∙ f))

pub only_least : OnlyLeast
only_least x y h n e = go (ℤ_discrete x (negsuc (2 ^ 63 - 1))) (ℤ_discrete y (negsuc 0))
  where
    go : Dec (x ≡ negsuc (2 ^ 63 - 1)) → Dec (y ≡ negsuc 0) → (x ≡ negsuc (2 ^ 63 - 1)) × (y ≡ negsuc 0)
    go (yes p) (yes q) = (p, q)
    go (yes p) (no q) = absurd (given x y n e (quot_fits x y h (λ s r. q s)))
    go (no p) d = absurd (given x y n e (quot_fits x y h (λ s r. p r)))

-- other types
not_integers : (f : ℤ → ℤ → Worth) (x y : Value) → ((kind_of_value x ≡ 1) × (kind_of_value y ≡ 1) → ⊥) → of_integers f x y ≡ failed
not_integers f (Integer x) (Integer y) n = absurd (n (refl, refl))
not_integers f (Integer x) (Name y) n = refl
not_integers f (Integer x) (Double y) n = refl
not_integers f (Name x) y n = refl
not_integers f (Double x) y n = refl

not_doubles : (f : Float → Float → Worth) (x y : Value) → ((kind_of_value x ≡ 3) × (kind_of_value y ≡ 3) → ⊥) → of_doubles f x y ≡ failed
not_doubles f (Double x) (Integer y) n = refl
not_doubles f (Double x) (Name y) n = refl
not_doubles f (Double x) (Double y) n = absurd (n (refl, refl))
not_doubles f (Integer x) y n = refl
not_doubles f (Name x) y n = refl

pub no_other : NoOther
no_other Add x y n = not_integers add_of x y n
no_other Subtract x y n = not_integers sub_of x y n
no_other Multiply x y n = not_integers mul_of x y n
no_other Divide x y n = not_integers div_of x y n
no_other Remainder x y n = not_integers rem_of x y n
no_other DoubleAdd x y n = not_doubles plus_of x y n
