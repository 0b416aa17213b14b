-- Document 02, 3, of operators: "integer add, subtract, multiply, divide (toward zero) and remainder (sign of the dividend)", and "A result that does not fit
-- 64 bits, a zero divisor or a double that is not finite is Indeterminate; a remainder by -1 is 0". `proofs/Claims.antt` proves it of integers; what the sum of
-- two doubles is, the crate `doubles` claims. Assumes nothing.
use Rattle.std.specs.Prelude.{ℕ, ◌-◌, ◌*◌, ◌^◌, ◌<◌, ◌≤◌, ◌≡◌, true, ℤ, pos, negsuc, nat_abs, ◌+ℤ◌, ◌-ℤ◌, ◌*ℤ◌, Ok}
use Rattle.std.specs.Int.Signed.{mag, lt_z, le_z, quot_z, rem_z}
use Rattle.record.specs.Choose.{if, both}
use Rattle.value.specs.declared.Value.{Value}
use Rattle.value.specs.declared.Value.TheVariants.{Integer, Name, Double}
use Rattle.sums.specs.declared.Operator.{Operator}
use Rattle.sums.specs.declared.Operator.TheVariants.{Add, Subtract, Multiply, Divide, Remainder}
use Rattle.sums.specs.Sums.{failed, fitted, result_of, kind_of}

-- a result is given, as it is, exactly from -2 ^ 63 to 2 ^ 63 - 1
abbrev pub FitsIs : Type 0
FitsIs = (z : ℤ) → fitted z ≡ if (both (le_z (negsuc (2 ^ 63 - 1)) z) (le_z z (pos (2 ^ 63 - 1)))) (Ok (Integer z)) failed

-- add, subtract and multiply give the exact sum, difference and product, where it fits
abbrev pub ExactFirst : Type 0
ExactFirst =
    (x y : ℤ)
    → (result_of Add (Integer x) (Integer y) ≡ fitted (x +ℤ y))
    × (result_of Subtract (Integer x) (Integer y) ≡ fitted (x -ℤ y))
    × (result_of Multiply (Integer x) (Integer y) ≡ fitted (x *ℤ y))

-- divide and remainder by 0 give none
abbrev pub NoneByZero : Type 0
NoneByZero = (x : ℤ) → (result_of Divide (Integer x) (Integer (pos 0)) ≡ failed) × (result_of Remainder (Integer x) (Integer (pos 0)) ≡ failed)

-- by any other number divide gives the quotient, where it fits, and remainder gives the remainder
abbrev pub QuotientAndRemainder : Type 0
QuotientAndRemainder =
    (x y : ℤ) → (nat_abs y ≡ 0 → ⊥)
    → (result_of Divide (Integer x) (Integer y) ≡ fitted (quot_z x y)) × (result_of Remainder (Integer x) (Integer y) ≡ Ok (Integer (rem_z x y)))

-- q is the quotient of x by y toward zero, and r is the remainder, which is smaller in size than y and is 0 or has the sign of x
pub record Divided (x y q r : ℤ) : Type 0 where
  pub whole : x ≡ q *ℤ y +ℤ r
  pub smaller : nat_abs r < nat_abs y
  pub below : lt_z r (pos 0) ≡ true → lt_z x (pos 0) ≡ true
  pub above : lt_z (pos 0) r ≡ true → lt_z (pos 0) x ≡ true
  pub toward : nat_abs q * nat_abs y ≤ nat_abs x

-- these are the quotient and the remainder that are given
abbrev pub DividesTowardZero : Type 0
DividesTowardZero = (x y : ℤ) → (nat_abs y ≡ 0 → ⊥) → Divided x y (quot_z x y) (rem_z x y)

-- the remainder of any number by -1 is 0
abbrev pub RemainderByMinusOne : Type 0
RemainderByMinusOne = (x : ℤ) → result_of Remainder (Integer x) (Integer (negsuc 0)) ≡ Ok (Integer (pos 0))

-- the least number by -1 has no quotient that fits
abbrev pub LeastByMinusOne : Type 0
LeastByMinusOne = result_of Divide (Integer (negsuc (2 ^ 63 - 1))) (Integer (negsuc 0)) ≡ failed

-- and of a dividend of 64 bits by a divisor that is not 0 no other quotient fails
abbrev pub OnlyLeast : Type 0
OnlyLeast =
    (x y : ℤ) → mag x < 2 ^ 63 → (nat_abs y ≡ 0 → ⊥) → result_of Divide (Integer x) (Integer y) ≡ failed → (x ≡ negsuc (2 ^ 63 - 1)) × (y ≡ negsuc 0)

-- the type of a value: 1 integer, 2 name, 3 double
abbrev pub kind_of_value : Value → ℕ
kind_of_value (Integer x) = 1
kind_of_value (Name n) = 2
kind_of_value (Double x) = 3

-- of values that are not both of its type an operator gives none
abbrev pub NoOther : Type 0
NoOther = (o : Operator) (x y : Value) → ((kind_of_value x ≡ kind_of o) × (kind_of_value y ≡ kind_of o) → ⊥) → result_of o x y ≡ failed
