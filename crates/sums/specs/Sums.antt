-- What the operators of document 02, 3 give: a value, or none. Assumes nothing.
use Rattle.std.specs.Prelude.{ℕ, suc, ◌-◌, ◌^◌, Bool, true, not, ltb, leb, eqb, ℤ, pos, negsuc, nat_abs, ◌+ℤ◌, ◌-ℤ◌, ◌*ℤ◌, Float, Option, Some, None, Err, Ok}
use Rattle.std.specs.Int.Signed.{mag, quot_z, rem_z}
use Rattle.std.specs.Float.{binary64}
use Rattle.std.specs.Float.Ieee.{is_nan, to_bits}
use Rattle.sums.specs.Worth.{Word, Worth}
use Rattle.record.specs.Choose.{if}
use Rattle.value.specs.Units.{units_of}
use Rattle.doubles.specs.Rounds.{rounded_of, finite_sum}
use Rattle.value.specs.declared.Value.{Value}
use Rattle.value.specs.declared.Value.TheVariants.{Integer, Name, Double}
use Rattle.sums.specs.declared.Operator.{Operator}
use Rattle.sums.specs.declared.Operator.TheVariants.{Add, Subtract, Multiply, Divide, Remainder, DoubleAdd}
use Rattle.sums.specs.declared.Status.TheVariants.{Processing}

-- a failed sum is a processing error (document 02, section 4)
abbrev pub failed : Worth
failed = Err Processing

-- the whole number, if 64 bits hold it: `mag z` is n both for n and for -(n + 1)
abbrev pub fitted : ℤ → Worth
fitted z = if (ltb (mag z) (2 ^ 63)) (Ok (Integer z)) failed

-- the number that is given, if there is one
abbrev pub whole_of : Option ℤ → Worth
whole_of None = failed
whole_of (Some z) = Ok (Integer z)

abbrev pub add_of : ℤ → ℤ → Worth
add_of x y = fitted (x +ℤ y)

abbrev pub sub_of : ℤ → ℤ → Worth
sub_of x y = fitted (x -ℤ y)

abbrev pub mul_of : ℤ → ℤ → Worth
mul_of x y = fitted (x *ℤ y)

-- toward zero; a zero divisor gives none, nor does the least number by -1, which does not fit
abbrev pub div_of : ℤ → ℤ → Worth
div_of x y = if (eqb (nat_abs y) 0) failed (fitted (quot_z x y))

-- with the dividend's sign; a zero divisor gives none. It always fits, and by -1 it is 0
abbrev pub rem_of : ℤ → ℤ → Worth
rem_of x y = if (eqb (nat_abs y) 0) failed (Ok (Integer (rem_z x y)))

-- the exact sum of two doubles, by their eight bytes, as a whole number of units of two to the power -1074
abbrev pub exact_sum : ℕ → ℕ → ℤ
exact_sum a b = units_of a +ℤ units_of b

-- the double nearest to it, if that is finite; the top bit of eight bytes is the sign
abbrev pub nearest_sum : ℕ → ℕ → Worth
nearest_sum a b = if (finite_sum (exact_sum a b)) (Ok (Double (rounded_of (leb (2 ^ 63) a) (leb (2 ^ 63) b) (exact_sum a b)))) failed

abbrev pub plus_of : Float → Float → Worth
plus_of x y = nearest_sum (to_bits binary64 x) (to_bits binary64 y)

-- of two values; of other types than the operator's there is none
abbrev pub of_integers : (ℤ → ℤ → Worth) → Value → Value → Worth
of_integers f (Integer x) (Integer y) = f x y
of_integers f (Integer x) (Name y) = failed
of_integers f (Integer x) (Double y) = failed
of_integers f (Name x) b = failed
of_integers f (Double x) b = failed

abbrev pub of_doubles : (Float → Float → Worth) → Value → Value → Worth
of_doubles f (Double x) (Integer y) = failed
of_doubles f (Double x) (Name y) = failed
of_doubles f (Double x) (Double y) = f x y
of_doubles f (Integer x) b = failed
of_doubles f (Name x) b = failed

-- the operators, choices 3 to 8 of kind 0A
abbrev pub result_of : Operator → Value → Value → Worth
result_of Add a b = of_integers add_of a b
result_of Subtract a b = of_integers sub_of a b
result_of Multiply a b = of_integers mul_of a b
result_of Divide a b = of_integers div_of a b
result_of Remainder a b = of_integers rem_of a b
result_of DoubleAdd a b = of_doubles plus_of a b

-- the type of an operator's operands, and of what it gives: 1 integer, 3 double
abbrev pub kind_of : Operator → ℕ
kind_of Add = 1
kind_of Subtract = 1
kind_of Multiply = 1
kind_of Divide = 1
kind_of Remainder = 1
kind_of DoubleAdd = 3

-- the eight bytes of a value, as a number
abbrev pub unsigned64 : ℤ → ℕ
unsigned64 (pos n) = n
unsigned64 (negsuc n) = 2 ^ 64 - suc n

abbrev pub bytes_of : Value → ℕ
bytes_of (Integer x) = unsigned64 x
bytes_of (Name n) = n
bytes_of (Double x) = to_bits binary64 x

-- a worth, in bytes
abbrev pub in_bytes : Worth → Word
in_bytes (Ok v) = Ok (bytes_of v)
in_bytes (Err s) = Err s

-- an integer, a name or a double that is a number
abbrev pub is_number : Value → Bool
is_number (Integer x) = true
is_number (Name n) = true
is_number (Double x) = not (is_nan x)
