-- Worked examples of document 02, section 3, computed. Assumes nothing.
use Rattle.std.specs.Prelude.{Ok}
use Prim.Native.Nat.{◌-◌, ◌^◌}
use mathlib.Core.Path.{◌≡◌, refl}
use mathlib.Core.List.{List, [], ◌∷◌}
use lib.Dec.{eqb}
use lib.IntN.{pos, negsuc}
use Rattle.record.specs.Choose.{if}
use Rattle.value.specs.Value.{signed64, value_of}
use Rattle.value.specs.declared.Value.{Value}
use Rattle.value.specs.declared.Value.TheVariants.{Integer}
use Rattle.value.specs.declared.Function.TheVariants.{Greater}
use Rattle.sums.specs.Sums.{failed, result_of}
use Rattle.sums.specs.declared.Operator.TheVariants.{Add, Subtract, Multiply, Divide, Remainder}
use Rattle.sums.specs.declared.Status.TheVariants.{Missing, Processing}
use Rattle.meaning.specs.Numbers.{key_by}
use Rattle.meaning.specs.Policy.{literal, attribute, operate, Condition, weighs}
use Rattle.meaning.specs.Meaning.{Bags, worth, condition_of}
use Rattle.meaning.specs.declared.Truth.TheVariants.{True, False, Unknown}

-- the least and the largest integer
abbrev least : Value
least = Integer (negsuc (2 ^ 63 - 1))

abbrev most : Value
most = Integer (pos (2 ^ 63 - 1))

too_large : result_of Add most (Integer (pos 1)) ≡ failed
too_large = refl

too_small : result_of Subtract least (Integer (pos 1)) ≡ failed
too_small = refl

product_too_large : result_of Multiply least (Integer (negsuc 0)) ≡ failed
product_too_large = refl

quotient_too_large : result_of Divide least (Integer (negsuc 0)) ≡ failed
quotient_too_large = refl

remainder_by_minus_one : result_of Remainder least (Integer (negsuc 0)) ≡ Ok (Integer (pos 0))
remainder_by_minus_one = refl

by_zero : result_of Divide most (Integer (pos 0)) ≡ failed
by_zero = refl

-- -7 / 2 is -3, and -1 is left
toward_zero : result_of Divide (Integer (negsuc 6)) (Integer (pos 2)) ≡ Ok (Integer (negsuc 2))
toward_zero = refl

dividend's_sign : result_of Remainder (Integer (negsuc 6)) (Integer (pos 2)) ≡ Ok (Integer (negsuc 0))
dividend's_sign = refl

-- front pressure (environment attribute 7, integer) plus an offset of 15 passes a limit of 50
passes : Condition
passes = weighs Greater (operate Add (attribute 0x04010007) (literal 1 15)) (literal 1 50)

given : List Value → Bags
given vs key = if (eqb key.identifier 7) vs []

high : condition_of (given (Integer (pos 40) ∷ [])) passes ≡ True
unfolding condition_of worth passes given key_by value_of signed64
high = refl

low : condition_of (given (Integer (pos 35) ∷ [])) passes ≡ False
unfolding condition_of worth passes given key_by value_of signed64
low = refl

none : condition_of (given []) passes ≡ Unknown Missing
unfolding condition_of worth passes given key_by value_of signed64
none = refl

two : condition_of (given (Integer (pos 40) ∷ Integer (pos 40) ∷ [])) passes ≡ Unknown Processing
unfolding condition_of worth passes given key_by value_of signed64
two = refl

fails : condition_of (given (most ∷ [])) passes ≡ Unknown Processing
unfolding condition_of worth passes given key_by value_of signed64
fails = refl
