-- A word as a budget. Assumes nothing.
use Rattle.std.specs.Prelude.{ℕ, zero, suc, ◌+◌, ◌-◌, ◌*◌, Bool, List, ltb, leb, length, get_or, Option, Some, None}
use Rattle.record.specs.Choose.{if, both, among}
use Rattle.record.specs.Below.{all_below}

-- byte i is a decimal digit
abbrev pub is_decimal : List ℕ → ℕ → Bool
is_decimal word i = among 48 57 (get_or word i 0)

-- the number that the first n digits say
unfoldable pub decimal_of : List ℕ → ℕ → ℕ
decimal_of word zero = 0
decimal_of word (suc n) = 10 * decimal_of word n + (get_or word n 0 - 48)

-- the largest 64-bit number
abbrev pub largest : ℕ
largest = 18446744073709551615

-- a budget is one or more decimal digits, and no larger than that
unfoldable pub budget_of : List ℕ → Option ℕ
budget_of word =
    let n = length word in
    if (both (ltb 0 n) (both (all_below (is_decimal word) n) (leb (decimal_of word n) largest))) (Some (decimal_of word n)) None
