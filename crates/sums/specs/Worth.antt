-- What a sum gives: a value, or why there is none. Assumes nothing.
use Rattle.std.specs.Prelude.{ℕ, Result}
use Rattle.value.specs.declared.Value.{Value}
use Rattle.sums.specs.declared.Status.{Status}

abbrev pub Worth : Type 0
Worth = Result Value Status

-- a worth as a word: its eight bytes
abbrev pub Word : Type 0
Word = Result ℕ Status
