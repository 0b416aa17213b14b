-- Operators and comparisons on words: a value is its eight bytes, or nothing and why. The first that is lost counts. Assumes nothing.
use Rattle.std.specs.Prelude.{ℕ, Err, Ok}
use Rattle.sums.specs.Worth.{Word}
use Rattle.value.specs.Value.{value_of, test_of}
use Rattle.value.specs.declared.Function.{Function}
use Rattle.sums.specs.Sums.{kind_of, result_of, in_bytes}
use Rattle.sums.specs.declared.Operator.{Operator}
use Rattle.meaning.specs.Meaning.{truth_of}
use Rattle.meaning.specs.declared.Truth.{Truth}
use Rattle.meaning.specs.declared.Truth.TheVariants.{Unknown}

abbrev pub operated_of : Operator → Word → Word → Word
operated_of o (Ok x) (Ok y) = in_bytes (result_of o (value_of (kind_of o) x) (value_of (kind_of o) y))
operated_of o (Ok x) (Err s) = Err s
operated_of o (Err s) b = Err s

abbrev pub weighed_of : Function → ℕ → Word → Word → Truth
weighed_of f k (Ok x) (Ok y) = truth_of (test_of f (value_of k x) (value_of k y))
weighed_of f k (Ok x) (Err s) = Unknown s
weighed_of f k (Err s) b = Unknown s
