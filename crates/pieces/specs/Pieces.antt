-- What the code of a comparison's pieces passes on: a worth as a word. `proofs/Laws.antt` ties it to `moves`' specs/Core.antt. Assumes nothing.
use Rattle.std.specs.Prelude.{ℕ, Err, Ok}
use Rattle.sums.specs.Worth.{Word}
use Rattle.meaning.specs.declared.Truth.{Truth}
use Rattle.meaning.specs.declared.Truth.TheVariants.{True, False, Unknown}

abbrev pub since_word : Truth → Word → Word
since_word True w = w
since_word False w = w
since_word (Unknown s) w = Err s

abbrev pub word_in : Word → ℕ
word_in (Ok n) = n
word_in (Err s) = 0

abbrev pub mark_in : Word → Truth
mark_in (Ok n) = True
mark_in (Err s) = Unknown s
