-- What is stored into a lent list. Assumes nothing.
use Rattle.std.specs.Prelude.{ℕ, List}
use Rattle.std.proofs.lemmas.List.Edits.{sets}

-- a list with others stored from a place on
unfoldable pub stored : List ℕ → ℕ → List ℕ → List ℕ
stored l at xs = sets l at xs
