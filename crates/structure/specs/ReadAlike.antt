-- What is claimed of the meaning of records: it is read off their own bytes, wherever they stand. `proofs/ReadAlike.antt` proves it. Assumes nothing.
use Rattle.std.specs.Prelude.{ℕ, ◌≡◌, List}
use Rattle.record.specs.Forest.{Forest, forest}
use Rattle.meaning.specs.Reading.{target_in, exprs_in, conditions_in, when_in, rules_in, obligations_in, trees_in}
use Rattle.structure.specs.Subtrees.{SameRecords}

-- two forests of records, each with its own bytes, are read alike
pub record ReadAlike (b : List ℕ) (f : Forest) (c : List ℕ) (g : Forest) : Type 0 where
  pub target : target_in b f ≡ target_in c g
  pub values : exprs_in b f ≡ exprs_in c g
  pub conditions : conditions_in b f ≡ conditions_in c g
  pub condition : when_in b f ≡ when_in c g
  pub rules : rules_in b f ≡ rules_in c g
  pub obligations : obligations_in b f ≡ obligations_in c g
  pub policies : trees_in b f ≡ trees_in c g

-- the same records are read alike
abbrev pub SameIsReadAlike : Type 0
SameIsReadAlike = (b : List ℕ) (i : ℕ) (c : List ℕ) (j s : ℕ) → SameRecords b i c j s → ReadAlike b (forest b i s) c (forest c j s)
