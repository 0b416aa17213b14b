-- Bags count only through what tests and operands find in them. `proofs/Alike.antt` proves it. Assumes nothing.
use Rattle.std.specs.Prelude.{ℕ, ◌≡◌}
use Rattle.sums.specs.Equal.{WorthAlike}
use Rattle.meaning.specs.Numbers.{key_by}
use Rattle.meaning.specs.Meaning.{Bags, match_of, comparison_of, the_only, decides, obliges}
use Rattle.meaning.specs.Policy.{Tree}
use Rattle.meaning.specs.Typed.{TypedTree}
use Rattle.meaning.specs.declared.Test.{Test}

-- every test finds the same in both, as a match and as a comparison, and every attribute equal values of its type, or no one value in both
pub record FoundAlike (g h : Bags) : Type 0 where
  pub matched : (t : Test) → match_of g t ≡ match_of h t
  pub compared : (t : Test) → comparison_of g t ≡ comparison_of h t
  pub worths : (key : ℕ) → WorthAlike (key_by key).type (the_only (g (key_by key))) (the_only (h (key_by key)))

-- then every policy whose conditions are typed decides the same, and hands up the same obligations
abbrev pub CountsByTests : Type 0
CountsByTests = (g h : Bags) → FoundAlike g h → (n : Tree) → TypedTree n → (decides g n ≡ decides h n) × (obliges g n ≡ obliges h n)
