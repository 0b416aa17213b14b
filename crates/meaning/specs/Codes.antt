-- What is claimed of status codes (document 02, section 4): they change no decision and no obligation, and every Indeterminate has one.
-- `proofs/Forgets.antt` and `proofs/Codes.antt` prove it. Assumes nothing.
use Rattle.std.specs.Prelude.{ℕ, ◌≡◌, List, T, Err, Ok, Some}
use Rattle.sums.specs.Worth.{Worth}
use Rattle.value.specs.Value.{value_of, equal_of}
use Rattle.sums.specs.Sums.{bytes_of}
use Rattle.sums.specs.declared.Status.{Status}
use Rattle.sums.specs.declared.Status.TheVariants.{Processing}
use Rattle.meaning.specs.Numbers.{key_by}
use Rattle.meaning.specs.Meaning.{Bags, match_of, the_only, comparison_of, decision_in, Child, combine, cause_of, verdict_of, decides, obliges}
use Rattle.meaning.specs.Policy.{Tree}
use Rattle.meaning.specs.Typed.{TypedTree}
use Rattle.meaning.specs.declared.Truth.{Truth}
use Rattle.meaning.specs.declared.Truth.TheVariants.{True, False, Unknown}
use Rattle.meaning.specs.declared.Test.{Test}
use Rattle.meaning.specs.declared.Decision.TheVariants.{Indeterminate}
use Rattle.meaning.specs.declared.Algorithm.{Algorithm}

-- a verdict without its code is what the algorithm decides, which looks at no code
abbrev pub Forgets : Type 0
Forgets = (a : Algorithm) (cs : List Child) → decision_in (verdict_of a cs) ≡ combine a cs

-- where an algorithm decides Indeterminate there is a cause: the last row of `coded` is never met
abbrev pub AlwaysCaused : Type 0
AlwaysCaused = (a : Algorithm) (cs : List Child) → combine a cs ≡ Indeterminate → (s : Status) × (cause_of a cs ≡ Some s)

-- a truth without its code
abbrev pub plain : Truth → Truth
plain True = True
plain False = False
plain (Unknown s) = Unknown Processing

-- both are lost, for whatever reason, or the eight bytes of both stand for equal values of this type
abbrev pub WorthPlain : ℕ → Worth → Worth → Type 0
WorthPlain kind (Err s) (Err t) = Unit
WorthPlain kind (Err s) (Ok y) = ⊥
WorthPlain kind (Ok x) (Err t) = ⊥
WorthPlain kind (Ok x) (Ok y) = T (equal_of (value_of kind (bytes_of x)) (value_of kind (bytes_of y)))

-- every test and every attribute finds the same in both, but for codes
pub record FoundPlain (g h : Bags) : Type 0 where
  pub matched : (t : Test) → plain (match_of g t) ≡ plain (match_of h t)
  pub compared : (t : Test) → plain (comparison_of g t) ≡ plain (comparison_of h t)
  pub worths : (key : ℕ) → WorthPlain (key_by key).type (the_only (g (key_by key))) (the_only (h (key_by key)))

-- then the decision and the obligations are the same: they are document 01's, in which Indeterminate has no code
abbrev pub CodesForgotten : Type 0
CodesForgotten =
    (g h : Bags) → FoundPlain g h → (n : Tree) → TypedTree n → (decision_in (decides g n) ≡ decision_in (decides h n)) × (obliges g n ≡ obliges h n)
