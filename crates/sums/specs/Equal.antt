-- Equal operands give equal results, the two zeros of doubles too. `proofs/Equal.antt` proves it. Assumes nothing.
use Rattle.std.specs.Prelude.{ℕ, ◌≡◌, T, Err, Ok}
use Rattle.sums.specs.Worth.{Worth}
use Rattle.value.specs.Value.{value_of, equal_of}
use Rattle.sums.specs.declared.Operator.{Operator}
use Rattle.sums.specs.Sums.{bytes_of, kind_of, result_of}

-- both are lost for the same reason, or the eight bytes of both stand for equal values of this type
abbrev pub WorthAlike : ℕ → Worth → Worth → Type 0
WorthAlike kind (Err s) (Err t) = s ≡ t
WorthAlike kind (Err s) (Ok y) = ⊥
WorthAlike kind (Ok x) (Err t) = ⊥
WorthAlike kind (Ok x) (Ok y) = T (equal_of (value_of kind (bytes_of x)) (value_of kind (bytes_of y)))

-- equal values of a type are alike
abbrev pub EqualValues : Type 0
EqualValues = (kind a b : ℕ) → T (equal_of (value_of kind a) (value_of kind b)) → WorthAlike kind (Ok (value_of kind a)) (Ok (value_of kind b))

-- and so are an operator's results of equal operands of its type
abbrev pub EqualOperands : Type 0
EqualOperands =
    (o : Operator) (a b c d : ℕ) → T (equal_of (value_of (kind_of o) a) (value_of (kind_of o) c)) → T (equal_of (value_of (kind_of o) b) (value_of (kind_of o) d))
    → WorthAlike (kind_of o) (result_of o (value_of (kind_of o) a) (value_of (kind_of o) b)) (result_of o (value_of (kind_of o) c) (value_of (kind_of o) d))
