-- What is claimed of operands as they are read: in a book that keeps the rules they are two values of one type. So in the tree of an accepted book operands
-- are of their operators' types. `proofs/Typed.antt` proves it. Assumes nothing.
use Rattle.std.specs.Prelude.{ℕ, ◌+◌, ◌-◌, ◌<◌, ◌≡◌, true, List, [], ◌∷◌}
use Rattle.record.specs.Bytes.{Bytes, byte_of, span_of}
use Rattle.record.specs.Forest.{Forest, forest}
use Rattle.fields.specs.Fields.{kind_at}
use Rattle.fields.specs.declared.Kind.TheVariants.{Weighing, Operator}
use Rattle.meaning.specs.Policy.{Expr}
use Rattle.meaning.specs.Meaning.{type_of}
use Rattle.meaning.specs.Reading.{exprs_in, book_of}
use Rattle.meaning.specs.Typed.{Typed, TypedTree}
use Rattle.operands.specs.Operands.{operator_type, comparable_by}
use Rattle.placement.specs.Keeps.{Keeps}
use Rattle.judge.specs.Judge.{judge_of, accepted_with}

-- records are read as two values and no more, both of type t, and the operands within these are of their operators' types too
pub record TwoValues (b : List ℕ) (f : Forest) (t : ℕ) : Type 0 where
  pub first : Expr
  pub second : Expr
  pub only : exprs_in b f ≡ first ∷ second ∷ []
  pub first_type_lem : type_of first ≡ t
  pub second_type : type_of second ≡ t
  pub first_typed : Typed first
  pub second_typed : Typed second

-- they are read as two values of one type, which choice c may compare
pub record TwoCompared (b : List ℕ) (f : Forest) (c : ℕ) : Type 0 where
  pub type : ℕ
  pub comparable : comparable_by type c ≡ true
  pub values : TwoValues b f type

-- the records below record i
abbrev pub below : List ℕ → ℕ → Forest
below b i = forest b (i + 1) (span_of b i - 1)

-- in a book that keeps the rules an operator has two values of its type below it, and a comparison of values two of one type, which it may compare
abbrev pub ReadAsTwo : Type 0
ReadAsTwo =
    (b : List ℕ) (n i : ℕ) → Bytes b → Keeps b n → i < n
    → (kind_at b i ≡ Operator → TwoValues b (below b i) (operator_type (byte_of b i 1)))
    × (kind_at b i ≡ Weighing → TwoCompared b (below b i) (byte_of b i 1))

-- the tree of an accepted book: operands are of their operators' types, values that are compared of one type, literals of eight bytes
abbrev pub AcceptedIsTyped : Type 0
AcceptedIsTyped = (b : List ℕ) (n m : ℕ) → Bytes b → judge_of b ≡ accepted_with n m → TypedTree (book_of b)
