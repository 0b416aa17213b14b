-- The operands of document 02, 3: the values that an operator, or a comparison of values, has for children. Assumes nothing.
use Rattle.std.specs.Prelude.{ℕ, ◌+◌, ◌%◌, Bool, true, List, eqb, ltb}
use Rattle.record.specs.Choose.{if, both}
use Rattle.record.specs.Bytes.{byte_of}
use Rattle.fields.specs.First.{count_below}
use Rattle.fields.specs.Fields.{kind_at}
use Rattle.fields.specs.declared.Kind.{Kind}
use Rattle.fields.specs.declared.Kind.TheVariants.{PolicySet, Policy, Rule, Section, Conjunction, Match, Logic, Not, Comparison, Weighing, Obligation, Literal, Attribute, Operator, Nothing}
use Rattle.operands.specs.Parent.{end_of, parent_of}

-- the type that an operator takes and gives, by its choice: 8 adds doubles, the others are of integers
abbrev pub operator_type : ℕ → ℕ
operator_type c = if (eqb c 8) 3 1

-- the type of a value: byte 5 of a literal or an attribute, an operator's own; 0 for a record that is no value
abbrev pub type_by : Kind → ℕ → ℕ → ℕ
type_by PolicySet t c = 0
type_by Policy t c = 0
type_by Rule t c = 0
type_by Section t c = 0
type_by Conjunction t c = 0
type_by Match t c = 0
type_by Logic t c = 0
type_by Not t c = 0
type_by Comparison t c = 0
type_by Weighing t c = 0
type_by Obligation t c = 0
type_by Literal t c = t
type_by Attribute t c = t
type_by Operator t c = operator_type c
type_by Nothing t c = 0

unfoldable pub value_type : List ℕ → ℕ → ℕ
value_type b i = type_by (kind_at b i) (byte_of b i 5 % 128) (byte_of b i 1)

-- the children of record i: the later records whose parent it is
unfoldable pub is_child : List ℕ → ℕ → ℕ → Bool
is_child b i j = both (ltb i j) (eqb (parent_of b j) i)

unfoldable pub is_operand : List ℕ → ℕ → ℕ → ℕ → Bool
is_operand b i t j = both (is_child b i j) (eqb (value_type b j) t)

-- record i has two children, and both are values of type t
unfoldable pub two_values : List ℕ → ℕ → ℕ → Bool
two_values b i t = both (eqb (count_below (is_child b i) (end_of b i)) 2) (eqb (count_below (is_operand b i t) (end_of b i)) 2)

-- values of type t may be compared by choice c: names by 21 only
unfoldable pub comparable_by : ℕ → ℕ → Bool
comparable_by t c = if (eqb t 2) (eqb c 21) (ltb 0 t)

-- an operator has two values of its type, a comparison of values two of one type, t; nothing is asked of the children of other records here
abbrev pub operands_ok : Kind → ℕ → ℕ → (ℕ → Bool) → Bool
operands_ok PolicySet c t two = true
operands_ok Policy c t two = true
operands_ok Rule c t two = true
operands_ok Section c t two = true
operands_ok Conjunction c t two = true
operands_ok Match c t two = true
operands_ok Logic c t two = true
operands_ok Not c t two = true
operands_ok Comparison c t two = true
operands_ok Weighing c t two = both (comparable_by t c) (two t)
operands_ok Obligation c t two = true
operands_ok Literal c t two = true
operands_ok Attribute c t two = true
operands_ok Operator c t two = two (operator_type c)
operands_ok Nothing c t two = true

-- has record i the operands that it wants? the type of two that are compared is the first's, which stands next to it
unfoldable pub operands_at : List ℕ → ℕ → Bool
operands_at b i = operands_ok (kind_at b i) (byte_of b i 1) (value_type b (i + 1)) (two_values b i)
