-- The field rules: what a record must satisfy by itself (refusal 5), in the order of document 01: kind, choice, span, category, type, finite value,
-- function of a name, unused bytes. Assumes nothing.
use Rattle.std.specs.Prelude.{ℕ, ◌+◌, ◌-◌, ◌*◌, ◌%◌, Bool, true, false, List, eqb, leb}
use Rattle.record.specs.Choose.{if, both, among}
use Rattle.record.specs.Bytes.{size, byte_of, span_of, big_of}
use Rattle.record.specs.Below.{all_below}
use Rattle.value.specs.Value.{finite_of}
use Rattle.fields.specs.First.{count_below}
use Rattle.fields.specs.declared.Kind.{Kind}
use Rattle.fields.specs.declared.Kind.TheVariants.{PolicySet, Policy, Rule, Section, Conjunction, Match, Logic, Not, Comparison, Weighing, Obligation, Literal, Attribute, Operator, Nothing}
use Rattle.fields.specs.declared.Sort.{Sort}
use Rattle.fields.specs.declared.Sort.TheVariants.{Integer, Name, Double, Other}

-- kind and choice: what a record is; `Nothing` where one of the two is not in the table
unfoldable pub kind_of : ℕ → ℕ → Kind
kind_of k c =
    if (eqb k 1) (if (among 1 4 c) PolicySet Nothing)
    (if (eqb k 2) (if (among 1 3 c) Policy Nothing)
    (if (eqb k 3) (if (among 1 2 c) Rule Nothing)
    (if (eqb k 4) (if (among 0 0 c) Section Nothing)
    (if (eqb k 5) (if (among 0 0 c) Conjunction Nothing)
    (if (eqb k 6) (if (among 1 5 c) Match Nothing)
    (if (eqb k 7) (if (among 1 2 c) Logic (if (among 3 3 c) Not (if (among 11 15 c) Comparison (if (among 21 25 c) Weighing Nothing))))
    (if (eqb k 8) (if (among 1 2 c) Obligation Nothing)
    (if (eqb k 10) (if (among 1 1 c) Literal (if (among 2 2 c) Attribute (if (among 3 8 c) Operator Nothing)))
    Nothing))))))))

-- what record i is
unfoldable pub kind_at : List ℕ → ℕ → Kind
kind_at b i = kind_of (byte_of b i 0) (byte_of b i 1)

-- category: 1 subject, 2 resource, 3 action, 4 environment
abbrev pub category_ok : ℕ → Bool
category_ok c = among 1 4 c

-- type: 1 integer, 2 name, 3 double
unfoldable pub type_of : ℕ → Sort
type_of t = if (eqb t 1) Integer (if (eqb t 2) Name (if (eqb t 3) Double Other))

-- the type of record i: byte 5, to which 128 is added for must-be-present
unfoldable pub type_at : List ℕ → ℕ → Sort
type_at b i = type_of (byte_of b i 5 % 128)

-- the value of record i, bytes 8 to 15, is finite as a double
unfoldable pub finite : List ℕ → ℕ → Bool
finite b i = finite_of (big_of b (i * size + 8) 8)

-- there is such a type, and a double is finite
abbrev pub value_ok : Sort → Bool → Bool
value_ok Integer fin = true
value_ok Name fin = true
value_ok Double fin = fin
value_ok Other fin = false

-- names take only function 1
abbrev pub function_ok : Sort → ℕ → Bool
function_ok Integer f = true
function_ok Name f = eqb f 1
function_ok Double f = true
function_ok Other f = true

-- the bytes of record i from a on and below z are zero
unfoldable pub zeros : List ℕ → ℕ → ℕ → ℕ → Bool
zeros b i a z = all_below (λ (j : ℕ). eqb (byte_of b i (a + j)) 0) (z - a)

-- a record that uses no byte but kind, choice and span, the span being at least s
unfoldable pub plain_ok : List ℕ → ℕ → ℕ → Bool
plain_ok b i s = both (leb s (span_of b i)) (zeros b i 4 size)

-- a section: something below it, and a category; it uses byte 4
unfoldable pub section_ok : List ℕ → ℕ → Bool
section_ok b i = both (leb 2 (span_of b i)) (both (category_ok (byte_of b i 4)) (zeros b i 5 size))

-- a match or a comparison by function f: nothing below it; it uses bytes 4 to 17
unfoldable pub compares_ok : List ℕ → ℕ → ℕ → Bool
compares_ok b i f =
    both (eqb (span_of b i) 1)
    (both (category_ok (byte_of b i 4))
    (both (value_ok (type_at b i) (finite b i))
    (both (function_ok (type_at b i) f)
    (zeros b i 18 size))))

-- an obligation: nothing below it; it uses bytes 6 and 7
unfoldable pub obligation_ok : List ℕ → ℕ → Bool
obligation_ok b i = both (eqb (span_of b i) 1) (both (zeros b i 4 6) (zeros b i 8 size))

-- a literal: nothing below it; it uses bytes 5, which never has 128, and 8 to 15
unfoldable pub literal_ok : List ℕ → ℕ → Bool
literal_ok b i =
    both (eqb (span_of b i) 1)
    (both (zeros b i 4 5)
    (both (value_ok (type_of (byte_of b i 5)) (finite b i))
    (both (zeros b i 6 8)
    (zeros b i 16 size))))

-- an attribute: nothing below it; it uses bytes 4 to 7, and 16 and 17
unfoldable pub attribute_ok : List ℕ → ℕ → Bool
attribute_ok b i =
    both (eqb (span_of b i) 1)
    (both (category_ok (byte_of b i 4))
    (both (value_ok (type_at b i) true)
    (both (zeros b i 8 16)
    (zeros b i 18 size))))

-- the field rules of record i, by what it is
abbrev pub rules_of : List ℕ → ℕ → Kind → Bool
rules_of b i PolicySet = plain_ok b i 1
rules_of b i Policy = plain_ok b i 1
rules_of b i Rule = plain_ok b i 1
rules_of b i Section = section_ok b i
rules_of b i Conjunction = plain_ok b i 2
rules_of b i Match = compares_ok b i (byte_of b i 1)
rules_of b i Logic = plain_ok b i 1
rules_of b i Not = plain_ok b i 2
rules_of b i Comparison = compares_ok b i (byte_of b i 1 - 10)
rules_of b i Weighing = plain_ok b i 1
rules_of b i Obligation = obligation_ok b i
rules_of b i Literal = literal_ok b i
rules_of b i Attribute = attribute_ok b i
rules_of b i Operator = plain_ok b i 1
rules_of b i Nothing = false

unfoldable pub field_ok : List ℕ → ℕ → Bool
field_ok b i = rules_of b i (kind_at b i)

-- the obligation records among the first n: those of kind 08
unfoldable pub obligations_of : List ℕ → ℕ → ℕ
obligations_of b n = count_below (λ (i : ℕ). eqb (byte_of b i 0) 8) n
