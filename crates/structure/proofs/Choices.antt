-- The kind of a record says by its choice how it is read: as a literal, an attribute, an operator, a comparison of values, or as none of these.
-- Assumes nothing.
use mathlib.Core.Path.{◌≡◌, refl, ◌∙◌}
use mathlib.Core.Bool.{Bool, true, false}
use mathlib.Core.List.{List}
use Prim.Native.Nat.{ℕ, ◌%◌, ◌≤◌}
use native.Mathlib.Omega.{arith}
use lib.Dec.{eqb, leb}
use borrow.Author.Tests.{eq-eqb, ne_eqb, leb-true, leb-false}
use Rattle.record.specs.Choose.{both, among}
use Rattle.record.specs.Bytes.{size, byte_of, span_of}
use Rattle.record.proofs.Choose.{no_false, both_left, both_right, both_parts}
use Rattle.fields.specs.Fields.{kind_at, type_of, finite, value_ok, zeros, literal_ok, field_ok}
use Rattle.fields.specs.declared.Kind.{Kind}
use Rattle.fields.specs.declared.Kind.TheVariants.{PolicySet, Policy, Rule, Section, Conjunction, Match, Logic, Not, Comparison, Weighing, Obligation, Literal, Attribute, Operator, Nothing}
use Rattle.fields.proofs.First.{by}
use Rattle.operands.specs.Operands.{type_by, value_type}
use Rattle.placement.specs.Place.{kind_number}
use Rattle.grammar.specs.Row.{Fit, is_fit}
use Rattle.grammar.proofs.Fits.{unlisted}

-- record i is of one of the kinds that are read for their values, with such a choice; or it is no value, and its choice is below those of such comparisons
pub data ReadAs (b : List ℕ) (i : ℕ) : Type 0 where
  is_literal : kind_at b i ≡ Literal → byte_of b i 1 ≡ 1 → ReadAs b i
  is_attribute : kind_at b i ≡ Attribute → byte_of b i 1 ≡ 2 → ReadAs b i
  is_operator : kind_at b i ≡ Operator → 3 ≤ byte_of b i 1 → byte_of b i 1 ≤ 8 → ReadAs b i
  is_weighing : kind_at b i ≡ Weighing → ReadAs b i
  is_other : value_type b i ≡ 0 → byte_of b i 1 ≤ 20 → ReadAs b i

-- a record that is a k has one of k's choices, since a record with another is none
module _ (b : List ℕ) (i : ℕ) {k : Kind} (f : Fit b i k) where
  fit_is : is_fit b i k ≡ true
  unfolding is_fit
  fit_is = rw (f.kind, eq-eqb (kind_number k) (kind_number k) refl) f.fields

  choice_in : (n low high : ℕ) → (both (eqb (byte_of b i 0) n) (among low high (byte_of b i 1)) ≡ false → false ≡ is_fit b i k)
      → (low ≤ byte_of b i 1) × (byte_of b i 1 ≤ high)
  choice_in n low high g =
      let c : ℕ = byte_of b i 1 in
      by (both (eqb (byte_of b i 0) n) (among low high c))
      (λ t. let x = both_parts (leb low c) (leb c high) (both_right (eqb (byte_of b i 0) n) (among low high c) t) in (leb-true low c x.0, leb-true c high x.1))
      (λ t. no_false (g t ∙ fit_is))

  other : type_by k (byte_of b i 5 % 128) (byte_of b i 1) ≡ 0 → (n low high : ℕ) → high ≤ 20
      → (both (eqb (byte_of b i 0) n) (among low high (byte_of b i 1)) ≡ false → false ≡ is_fit b i k) → ReadAs b i
  unfolding value_type
  other t n low high l g = is_other (rw f.kind t) (omega (arith, choice_in n low high g))

read_by_lem : (b : List ℕ) (i : ℕ) (k : Kind) → Fit b i k → ReadAs b i
read_by_lem b i PolicySet f = other b i f refl 1 1 4 (omega arith) (unlisted b i PolicySet refl)
read_by_lem b i Policy f = other b i f refl 2 1 3 (omega arith) (unlisted b i Policy refl)
read_by_lem b i Rule f = other b i f refl 3 1 2 (omega arith) (unlisted b i Rule refl)
read_by_lem b i Section f = other b i f refl 4 0 0 (omega arith) (unlisted b i Section refl)
read_by_lem b i Conjunction f = other b i f refl 5 0 0 (omega arith) (unlisted b i Conjunction refl)
read_by_lem b i Match f = other b i f refl 6 1 5 (omega arith) (unlisted b i Match refl)
read_by_lem b i Logic f = other b i f refl 7 1 2 (omega arith) (unlisted b i Logic refl)
read_by_lem b i Not f = other b i f refl 7 3 3 (omega arith) (unlisted b i Not refl)
read_by_lem b i Comparison f = other b i f refl 7 11 15 (omega arith) (unlisted b i Comparison refl)
read_by_lem b i Weighing f = is_weighing f.kind
read_by_lem b i Obligation f = other b i f refl 8 1 2 (omega arith) (unlisted b i Obligation refl)
read_by_lem b i Literal f = is_literal f.kind (omega (arith, choice_in b i f 10 1 1 (unlisted b i Literal refl)))
read_by_lem b i Attribute f = is_attribute f.kind (omega (arith, choice_in b i f 10 2 2 (unlisted b i Attribute refl)))
read_by_lem b i Operator f = let x = choice_in b i f 10 3 8 (unlisted b i Operator refl) in is_operator f.kind x.0 x.1
read_by_lem b i Nothing f = other b i f refl 0 1 0 (omega arith) (unlisted b i Nothing refl)

pub read_as : (b : List ℕ) (i : ℕ) → field_ok b i ≡ true → ReadAs b i
read_as b i e = read_by_lem b i (kind_at b i) (record { kind = refl; fields = e })

-- a literal's type is byte 5 as it is
type_most : (t : ℕ) (f : Bool) → value_ok (type_of t) f ≡ true → t ≤ 3
unfolding type_of
type_most t f e =
    by (leb t 3) (leb-true t 3)
    (λ n. let l = leb-false t 3 n in no_false (rw (ne_eqb t 1 (λ x. omega arith), ne_eqb t 2 (λ x. omega arith), ne_eqb t 3 (λ x. omega arith)) at e))

literal_most : (b : List ℕ) (i : ℕ) → literal_ok b i ≡ true → byte_of b i 5 ≤ 3
unfolding literal_ok
literal_most b i e =
    let v : Bool = value_ok (type_of (byte_of b i 5)) (finite b i) in
    let z : Bool = both (zeros b i 6 8) (zeros b i 16 size) in
    let x = both_right (eqb (span_of b i) 1) (both (zeros b i 4 5) (both v z)) e in
    type_most (byte_of b i 5) (finite b i) (both_left v z (both_right (zeros b i 4 5) (both v z) x))

pub literal_type_lem : (b : List ℕ) (i : ℕ) → field_ok b i ≡ true → kind_at b i ≡ Literal → value_type b i ≡ byte_of b i 5
unfolding field_ok value_type
literal_type_lem b i e q = rw q (omega (arith, literal_most b i (rw q at e)))
