-- Laws of records of a kind that keep their field rules: the test for them, their spans, and which are obligations. Assumes nothing.
use mathlib.Core.Path.{◌≡◌, refl, sym, ap, ◌∙◌}
use mathlib.Core.Bool.{Bool, true, false}
use mathlib.Core.List.{List}
use Prim.Native.Nat.{ℕ, ◌≤◌}
use native.Mathlib.Omega.{arith}
use lib.Dec.{leb, eqb}
use borrow.Author.Tests.{eq-eqb, eqb-true, leb-true}
use Rattle.record.specs.Choose.{if, both, among}
use Rattle.record.specs.Bytes.{size, byte_of, span_of}
use Rattle.record.proofs.Choose.{no_false, both_left, both_right, both_parts, above_among}
use Rattle.fields.specs.Fields.{kind_of, kind_at, category_ok, zeros, section_ok, compares_ok, obligation_ok, literal_ok, attribute_ok, rules_of, field_ok}
use Rattle.fields.specs.declared.Kind.{Kind}
use Rattle.fields.specs.declared.Kind.TheVariants.{PolicySet, Policy, Rule, Section, Conjunction, Match, Logic, Not, Comparison, Weighing, Obligation, Literal, Attribute, Operator, Nothing}
use Rattle.fields.proofs.First.{by}
use Rattle.fields.proofs.Spans.{span_pos}
use Rattle.placement.specs.Place.{kind_number}
use Rattle.grammar.specs.Row.{Fit, is_fit}
use Rattle.grammar.specs.Table.{table_of, in_table}

abbrev choice_ok : Kind → ℕ → Bool
choice_ok k c = among (table_of k).1 (table_of k).2 c

-- a choice of a kind is at least the lowest
least : (k : Kind) (c : ℕ) → choice_ok k c ≡ true → (table_of k).1 ≤ c
least k c e = leb-true (table_of k).1 c (both_left (leb (table_of k).1 c) (leb c (table_of k).2) e)

-- a record with a kind's byte and one of its choices is of that kind
of_table : (k : Kind) (c : ℕ) → choice_ok k c ≡ true → kind_of (table_of k).0 c ≡ k
unfolding kind_of
of_table PolicySet c e = rw e
of_table Policy c e = rw e
of_table Rule c e = rw e
of_table Section c e = rw e
of_table Conjunction c e = rw e
of_table Match c e = rw e
of_table Logic c e = rw e
of_table Not c e = rw (above_among 1 2 c (omega (arith, least Not c e)), e)
of_table Comparison c e = let l = least Comparison c e in rw (above_among 1 2 c (omega arith), above_among 3 3 c (omega arith), e)
of_table Weighing c e =
    let l = least Weighing c e in rw (above_among 1 2 c (omega arith), above_among 3 3 c (omega arith), above_among 11 15 c (omega arith), e)
of_table Obligation c e = rw e
of_table Literal c e = rw e
of_table Attribute c e = rw (above_among 1 1 c (omega (arith, least Attribute c e)), e)
of_table Operator c e = let l = least Operator c e in rw (above_among 1 1 c (omega arith), above_among 2 2 c (omega arith), e)
of_table Nothing c e = refl

-- and a record of a kind has its byte and one of its choices
module _ (n c : ℕ) where
  abbrev Stands : Kind → Type 0
  Stands k = (k ≡ Nothing → ⊥) → in_table k n c ≡ true

  none : Stands Nothing
  none f = absurd (f refl)

  test : (t : Bool) {x y : Kind} → (t ≡ true → Stands x) → Stands y → Stands (if t x y)
  test true f g = f refl
  test false f g = g

  choice : (k : Kind) {y : Kind} → Stands y → eqb n (table_of k).0 ≡ true → Stands (if (choice_ok k c) k y)
  choice k g e = test (choice_ok k c) (λ t f. rw (e, t)) g

  stands : Stands (kind_of n c)
  unfolding kind_of
  stands =
      test (eqb n 1) (choice PolicySet none)
      (test (eqb n 2) (choice Policy none)
      (test (eqb n 3) (choice Rule none)
      (test (eqb n 4) (choice Section none)
      (test (eqb n 5) (choice Conjunction none)
      (test (eqb n 6) (choice Match none)
      (test (eqb n 7) (λ e. choice Logic (choice Not (choice Comparison (choice Weighing none e) e) e) e)
      (test (eqb n 8) (choice Obligation none)
      (test (eqb n 10) (λ e. choice Literal (choice Attribute (choice Operator none e) e) e) none))))))))

in_table_lem : (b : List ℕ) (i : ℕ) {k : Kind} → Fit b i k → in_table k (byte_of b i 0) (byte_of b i 1) ≡ true
unfolding kind_at field_ok
in_table_lem b i f = rw (← f.kind) (stands (byte_of b i 0) (byte_of b i 1) (λ q. no_false (rw q at f.fields)))

-- a kind from its number
of_number : ℕ → Kind
of_number n =
    if (eqb n 1) PolicySet (if (eqb n 2) Policy (if (eqb n 3) Rule (if (eqb n 4) Section (if (eqb n 5) Conjunction (if (eqb n 6) Match
    (if (eqb n 71) Logic (if (eqb n 72) Not (if (eqb n 73) Comparison (if (eqb n 74) Weighing (if (eqb n 8) Obligation
    (if (eqb n 101) Literal (if (eqb n 102) Attribute (if (eqb n 103) Operator Nothing)))))))))))))

numbered : (k : Kind) → of_number (kind_number k) ≡ k
unfolding of_number
numbered PolicySet = refl
numbered Policy = refl
numbered Rule = refl
numbered Section = refl
numbered Conjunction = refl
numbered Match = refl
numbered Logic = refl
numbered Not = refl
numbered Comparison = refl
numbered Weighing = refl
numbered Obligation = refl
numbered Literal = refl
numbered Attribute = refl
numbered Operator = refl
numbered Nothing = refl

-- what passes the test is a k, and keeps its field rules
pub fits : {b : List ℕ} {i : ℕ} {k : Kind} → true ≡ is_fit b i k → Fit b i k
unfolding is_fit
fits {b} {i} {k} y =
    let p = both_parts (eqb (kind_number (kind_at b i)) (kind_number k)) (field_ok b i) (sym y) in
    record {
      kind = sym (numbered (kind_at b i)) ∙ ap of_number (eqb-true (kind_number (kind_at b i)) (kind_number k) p.0) ∙ numbered k;
      fields = p.1;
    }

-- the test, once kind and choice were looked up
module _ (b : List ℕ) (i : ℕ) (k : Kind) {t : Bool} (et : t ≡ in_table k (byte_of b i 0) (byte_of b i 1)) where
  pub unlisted : t ≡ false → false ≡ is_fit b i k
  unlisted n = by (is_fit b i k) (λ y. sym n ∙ et ∙ in_table_lem b i (fits (sym y)) ∙ sym y) sym

  module _ (y : t ≡ true) where
    found : (eqb (byte_of b i 0) (table_of k).0 ≡ true) × (choice_ok k (byte_of b i 1) ≡ true)
    found = both_parts (eqb (byte_of b i 0) (table_of k).0) (choice_ok k (byte_of b i 1)) (sym et ∙ y)

    pub listed : {u : Bool} → u ≡ rules_of b i k → u ≡ is_fit b i k
    unfolding is_fit kind_at field_ok
    listed eu = rw (eqb-true (byte_of b i 0) (table_of k).0 found.0, of_table k (byte_of b i 1) found.1, eq-eqb (kind_number k) (kind_number k) refl) eu

    pub lowest : (table_of k).1 ≤ byte_of b i 1
    lowest = least k (byte_of b i 1) found.1

-- the test by the table
pub fit_by_table : (b : List ℕ) (i : ℕ) (k : Kind) → is_fit b i k ≡ both (in_table k (byte_of b i 0) (byte_of b i 1)) (rules_of b i k)
fit_by_table b i k =
    by (in_table k (byte_of b i 0) (byte_of b i 1)) (λ t. rw t (sym (listed b i k refl t refl))) (λ t. rw t (sym (unlisted b i k refl t)))

-- a record of kind 08 is an obligation, or nothing
eight : (c : ℕ) (t : Bool) {k : Kind} → among 1 2 c ≡ t → kind_of 8 c ≡ k → (k ≡ Obligation → ⊥) → Nothing ≡ k
unfolding kind_of
eight c true e q n = absurd (n (sym (rw e at q)))
eight c false e q n = rw e at q

-- a record that keeps the rules of another kind is no obligation
pub not_duty : (b : List ℕ) (i : ℕ) {k : Kind} → Fit b i k → (k ≡ Obligation → ⊥) → ◌≡◌ {A = ℕ} (if (eqb (byte_of b i 0) 8) 1 0) 0
unfolding kind_at field_ok
not_duty b i f n =
    by (eqb (byte_of b i 0) 8)
    (λ t. let q = eight (byte_of b i 1) _ refl (rw (eqb-true (byte_of b i 0) 8 t) at f.kind) n in no_false (rw (f.kind, ← q) at f.fields))
    (λ t. rw t)

-- a kind of another number than 8 is not that of an obligation
pub other : {k : Kind} → eqb (kind_number k) 8 ≡ false → k ≡ Obligation → ⊥
other d e = no_false (sym d ∙ ap (λ (k : Kind). eqb (kind_number k) 8) e)

-- an obligation is counted as one
pub duty : (b : List ℕ) (i : ℕ) → Fit b i Obligation → ◌≡◌ {A = ℕ} (if (eqb (byte_of b i 0) 8) 1 0) 1
duty b i f = rw (both_left (eqb (byte_of b i 0) 8) (among 1 2 (byte_of b i 1)) (in_table_lem b i f))

-- a record that keeps its rules states a span, and so ends behind its place
pub fit_span : (b : List ℕ) (i : ℕ) {k : Kind} → Fit b i k → 1 ≤ span_of b i
fit_span b i f = span_pos b i f.fields

pub fit_inside : (b : List ℕ) (i : ℕ) (k : Kind) → true ≡ is_fit b i k → 1 ≤ span_of b i
fit_inside b i k y = fit_span b i (fits y)

-- a section's category is at most 4
pub section_category : (b : List ℕ) (i : ℕ) → Fit b i Section → byte_of b i 4 ≤ 4
unfolding field_ok section_ok
section_category b i f =
    let c : Bool = category_ok (byte_of b i 4) in
    let z : Bool = zeros b i 5 size in
    let e = both_left c z (both_right (leb 2 (span_of b i)) (both c z) (rw f.kind at f.fields)) in
    leb-true (byte_of b i 4) 4 (both_right (leb 1 (byte_of b i 4)) (leb (byte_of b i 4) 4) e)

-- the kinds with nothing below them
abbrev pub leaf : Kind → Bool
leaf Match = true
leaf Comparison = true
leaf Obligation = true
leaf Literal = true
leaf Attribute = true
leaf _ = false

alone : (s : ℕ) (rest : Bool) → both (eqb s 1) rest ≡ true → s ≡ 1
alone s rest e = eqb-true s 1 (both_left (eqb s 1) rest e)

leaf_span : (b : List ℕ) (i : ℕ) (k : Kind) → leaf k ≡ true → rules_of b i k ≡ true → span_of b i ≡ 1
unfolding compares_ok obligation_ok literal_ok attribute_ok
leaf_span b i Match l e = alone (span_of b i) _ e
leaf_span b i Comparison l e = alone (span_of b i) _ e
leaf_span b i Obligation l e = alone (span_of b i) _ e
leaf_span b i Literal l e = alone (span_of b i) _ e
leaf_span b i Attribute l e = alone (span_of b i) _ e
leaf_span b i _ l e = no_false l

-- of such a kind the span is 1
pub fit_leaf : (b : List ℕ) (i : ℕ) {k : Kind} → Fit b i k → leaf k ≡ true → span_of b i ≡ 1
unfolding field_ok
fit_leaf b i {k} f l = leaf_span b i k l (rw f.kind at f.fields)
