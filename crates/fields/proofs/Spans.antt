-- What the span and the category of a record that keeps the field rules are at least. Assumes nothing.
use mathlib.Core.Path.{◌≡◌}
use mathlib.Core.Bool.{Bool, true}
use mathlib.Core.List.{List}
use Prim.Native.Nat.{ℕ, ◌≤◌}
use native.Mathlib.Omega.{arith}
use lib.Dec.{leb, eqb}
use borrow.Author.Tests.{leb-true, eqb-true}
use Rattle.record.specs.Choose.{both}
use Rattle.record.specs.Bytes.{size, byte_of, span_of}
use Rattle.record.proofs.Choose.{no_false, both_left, both_right}
use Rattle.fields.specs.Fields.{kind_at, category_ok, zeros, plain_ok, section_ok, compares_ok, obligation_ok, literal_ok, attribute_ok, rules_of, field_ok}
use Rattle.fields.specs.declared.Kind.{Kind}
use Rattle.fields.specs.declared.Kind.TheVariants.{PolicySet, Policy, Rule, Section, Conjunction, Match, Logic, Not, Comparison, Weighing, Obligation, Literal, Attribute, Operator, Nothing}

pub plain_span : (b : List ℕ) (i s : ℕ) → plain_ok b i s ≡ true → s ≤ span_of b i
unfolding plain_ok
plain_span b i s e = leb-true s (span_of b i) (both_left (leb s (span_of b i)) (zeros b i 4 size) e)

section_is : (b : List ℕ) (i : ℕ) → section_ok b i ≡ true → (2 ≤ span_of b i) × (1 ≤ byte_of b i 4)
unfolding section_ok
section_is b i e =
    let s : Bool = leb 2 (span_of b i) in
    let c : Bool = category_ok (byte_of b i 4) in
    let z : Bool = zeros b i 5 size in
    let low : Bool = leb 1 (byte_of b i 4) in
    (leb-true 2 (span_of b i) (both_left s (both c z) e), leb-true 1 (byte_of b i 4) (both_left low _ (both_left c z (both_right s (both c z) e))))

alone : (s : ℕ) (rest : Bool) → both (eqb s 1) rest ≡ true → 1 ≤ s
alone s rest e = omega (arith, eqb-true s 1 (both_left (eqb s 1) rest e))

-- a record that keeps the field rules states a span of at least 1
span_of_lem : (b : List ℕ) (i : ℕ) (k : Kind) → rules_of b i k ≡ true → 1 ≤ span_of b i
unfolding compares_ok obligation_ok literal_ok attribute_ok
span_of_lem b i PolicySet e = plain_span b i 1 e
span_of_lem b i Policy e = plain_span b i 1 e
span_of_lem b i Rule e = plain_span b i 1 e
span_of_lem b i Section e = omega (arith, (section_is b i e).0)
span_of_lem b i Conjunction e = omega (arith, plain_span b i 2 e)
span_of_lem b i Match e = alone (span_of b i) _ e
span_of_lem b i Logic e = plain_span b i 1 e
span_of_lem b i Not e = omega (arith, plain_span b i 2 e)
span_of_lem b i Comparison e = alone (span_of b i) _ e
span_of_lem b i Weighing e = plain_span b i 1 e
span_of_lem b i Obligation e = alone (span_of b i) _ e
span_of_lem b i Literal e = alone (span_of b i) _ e
span_of_lem b i Attribute e = alone (span_of b i) _ e
span_of_lem b i Operator e = plain_span b i 1 e
span_of_lem b i Nothing e = no_false e

pub span_pos : (b : List ℕ) (i : ℕ) → field_ok b i ≡ true → 1 ≤ span_of b i
unfolding field_ok
span_pos b i e = span_of_lem b i (kind_at b i) e

-- a section that keeps them has a category
pub category_pos : (b : List ℕ) (i : ℕ) → field_ok b i ≡ true → kind_at b i ≡ Section → 1 ≤ byte_of b i 4
unfolding field_ok
category_pos b i e q = (section_is b i (rw q at e)).1
