-- Records that state another span. Assumes nothing.
use mathlib.Core.Path.{◌≡◌, refl, ◌∙◌}
use mathlib.Core.Bool.{Bool, true, false}
use mathlib.Core.List.{List}
use Prim.Native.Nat.{ℕ, ◌/◌, ◌%◌, ◌≤◌, ◌<◌}
use native.Mathlib.Omega.{arith}
use lib.Dec.{leb}
use lib.ListN.{length, get_or, set, length-set}
use lib.Seq.{get_or-set_same, get_or-set_other, set-get_or}
use borrow.Author.Tests.{le-leb}
use Rattle.record.specs.Bytes.{size, span_of}
use Rattle.record.proofs.Choose.{both_right, no_false}
use Rattle.fields.specs.Fields.{kind_at, zeros, plain_ok, rules_of, field_ok}
use Rattle.fields.specs.declared.Kind.{Kind}
use Rattle.fields.specs.declared.Kind.TheVariants.{PolicySet, Policy, Rule, Section, Conjunction, Match, Logic, Not, Comparison, Weighing, Obligation, Literal, Attribute, Operator, Nothing}
use Rattle.structure.specs.Subtrees.{with_span, SameButSpan}
use Rattle.structure.proofs.Records.{kind_same, zeros_same}

-- the kinds whose span may be any number from 1 on
abbrev pub any_span : Kind → Bool
any_span PolicySet = true
any_span Policy = true
any_span Rule = true
any_span Section = false
any_span Conjunction = false
any_span Match = false
any_span Logic = true
any_span Not = false
any_span Comparison = false
any_span Weighing = true
any_span Obligation = false
any_span Literal = false
any_span Attribute = false
any_span Operator = true
any_span Nothing = false

-- they keep their field rules with any span
module _ (b : List ℕ) (i : ℕ) (c : List ℕ) (j : ℕ) (h : SameButSpan b i c j) where
  plain_kept : plain_ok b i 1 ≡ true → 1 ≤ span_of c j → plain_ok c j 1 ≡ true
  unfolding plain_ok
  plain_kept e l = rw (le-leb 1 (span_of c j) l, ← zeros_same b i c j h 4 size (omega arith) (omega arith)) (both_right (leb 1 (span_of b i)) (zeros b i 4 size) e)

  rules_kept : (k : Kind) → any_span k ≡ true → rules_of b i k ≡ true → 1 ≤ span_of c j → rules_of c j k ≡ true
  rules_kept PolicySet a e l = plain_kept e l
  rules_kept Policy a e l = plain_kept e l
  rules_kept Rule a e l = plain_kept e l
  rules_kept Section a e l = no_false a
  rules_kept Conjunction a e l = no_false a
  rules_kept Match a e l = no_false a
  rules_kept Logic a e l = plain_kept e l
  rules_kept Not a e l = no_false a
  rules_kept Comparison a e l = no_false a
  rules_kept Weighing a e l = plain_kept e l
  rules_kept Obligation a e l = no_false a
  rules_kept Literal a e l = no_false a
  rules_kept Attribute a e l = no_false a
  rules_kept Operator a e l = plain_kept e l
  rules_kept Nothing a e l = no_false a

  pub fields_kept : any_span (kind_at b i) ≡ true → field_ok b i ≡ true → 1 ≤ span_of c j → field_ok c j ≡ true
  unfolding field_ok
  fields_kept a e l = rw (← kind_same b i c j h) (rules_kept (kind_at b i) a e l)

-- a record with the span s
module _ (r : List ℕ) (s : ℕ) where
  pub with_length : length (with_span r s) ≡ length r
  unfolding with_span
  with_length = length-set (set r 2 (s / 256)) 3 (s % 256) ∙ length-set r 2 (s / 256)

  pub with_span_lem : length r ≡ size → span_of (with_span r s) 0 ≡ s
  unfolding with_span span_of
  with_span_lem l =
      let two : get_or (set (set r 2 (s / 256)) 3 (s % 256)) 2 0 ≡ s / 256 =
      get_or-set_other (set r 2 (s / 256)) 3 2 (s % 256) 0 (λ x. omega arith) ∙ get_or-set_same r 2 (s / 256) 0 (omega arith) in
      let three : get_or (set (set r 2 (s / 256)) 3 (s % 256)) 3 0 ≡ s % 256 =
      get_or-set_same (set r 2 (s / 256)) 3 (s % 256) 0 (omega (arith, length-set r 2 (s / 256), l)) in
      rw (two, three) (omega arith)

  -- a span that is right stays
  pub with_same : span_of r 0 ≡ s → get_or r 3 0 < 256 → with_span r s ≡ r
  unfolding with_span span_of
  with_same e l =
      let two : s / 256 ≡ get_or r 2 0 = omega arith in
      let three : s % 256 ≡ get_or r 3 0 = omega arith in
      rw (two, three, set-get_or r 2 0, set-get_or r 3 0) refl
