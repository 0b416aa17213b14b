-- Laws of the parts of rules and policies: children that are neither sections nor obligations, conditions among them. Assumes nothing.
use mathlib.Core.Path.{◌≡◌, refl, sym, ap, ◌∙◌}
use mathlib.Core.Bool.{Bool, true}
use mathlib.Core.List.{List}
use Prim.Native.Nat.{ℕ, ◌+◌, ◌≤◌, ◌<◌}
use native.Mathlib.Nat.{zero-add}
use native.Mathlib.Omega.{arith}
use lib.Dec.{eqb}
use borrow.Author.Tests.{eqb-true}
use Rattle.std.specs.Prelude.{Option, Some, None, IfSome, IsTrue}
use Rattle.std.specs.Option.{option_eq}
use Rattle.record.specs.Bytes.{byte_of, span_of}
use Rattle.record.proofs.Choose.{no_false}
use Rattle.fields.specs.Fields.{field_ok}
use Rattle.fields.specs.declared.Kind.{Kind}
use Rattle.fields.specs.declared.Kind.TheVariants.{Rule, Logic, Not, Comparison, Obligation}
use Rattle.fields.proofs.Spans.{plain_span}
use Rattle.placement.specs.Place.{most_depth, kind_number, takes_of, rise_of, under_ok, rank_of, holds_conditions, single_of}
use Rattle.grammar.specs.Row.{Fit, is_fit, Row, Condition, Sections, Rules, Duties, PolicyParts}
use Rattle.grammar.proofs.Fits.{fits, not_duty, fit_span, fit_leaf}
use Rattle.operands.proofs.Parent.{span_end}
use Rattle.grammar.proofs.Rows.{operands_of, row_none, row_then, row_lower, row_child}

-- something is below a not
pub not_span : (b : List ℕ) (i : ℕ) → true ≡ is_fit b i Not → 2 ≤ span_of b i
unfolding field_ok
not_span b i y = let f = fits y in plain_span b i 2 (rw f.kind at f.fields)

-- a child of rank 5, which is neither a section nor an obligation, and what is below it
module _ (b : List ℕ) (d pn gc pc lo : ℕ) {i e next below due : ℕ} {k : Kind} (f : Fit b i k) (ends : next ≡ i + span_of b i) (upto : next ≤ e)
    (takes : takes_of pn k ≡ true) (five : rank_of k (byte_of b i 4) ≡ 5) (after : lo + rise_of pn k ≤ 5) (under : under_ok k gc (byte_of b i 4) ≡ true)
    (wants : operands_of b i k ≡ true) (deep : d < most_depth) (x : Row b (i + 1) next next (d + 1) (kind_number k) pc (byte_of b i 4) 0 below due) where
  no_obligation : k ≡ Obligation → ⊥
  no_obligation q = let z : rank_of Obligation (byte_of b i 4) ≡ 5 = rw q at five in omega arith

  pub row_other : Row b i next e d pn gc pc lo 5 due
  row_other =
      rw (five, not_duty b i f no_obligation, zero-add due) at
      (row_child b d pn gc pc lo f (ends ∙ sym (span_end b i (span_of b i) refl)) (omega (arith, fit_span b i f)) upto takes (omega arith) under wants deep x)

-- a condition as a part of and or or, which take many, and as that of not or of a rule, which take one
module _ (b : List ℕ) {i r e d : ℕ} (c : Condition b i r e d) (gc pc : ℕ) where
  pub one_of_many : Row b i r e d 71 gc pc 5 5 0
  unfolding holds_conditions single_of
  one_of_many = c.row 71 gc pc 5 refl (omega arith)

  pub only_of_not : Row b i r e d 72 gc pc 0 5 0
  unfolding holds_conditions single_of
  only_of_not = c.row 72 gc pc 0 refl (omega arith)

  pub only_of_rule : Row b i r e d 3 gc pc 4 5 0
  unfolding holds_conditions single_of
  only_of_rule = c.row 3 gc pc 4 refl (omega arith)

-- a condition or a value by its kind: `holds` says which parents take it, and `single` which of them take one only
module _ (b : List ℕ) {i e d next : ℕ} {k : Kind} (f : Fit b i k) (ends : next ≡ i + span_of b i) (upto : next ≤ e) (deep : d < most_depth) where
  pub row_by_kind : (holds : ℕ → Bool) (single : ℕ → ℕ) → ((pn : ℕ) → takes_of pn k ≡ holds pn) → ((pn : ℕ) → rise_of pn k ≡ single pn)
      → rank_of k (byte_of b i 4) ≡ 5 → ((g : ℕ) → under_ok k g (byte_of b i 4) ≡ true) → operands_of b i k ≡ true
      → ((gc pc : ℕ) → Row b (i + 1) next next (d + 1) (kind_number k) gc pc 0 5 0)
      → (pn gc pc lo : ℕ) → holds pn ≡ true → lo + single pn ≤ 5 → Row b i next e d pn gc pc lo 5 0
  row_by_kind holds single takes step five under wants x pn gc pc lo h l =
      row_other b d pn gc pc lo f ends upto (takes pn ∙ h) five (omega (arith, step pn)) (under gc) wants deep (x pc (byte_of b i 4))

  pub condition_is : ((pn : ℕ) → takes_of pn k ≡ holds_conditions pn) → ((pn : ℕ) → rise_of pn k ≡ single_of pn) → rank_of k (byte_of b i 4) ≡ 5
      → ((g : ℕ) → under_ok k g (byte_of b i 4) ≡ true) → operands_of b i k ≡ true → ((gc pc : ℕ) → Row b (i + 1) next next (d + 1) (kind_number k) gc pc 0 5 0)
      → Condition b i next e d
  condition_is takes step five under wants x = record {
    after = omega (arith, fit_span b i f);
    upto = upto;
    row = row_by_kind holds_conditions single_of takes step five under wants x;
  }

pub is_comparison : (b : List ℕ) {i e d : ℕ} → Fit b i Comparison → i < e → d < most_depth → Condition b i (i + 1) e d
is_comparison b {i} f h deep =
    condition_is b f (ap (λ (s : ℕ). i + s) (sym (fit_leaf b i f refl))) (omega arith) deep (λ p. refl) (λ p. refl) refl (λ g. refl) refl
    (λ gc pc. row_none b refl (omega arith))

module _ (b : List ℕ) {i e d next : ℕ} (ends : next ≡ i + span_of b i) (upto : next ≤ e) (deep : d < most_depth) where
  pub is_not : Fit b i Not → {r : ℕ} → r ≡ next → Condition b (i + 1) r next (d + 1) → Condition b i next e d
  is_not f q c = condition_is b f ends upto deep (λ p. refl) (λ p. refl) refl (λ g. refl) refl (only_of_not b (rw q at c))

  pub is_logic : Fit b i Logic → {r : ℕ} → r ≡ next → ((gc pc : ℕ) → Row b (i + 1) r next (d + 1) 71 gc pc 5 5 0) → Condition b i next e d
  is_logic f q x = condition_is b f ends upto deep (λ p. refl) (λ p. refl) refl (λ g. refl) refl (λ gc pc. row_lower b (rw q at (x gc pc)) (omega arith))

-- what is below a rule: sections, and at most one condition
module _ (b : List ℕ) {i at e d : ℕ} (x : Sections b i at e d) (gc pc : ℕ) where
  pub without_condition : at ≡ e → Row b i e e d 3 gc pc 0 5 0
  without_condition q = row_then b (x.row 3 gc pc refl) (row_none b q (omega arith))

  pub with_condition : (o : Option ℕ) → IfSome o (λ r. Condition b at r e d) → IsTrue (option_eq eqb o (Some e)) → Row b i e e d 3 gc pc 0 5 0
  with_condition None c q = no_false q
  with_condition (Some r) c q = row_then b (x.row 3 gc pc refl) (rw (eqb-true r e q) at (only_of_rule b c gc pc))

-- one rule more
pub rule_more : (b : List ℕ) {i at e d gc pc next : ℕ} → Row b i at e d 2 gc pc 5 5 0 → Fit b at Rule → next ≡ at + span_of b at → next ≤ e → d < most_depth
    → ((gc pc : ℕ) → Row b (at + 1) next next (d + 1) 3 gc pc 0 5 0) → Row b i next e d 2 gc pc 5 5 0
rule_more b {at = at} {d = d} {gc = gc} {pc = pc} x f ends upto deep y =
    row_then b x (row_other b d 2 gc pc 5 f ends upto refl refl (omega arith) refl refl deep (y pc (byte_of b at 4)))

-- what is below a policy: sections, rules and obligations
pub policy_parts_are : (b : List ℕ) {i j k e d due : ℕ} → Sections b i j e d → Rules b j k e d → Duties b k e d due → PolicyParts b i e d due
policy_parts_are b {due = due} x y z = record {
  row = λ gc pc.
      rw (← zero-add due, ← zero-add due)
      (row_then b (x.row 2 gc pc refl) (row_then b (row_lower b (y.row gc pc) (omega arith)) (row_lower b (z.row 2 gc pc refl) (omega arith))));
}
