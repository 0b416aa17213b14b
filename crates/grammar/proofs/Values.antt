-- Laws of values: a literal, an attribute, an operator with its operands, and a comparison of two. Assumes nothing.
use mathlib.Core.Path.{◌≡◌, refl, sym, ap, ◌∙◌}
use mathlib.Core.Bool.{true}
use mathlib.Core.List.{List}
use mathlib.Core.Logic.{⊎_elim}
use Prim.Native.Nat.{ℕ, ◌+◌, ◌≤◌, ◌<◌}
use native.Mathlib.Nat.{eq-or-lt_of_le}
use native.Mathlib.Omega.{arith}
use lib.Dec.{ltb}
use borrow.Author.Tests.{ltb-true, ltb-false}
use Rattle.record.specs.Bytes.{byte_of, span_of}
use Rattle.fields.specs.declared.Kind.{Kind}
use Rattle.fields.specs.declared.Kind.TheVariants.{Weighing, Literal, Attribute, Operator}
use Rattle.fields.proofs.First.{by}
use Rattle.operands.specs.Parent.{end_of}
use Rattle.operands.specs.Operands.{value_type, operator_type, two_values, comparable_by}
use Rattle.placement.specs.Place.{most_depth, kind_number, takes_of, rise_of, under_ok, rank_of, holds_values}
use Rattle.operands.proofs.Parent.{span_end}
use Rattle.operands.proofs.Operands.{two_values_lem}
use Rattle.grammar.specs.Row.{Fit, Row, Value, Operands, Condition}
use Rattle.grammar.proofs.Fits.{leaf, fit_span, fit_leaf}
use Rattle.grammar.proofs.Rows.{operands_of, row_none, row_then}
use Rattle.grammar.proofs.Parts.{row_by_kind, condition_is}

-- a value by its kind, and what is below it
module _ (b : List ℕ) {i e d t : ℕ} {k : Kind} (f : Fit b i k) (deep : d < most_depth) (type : value_type b i ≡ t)
    (takes : (pn : ℕ) → takes_of pn k ≡ holds_values pn) (step : (pn : ℕ) → rise_of pn k ≡ 0) (five : rank_of k (byte_of b i 4) ≡ 5)
    (under : (g : ℕ) → under_ok k g (byte_of b i 4) ≡ true) (wants : operands_of b i k ≡ true) where
  pub value_is : {next : ℕ} → next ≡ i + span_of b i → next ≤ e → ((m : ℕ) → i < m → m < next → end_of b m ≤ next)
      → ((gc pc : ℕ) → Row b (i + 1) next next (d + 1) (kind_number k) gc pc 0 5 0) → Value b i next e d t
  value_is ends upto whole x =
      let s = span_end b i (span_of b i) refl in
      record {
        after = omega (arith, fit_span b i f);
        upto = upto;
        ends = ends ∙ sym s;
        whole = λ m a z. ⊎_elim (λ (q : i ≡ m). omega (arith, ends, s, ap (end_of b) q)) (λ (q : i < m). whole m q z) (eq-or-lt_of_le a);
        type = type;
        row = λ pn gc pc lo h l. row_by_kind b f ends upto deep holds_values (λ (n : ℕ). 0) takes step five under wants x pn gc pc lo h (omega arith);
      }

  -- with nothing below it
  leaf_value : leaf k ≡ true → i < e → Value b i (i + 1) e d t
  leaf_value l h =
      value_is (ap (λ (s : ℕ). i + s) (sym (fit_leaf b i f l))) (omega arith) (λ m a z. absurd (omega arith)) (λ gc pc. row_none b refl (omega arith))

-- a literal, and an attribute
module _ (b : List ℕ) {i e d t : ℕ} where
  pub literal_value : Fit b i Literal → d < most_depth → i < e → value_type b i ≡ t → Value b i (i + 1) e d t
  literal_value f deep h type = leaf_value b f deep type (λ p. refl) (λ p. refl) refl (λ g. refl) refl refl h

  pub attribute_value : Fit b i Attribute → d < most_depth → i < e → value_type b i ≡ t → Value b i (i + 1) e d t
  attribute_value f deep h type = leaf_value b f deep type (λ p. refl) (λ p. refl) refl (λ g. refl) refl refl h

-- two values, of which the first begins behind record i, and the second ends where it does
pub operands_are : (b : List ℕ) {i next e d t second r : ℕ} → next ≡ i + span_of b i → next ≤ e → Value b (i + 1) second next (d + 1) t → (second ≡ next → ⊥)
    → Value b second r next (d + 1) t → r ≡ next → Operands b i next e d t
operands_are b {i} {next} {e} {d} {t} {second} ends upto v n w q =
    let s : next ≡ end_of b i = ends ∙ sym (span_end b i (span_of b i) refl) in
    let l : second < next = omega (arith, v.upto) in
    record {
      upto = upto;
      ends = s;
      whole = λ m a z. by (ltb m second) (λ y. omega (arith, v.whole m (omega arith) (ltb-true m second y)))
          (λ y. omega (arith, w.whole m (ltb-false m second y) (omega arith)));
      two = two_values_lem b v.ends v.after (omega arith) (omega (arith, w.ends)) (λ m a z. v.whole m (omega arith) z) v.type w.type;
      row = λ pn gc pc h. row_then b (v.row pn gc pc 0 h (omega arith)) (rw q at (w.row pn gc pc 5 h (omega arith)));
    }

module _ (b : List ℕ) {i r e d t : ℕ} (deep : d < most_depth) (x : Operands b i r e d t) where
  end_is : r ≡ i + span_of b i
  end_is = x.ends ∙ span_end b i (span_of b i) refl

  -- an operator whose type is that of its operands
  pub is_operator_lem : Fit b i Operator → value_type b i ≡ t → Value b i r e d t
  unfolding holds_values value_type
  is_operator_lem f type =
      let y : operator_type (byte_of b i 1) ≡ t = rw f.kind at type in
      value_is b f deep type (λ p. refl) (λ p. refl) refl (λ g. refl) (ap (two_values b i) y ∙ x.two) end_is x.upto x.whole (λ gc pc. x.row 103 gc pc refl)

  -- a comparison of two values
  pub is_weighing_lem : {c : ℕ} → Fit b i Weighing → t ≡ value_type b (i + 1) → c ≡ byte_of b i 1 → comparable_by t c ≡ true → Condition b i r e d
  unfolding holds_values
  is_weighing_lem f et ec y =
      condition_is b f end_is x.upto deep (λ p. refl) (λ p. refl) refl (λ g. refl) (rw (← et, ← ec, y) x.two) (λ gc pc. x.row 74 gc pc refl)
