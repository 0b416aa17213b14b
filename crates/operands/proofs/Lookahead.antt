-- Laws of the look-ahead: the children of a record, found by how far the records after it reach. Assumes nothing.
use mathlib.Core.Path.{◌≡◌, sym, ap, ◌∙◌}
use mathlib.Core.Bool.{Bool, true, false}
use mathlib.Core.List.{List}
use mathlib.Core.Logic.{⊎_elim}
use Prim.Native.Nat.{ℕ, ◌+◌, ◌≤◌, ◌<◌, max}
use native.Mathlib.Nat.{eq-or-lt_of_le}
use native.Mathlib.Omega.{arith}
use lib.Dec.{ltb, leb, eqb}
use borrow.Author.Tests.{lt-ltb, ltb-false, ne_eqb, leb-true, leb-false}
use Rattle.record.specs.Choose.{if, both}
use Rattle.record.specs.Bytes.{byte_of, span_of}
use Rattle.record.proofs.Choose.{both_false}
use Rattle.fields.specs.First.{count_below}
use Rattle.fields.proofs.First.{by, count_more}
use Rattle.fields.specs.declared.Kind.TheVariants.{Weighing}
use Rattle.operands.specs.Parent.{end_of, parent_of}
use Rattle.operands.specs.Operands.{value_type, is_child, is_operand, two_values, comparable_by, operands_ok}
use Rattle.operands.proofs.Parent.{span_end, parent_ge}
use Rattle.operands.proofs.Operands.{child_is, operand_only, count_before}

-- r is the farthest end of the records after i and before j; i + 1 where there is none
pub record Reach (b : List ℕ) (i j r : ℕ) : Type 0 where
  pub all : (k : ℕ) → i < k → k < j → end_of b k ≤ r
  pub least : (x : ℕ) → i < x → ((k : ℕ) → i < k → k < j → end_of b k ≤ x) → r ≤ x

pub reach_none : (b : List ℕ) (i : ℕ) → Reach b i (i + 1) (i + 1)
reach_none b i = record { all = λ k a z. absurd (omega arith); least = λ x h g. omega arith }

pub reach_more : (b : List ℕ) {i j r s m : ℕ} → i < j → Reach b i j r → s ≡ span_of b j → m ≡ max r (j + s) → Reach b i (j + 1) m
reach_more b {i} {j} {r} {s} h w es em =
    let e = span_end b j s es in
    record {
      all = λ k a z. let l : k ≤ j = omega arith in ⊎_elim (λ (t : k ≡ j). omega (arith, ap (end_of b) t)) (λ (t : k < j). omega (arith, w.all k a t)) (eq-or-lt_of_le l);
      least = λ x y g. omega (arith, w.least x y (λ k a z. g k a (omega arith)), g j h (omega arith));
    }

-- a record that i covers is its child exactly where none between reaches past it
module _ (b : List ℕ) {i j r : ℕ} (h : i < j) (l : j < end_of b i) (w : Reach b i j r) where
  by_reach : is_child b i j ≡ leb r j
  unfolding is_child
  by_reach =
      by (leb r j)
      (λ t. child_is b i j h l (λ k a z. omega (arith, w.all k a z, leb-true r j t)) ∙ sym t)
      (λ t. rw (lt-ltb i j h) (ne_eqb (parent_of b j) i
      (λ x. omega (
        arith,
        leb-false r j t,
        w.least j h
            (λ k a z. by (ltb j (end_of b k)) (λ c. absurd (omega (arith, parent_ge b j k z c))) (λ c. ltb-false j (end_of b k) c)),
      )) ∙ sym t))

-- none is counted before the first
child_none : (b : List ℕ) (i : ℕ) → 0 ≡ count_below (is_child b i) (i + 1)
child_none b i = sym (count_before b i (is_child b i) (λ j e. e))

operand_none : (b : List ℕ) (i t : ℕ) → 0 ≡ count_below (is_operand b i t) (i + 1)
operand_none b i t = sym (count_before b i (is_operand b i t) (λ j e. operand_only b i t j e))

-- what the loop has seen of the records after i and before j: how far they reach, and how many of them are children of i, and operands of type t
pub record Seen (b : List ℕ) (i t j r m n : ℕ) : Type 0 where
  pub reach : Reach b i j r
  pub children_below : m < j
  pub operands_below : n < j
  pub children : m ≡ count_below (is_child b i) j
  pub operands : n ≡ count_below (is_operand b i t) j

pub seen_none : (b : List ℕ) (i t : ℕ) → Seen b i t (i + 1) (i + 1) 0 0
seen_none b i t = record {
  reach = reach_none b i;
  children_below = omega arith;
  operands_below = omega arith;
  children = child_none b i;
  operands = operand_none b i t;
}

bit : (u : Bool) → if u 1 0 ≤ 1
bit true = omega arith
bit false = omega arith

pub seen_more : (b : List ℕ) (i t : ℕ) {j r m n x y s z : ℕ} {u : Bool} → i < j → j < end_of b i → Seen b i t j r m n → x ≡ if (leb r j) 1 0
    → u ≡ both (leb r j) (eqb (value_type b j) t) → y ≡ if u 1 0 → s ≡ span_of b j → z ≡ max r (j + s) → Seen b i t (j + 1) z (m + x) (n + y)
unfolding is_operand
seen_more b i t {j} {r} {u = u} h l w ex eu ey es ez =
    let child : is_child b i j ≡ leb r j = by_reach b h l w.reach in
    record {
      reach = reach_more b h w.reach es ez;
      children_below = omega (arith, w.children_below, bit (leb r j));
      operands_below = omega (arith, w.operands_below, bit u);
      children = rw (count_more (is_child b i) j, child, ← w.children, ← ex);
      operands = rw (count_more (is_operand b i t) j, child, ← eu, ← w.operands, ← ey);
    }

-- a comparison of two values where nothing is below it
two_none : (b : List ℕ) (i t : ℕ) → end_of b i ≡ i + 1 → false ≡ two_values b i t
unfolding two_values
two_none b i t e = rw (e, ← child_none b i)

pub none_below : (b : List ℕ) (i : ℕ) → end_of b i ≡ i + 1 → false ≡ operands_ok Weighing (byte_of b i 1) (value_type b (i + 1)) (two_values b i)
none_below b i e =
    let t : ℕ = value_type b (i + 1) in
    let u : Bool = comparable_by t (byte_of b i 1) in
    sym (both_false u) ∙ ap (both u) (two_none b i t e)
