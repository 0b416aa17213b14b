-- Laws of children and operands: which records are a record's children, and how many of them pass a test. Assumes nothing.
use mathlib.Core.Path.{◌≡◌, ◌∙◌}
use mathlib.Core.Bool.{Bool, true, false}
use mathlib.Core.List.{List}
use Prim.Native.Nat.{ℕ, ◌+◌, ◌≤◌, ◌<◌}
use native.Mathlib.Omega.{arith}
use lib.Dec.{eqb}
use borrow.Author.Tests.{lt-ltb, le-ltb, eq-eqb, ne_eqb}
use Rattle.record.specs.Choose.{if}
use Rattle.fields.specs.First.{count_below}
use Rattle.fields.proofs.First.{count_skip, count_more}
use Rattle.operands.specs.Parent.{end_of, parent_of}
use Rattle.operands.specs.Operands.{value_type, is_child, is_operand, two_values}
use Rattle.operands.proofs.Parent.{parent_ge, parent_is_innermost}

-- no record up to i is its child; a later one is where i covers it and no record between does
module _ (b : List ℕ) (i : ℕ) where
  pub not_before : (j : ℕ) → j ≤ i → is_child b i j ≡ false
  unfolding is_child
  not_before j h = rw (le-ltb i j h)

  pub child_is : (j : ℕ) → i < j → j < end_of b i → ((m : ℕ) → i < m → m < j → end_of b m ≤ j) → is_child b i j ≡ true
  unfolding is_child
  child_is j h c g = rw (lt-ltb i j h) (eq-eqb (parent_of b j) i (parent_is_innermost b i j h c g))

  pub not_child : (k j : ℕ) → i < k → k < j → j < end_of b k → is_child b i j ≡ false
  unfolding is_child
  not_child k j h a c =
      let x = parent_ge b j k a (lt-ltb j (end_of b k) c) in
      rw (lt-ltb i j (omega arith)) (ne_eqb (parent_of b j) i (λ e. omega arith))

  -- an operand is a child, and a child is one by its type
  module _ (t j : ℕ) where
    pub operand_only : is_child b i j ≡ false → is_operand b i t j ≡ false
    unfolding is_operand
    operand_only e = rw e

    pub operand_is : is_child b i j ≡ true → is_operand b i t j ≡ eqb (value_type b j) t
    unfolding is_operand
    operand_is e = rw e

-- a test that children of record i alone may pass, counted
module _ (b : List ℕ) (i : ℕ) (f : ℕ → Bool) (only : (j : ℕ) → is_child b i j ≡ false → f j ≡ false) where
  pub count_before : count_below f (i + 1) ≡ 0
  unfolding count_below
  count_before = count_skip f (i + 1) 0 (omega arith) (λ j a z. only j (not_before b i j (omega arith)))

  -- of a record and what it covers, the record alone counts
  pub count_over : (j e : ℕ) → i < j → j < e → e ≤ end_of b j → count_below f e ≡ count_below f j + if (f j) 1 0
  count_over j e h a c =
      count_skip f e (j + 1) (omega arith) (λ m l z. only m (not_child b i j m h (omega arith) (omega arith))) ∙ count_more f j

  pub count_child : (j e : ℕ) → i < j → j < e → e ≤ end_of b j → f j ≡ true → count_below f e ≡ count_below f j + 1
  count_child j e h a c t = rw t at (count_over j e h a c)

-- two values that are all that is below record i: the second begins where the first ends, and ends where i does
module _ (b : List ℕ) {i second : ℕ} (ends : second ≡ end_of b (i + 1)) (first : i + 1 < second) (upto : second < end_of b i) (last : end_of b second ≡ end_of b i)
    (inner : (n : ℕ) → i < n → n < second → end_of b n ≤ second) where
  two_pass : (f : ℕ → Bool) → ((j : ℕ) → is_child b i j ≡ false → f j ≡ false) → f (i + 1) ≡ true → f second ≡ true → count_below f (end_of b i) ≡ 2
  two_pass f only x y = omega (
    arith,
    count_before b i f only,
    count_child b i f only (i + 1) second (omega arith) first (omega arith) x,
    count_child b i f only second (end_of b i) (omega arith) upto (omega arith) y,
  )

  pub two_values_lem : {t : ℕ} → value_type b (i + 1) ≡ t → value_type b second ≡ t → two_values b i t ≡ true
  unfolding two_values
  two_values_lem {t} x y =
      let u = child_is b i (i + 1) (omega arith) (omega arith) (λ n a z. absurd (omega arith)) in
      let v = child_is b i second (omega arith) upto inner in
      rw (
        two_pass (is_child b i) (λ n q. q) u v,
        two_pass (is_operand b i t) (operand_only b i t) (operand_is b i t (i + 1) u ∙ eq-eqb (value_type b (i + 1)) t x)
            (operand_is b i t second v ∙ eq-eqb (value_type b second) t y),
      )
