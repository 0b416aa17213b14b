-- A record of a book has the operands that it wants exactly when the subtrees below it are those. Assumes nothing.
use mathlib.Core.Path.{◌≡◌, refl, sym, ◌∙◌}
use mathlib.Core.Bool.{Bool, true, false}
use mathlib.Core.List.{List}
use Prim.Native.Nat.{ℕ, zero, suc, ◌+◌, ◌-◌, ◌≤◌, ◌<◌}
use native.Mathlib.Omega.{arith}
use lib.Dec.{ltb, eqb}
use borrow.Author.Tests.{ltb-true, ltb-false, ne_eqb}
use Rattle.record.specs.Choose.{if, both}
use Rattle.record.specs.Bytes.{byte_of, span_of}
use Rattle.fields.specs.First.{count_below}
use Rattle.fields.specs.Fields.{kind_at}
use Rattle.fields.specs.declared.Kind.{Kind}
use Rattle.fields.specs.declared.Kind.TheVariants.{PolicySet, Policy, Rule, Section, Conjunction, Match, Logic, Not, Comparison, Weighing, Obligation, Literal, Attribute, Operator, Nothing}
use Rattle.fields.proofs.First.{by}
use Rattle.operands.specs.Parent.{end_of}
use Rattle.operands.specs.Operands.{value_type, is_child, is_operand, two_values, comparable_by, operands_ok, operands_at, operator_type}
use Rattle.operands.proofs.Parent.{span_end}
use Rattle.operands.proofs.Operands.{child_is, operand_only, operand_is, count_before, count_over}
use Rattle.structure.specs.Subtrees.{Subtrees, no_subtree, subtree, record_at, subtrees_of}
use Rattle.structure.specs.Sound.{Parent, as_parent, first_type, two_of, operands_in, sound_at}
use Rattle.structure.proofs.Records.{record_but_span, kind_same, choice_byte, type_same}
use Rattle.structure.proofs.Subtrees.{subtrees_none, subtrees_step, subtrees_stated}
use Rattle.structure.proofs.Sound.{first_of, ends_f}

-- how many subtrees there are side by side, and how many of them are values of type t
children : Subtrees → ℕ
children no_subtree = 0
children (subtree r kids rest) = suc (children rest)

of_type : ℕ → Subtrees → ℕ
of_type t no_subtree = 0
of_type t (subtree r kids rest) = if (eqb (value_type r 0) t) 1 0 + of_type t rest

two_is : (x : Subtrees) (t : ℕ) → two_of x t ≡ both (eqb (children x) 2) (eqb (of_type t x) 2)
unfolding two_of children of_type
two_is no_subtree t = refl
two_is (subtree r kids no_subtree) t = refl
two_is (subtree r kids (subtree r' kids' no_subtree)) t = go (eqb (value_type r 0) t) (eqb (value_type r' 0) t)
  where
    go : (a c : Bool) → both a c ≡ eqb (if a 1 0 + (if c 1 0 + 0)) 2
    go true true = refl
    go true false = refl
    go false true = refl
    go false false = refl
two_is (subtree r kids (subtree r' kids' (subtree r'' kids'' rest))) t = rw (ne_eqb (suc (suc (suc (children rest)))) 2 (λ z. omega arith))

-- sound records below record p, the first of them at j, where those before it end in time: each is a child, and what it covers is none
module _ (b : List ℕ) (p : ℕ) where
  abbrev Before : ℕ → Type 0
  Before j = (n : ℕ) → p < n → n < j → end_of b n ≤ j

  abbrev Counts : ℕ → ℕ → ℕ → Type 0
  Counts t j left =
      (count_below (is_child b p) (end_of b p) ≡ count_below (is_child b p) j + children (subtrees_of b j left))
      × (count_below (is_operand b p t) (end_of b p) ≡ count_below (is_operand b p t) j + of_type t (subtrees_of b j left))

  counts_none : (t j left : ℕ) → left ≡ 0 → j ≡ end_of b p → Counts t j left
  unfolding children of_type
  counts_none t j left z q = rw (z, subtrees_none b j, q) (omega arith, omega arith)

  counts_f : (f : ℕ) (u : Parent) (e j left t : ℕ) → left ≤ f → p < j → j + left ≡ end_of b p → Before j → sound_at u e b j left ≡ true → Counts t j left
  unfolding children of_type
  counts_f zero u e j left t l a q h x = counts_none t j left (omega arith) (omega arith)
  counts_f (suc f) u e j zero t l a q h x = counts_none t j 0 (omega arith) (omega arith)
  counts_f (suc f) u e j (suc k) t l a q h x =
      let w = first_of u e b j (suc k) (omega arith) x in
      let some = w.some in
      let within = w.within in
      let end : end_of b j ≡ j + span_of b j = span_end b j (span_of b j) refl in
      let ends = ends_f (span_of b j - 1) (as_parent u b j) 0 b (j + 1) (span_of b j - 1) (omega arith) w.kids in
      let before : Before (j + span_of b j) = λ n y z.
      by (ltb n j) (λ s. omega (arith, h n y (ltb-true n j s)))
      (λ s. by (ltb j n) (λ v. omega (arith, ends n (omega (arith, ltb-true j n v)) (omega arith)))
      (λ v. let g : n ≡ j = omega (arith, ltb-false n j s, ltb-false j n v) in rw g (omega arith))) in
      let c : is_child b p j ≡ true = child_is b p j a (omega arith) h in
      let o : is_operand b p t j ≡ eqb (value_type b j) t = operand_is b p t j c in
      let r = counts_f f u _ (j + span_of b j) (suc k - span_of b j) t (omega arith) (omega arith) (omega arith) before w.rest in
      let m = rw c at (count_over b p (is_child b p) (λ n g. g) j (j + span_of b j) a (omega arith) (omega arith)) in
      let n = rw o at (count_over b p (is_operand b p t) (operand_only b p t) j (j + span_of b j) a (omega arith) (omega arith)) in
      rw (subtrees_stated b j (suc k) some within, type_same (record_at b j) 0 b j (record_but_span b j)) (omega (arith, r.0, m), omega (arith, r.1, n))

  -- what is below record p is sound: two of its children are values of a type exactly where its subtrees are
  module _ (u : Parent) (some : 1 ≤ span_of b p) (x : sound_at u 0 b (p + 1) (span_of b p - 1) ≡ true) where
    two_same : (t : ℕ) → two_values b p t ≡ two_of (subtrees_of b (p + 1) (span_of b p - 1)) t
    unfolding two_values
    two_same t =
        let end : end_of b p ≡ p + span_of b p = span_end b p (span_of b p) refl in
        let r = counts_f (span_of b p - 1) u 0 (p + 1) (span_of b p - 1) t (omega arith) (omega arith) (omega arith) (λ n y z. absurd (omega arith)) x in
        let c : count_below (is_child b p) (end_of b p) ≡ children (subtrees_of b (p + 1) (span_of b p - 1)) = omega (arith, r.0, count_before b p (is_child b p) (λ n g. g)) in
        let o : count_below (is_operand b p t) (end_of b p) ≡ of_type t (subtrees_of b (p + 1) (span_of b p - 1)) =
        omega (arith, r.1, count_before b p (is_operand b p t) (operand_only b p t)) in
        rw (c, o) (sym (two_is (subtrees_of b (p + 1) (span_of b p - 1)) t))

-- operands by their number and type, whichever way they are found; of none it does not matter which type the first would have
both_no : (a : Bool) → both a false ≡ false
both_no true = refl
both_no false = refl

operands_by : (k : Kind) (c s t : ℕ) (f g : ℕ → Bool) → ((n : ℕ) → f n ≡ g n) → both (comparable_by s c) (f s) ≡ both (comparable_by t c) (g t)
    → operands_ok k c s f ≡ operands_ok k c t g
operands_by PolicySet c s t f g e h = refl
operands_by Policy c s t f g e h = refl
operands_by Rule c s t f g e h = refl
operands_by Section c s t f g e h = refl
operands_by Conjunction c s t f g e h = refl
operands_by Match c s t f g e h = refl
operands_by Logic c s t f g e h = refl
operands_by Not c s t f g e h = refl
operands_by Comparison c s t f g e h = refl
operands_by Weighing c s t f g e h = h
operands_by Obligation c s t f g e h = refl
operands_by Literal c s t f g e h = refl
operands_by Attribute c s t f g e h = refl
operands_by Operator c s t f g e h = e (operator_type c)
operands_by Nothing c s t f g e h = refl

-- the first of some subtrees is of this type, where there is one
Begins : Subtrees → ℕ → Type 0
Begins no_subtree t = Unit
Begins (subtree r kids rest) t = value_type r 0 ≡ t

begins : (b : List ℕ) (i left : ℕ) → Begins (subtrees_of b i left) (value_type b i)
unfolding Begins
begins b i zero = rw (subtrees_none b i) tt
begins b i (suc k) = rw (subtrees_step b i (suc k) (omega arith)) (type_same (record_at b i) 0 b i (record_but_span b i))

pair_same : (c s : ℕ) (f : ℕ → Bool) (y : Subtrees) → ((n : ℕ) → f n ≡ two_of y n) → Begins y s
    → both (comparable_by s c) (f s) ≡ both (comparable_by (first_type y) c) (two_of y (first_type y))
unfolding Begins first_type two_of
pair_same c s f no_subtree e h = rw (e s) (both_no (comparable_by s c) ∙ sym (both_no (comparable_by 0 c)))
pair_same c s f (subtree r kids rest) e h = rw (h, e s) refl

-- THE LAW
pub operands_same : (u : Parent) (b : List ℕ) (i : ℕ) → 1 ≤ span_of b i → sound_at u 0 b (i + 1) (span_of b i - 1) ≡ true
    → operands_at b i ≡ operands_in (record_at b i) (subtrees_of b (i + 1) (span_of b i - 1))
unfolding operands_at operands_in
operands_same u b i some x =
    let kids : Subtrees = subtrees_of b (i + 1) (span_of b i - 1) in
    rw (kind_same (record_at b i) 0 b i (record_but_span b i), choice_byte (record_at b i) 0 b i (record_but_span b i))
    (operands_by (kind_at b i) (byte_of b i 1) (value_type b (i + 1)) (first_type kids) (two_values b i) (two_of kids) (two_same b i u some x)
    (pair_same (byte_of b i 1) (value_type b (i + 1)) (two_values b i) kids (two_same b i u some x) (begins b (i + 1) (span_of b i - 1))))
