-- From acceptance to use: the theorems of `specs/Sound.antt`, and a law for each step of a function that goes by the stated spans. Assumes nothing.
use mathlib.Core.Path.{◌≡◌, refl, sym, ap, ◌∙◌}
use mathlib.Core.Bool.{Bool, true, false}
use mathlib.Core.List.{List}
use mathlib.Core.Logic.{⊎_elim}
use Prim.Native.Nat.{ℕ, zero, suc, ◌+◌, ◌-◌, ◌/◌, ◌≤◌, ◌<◌}
use native.Mathlib.Nat.{eq-or-lt_of_le}
use native.Mathlib.Omega.{arith}
use lib.Dec.{ltb, eqb}
use lib.ListN.{length}
use borrow.Author.Tests.{lt-ltb, ltb-false, eq-eqb, ne_eqb, eqb-true, eqb-false}
use Rattle.record.specs.Choose.{if, both, either, among}
use Rattle.record.specs.Bytes.{size, byte_of, span_of}
use Rattle.record.specs.Forest.{span_in, grow_f, forest}
use Rattle.record.proofs.Choose.{both_parts}
use Rattle.record.proofs.Forests.{forest_none, forest_step}
use Rattle.fields.specs.First.{last_below, count_below}
use Rattle.fields.specs.Fields.{kind_at, field_ok}
use Rattle.fields.specs.declared.Kind.{Kind}
use Rattle.fields.specs.declared.Kind.TheVariants.{PolicySet, Policy, Rule, Section, Conjunction, Match, Logic, Not, Comparison, Weighing, Obligation, Literal, Attribute, Operator, Nothing}
use Rattle.fields.proofs.First.{by, last_ge, last_of}
use Rattle.fields.proofs.Spans.{span_pos, category_pos}
use Rattle.operands.specs.Parent.{end_of, covers, parent_of}
use Rattle.operands.specs.Operands.{operands_at}
use Rattle.placement.specs.Place.{depth_of, kind_number, single_of, elder_of, elder_rank, rank_of, rank_at, rise_of, under_ok, stands_at, child_broken, top_ok, broken_at, place_ok}
use Rattle.placement.specs.Keeps.{AllKeep, Sized, Keeps}
use Rattle.judge.specs.Sound.{Nested, WholeRow, KeptNests, OneTree, stated, NoCut, DepthIs, AfterAll, Allowed, OkIsPlaced, PlacedIsOk, KeptInOrder}
use Rattle.operands.proofs.Parent.{parent_ge, parent_of_lem}
use Rattle.placement.proofs.Laws.{depth_under, ends_within, kept_at, stands_parts, all_but, rule_zero}

-- line 1 is a policy set or a policy, and covers all
top_true : (t : Bool) → ◌≡◌ {A = ℕ} (if t 0 9) 0 → t ≡ true
top_true true e = refl
top_true false e = absurd (omega arith)

pub top_kept : (b : List ℕ) (n : ℕ) → Sized b n → place_ok b 0 ≡ true → (among 1 2 (kind_number (kind_at b 0)) ≡ true) × (span_of b 0 ≡ n)
unfolding place_ok broken_at top_ok
top_kept b n s e =
    let y : top_ok b ≡ true = top_true (top_ok b) (eqb-true (broken_at b 0) 0 e) in
    let x = both_parts (among 1 2 (kind_number (kind_at b 0))) (eqb (span_of b 0) (length b / size)) y in
    (x.0, omega (arith, s.bytes, eqb-true (span_of b 0) (length b / size) x.1))

whole_is : (b : List ℕ) (n : ℕ) → Sized b n → place_ok b 0 ≡ true → end_of b 0 ≡ n
unfolding end_of
whole_is b n s e = omega (arith, (top_kept b n s e).1)

depth_one : (b : List ℕ) → depth_of b 0 ≡ 1
unfolding depth_of count_below
depth_one b = refl

module _ (b : List ℕ) (n : ℕ) (k : Keeps b n) where
  whole : end_of b 0 ≡ n
  whole = whole_is b n k.sized (k.places 0 (omega (arith, k.sized.some)))

  -- what a record covers ends where it does, or before
  nest_f : (f i j : ℕ) → j < f → i < j → j < n → j < end_of b i → end_of b j ≤ end_of b i
  nest_f zero i j h a z c = absurd (omega arith)
  nest_f (suc f) i j h a z c =
      let cov : covers b j i ≡ true = lt-ltb j (end_of b i) c in
      let o = parent_of_lem b j i a cov in
      let x = ends_within b j (omega arith) (k.places j z) in
      ⊎_elim (λ (t : i ≡ parent_of b j). omega (arith, ap (end_of b) t))
      (λ (t : i < parent_of b j). omega (arith, nest_f f i (parent_of b j) (omega arith) t (omega arith) (omega arith)))
      (eq-or-lt_of_le (parent_ge b j i a cov))

pub kept_nests : KeptNests
kept_nests b n k = record {
  spans = λ i z. span_pos b i (k.fields i z);
  whole = whole b n k;
  ends = λ i z. ⊎_elim (λ (t : 0 ≡ i). omega (arith, whole b n k, ap (end_of b) t))
      (λ (t : 0 < i). omega (arith, whole b n k, nest_f b n k (suc i) 0 i (omega arith) t z (omega (arith, whole b n k)))) (eq-or-lt_of_le (omega arith));
  nests = λ i j a z c. nest_f b n k (suc j) i j (omega arith) a z c;
  depths = λ i z. ⊎_elim (λ (t : 0 ≡ i). omega (arith, depth_one b, ap (depth_of b) t)) (λ (t : 0 < i). (kept_at b i t (k.places i z)).2) (eq-or-lt_of_le (omega arith));
}

-- a function that goes by the stated spans: the first record of a row, its children, and the row behind it
module _ (b : List ℕ) {n : ℕ} (w : Nested b n) where
  pub row_all : WholeRow b 0 n
  row_all = record { upto = omega arith; ends = λ j a z. w.ends j z }

  module _ {i e s : ℕ} (l : e ≤ n) (r : WholeRow b i e) (h : i < e) (es : s ≡ span_of b i) where
    pub row_first : (1 ≤ s) × (i + s ≤ e)
    unfolding end_of
    row_first = (omega (arith, w.spans i (omega arith)), omega (arith, r.ends i (omega arith) h))

    pub row_kids : WholeRow b (i + 1) (i + s)
    unfolding end_of
    row_kids = record {
      upto = omega (arith, w.spans i (omega arith));
      ends = λ j a z. omega (arith, w.nests i j (omega arith) (omega (arith, row_first)) (omega arith));
    }

    pub row_rest : WholeRow b (i + s) e
    row_rest = record { upto = row_first.1; ends = λ j a z. r.ends j (omega arith) z }

    pub span_is : span_in b i (e - i) ≡ s
    unfolding span_in
    span_is = omega (arith, row_first)

  -- cutting changes nothing, at any row
  no_cut_f : (f i left e : ℕ) → e ≤ n → e ≡ i + left → WholeRow b i e → grow_f (span_in b) f i left ≡ grow_f (λ (j l : ℕ). span_of b j) f i left
  unfolding grow_f
  no_cut_f zero i left e l x r = refl
  no_cut_f (suc f) i zero e l x r = refl
  no_cut_f (suc f) i (suc left) e l x r =
      let h : i < e = omega arith in
      let y : e - i ≡ suc left = omega arith in
      let s : span_in b i (suc left) ≡ span_of b i = rw y at (span_is l r h refl) in
      let v = row_first l r h refl in
      rw (
        s,
        no_cut_f f (i + 1) (span_of b i - 1) (i + span_of b i) (omega arith) (omega arith) (row_kids l r h refl),
        no_cut_f f (i + span_of b i) (suc left - span_of b i) e l (omega arith) (row_rest l r h refl),
      )

pub no_cut : NoCut
unfolding forest stated
no_cut b n w = no_cut_f b w n 0 n n (omega arith) (omega arith) (row_all b w)

pub one_tree : OneTree
unfolding end_of
one_tree b n w h =
    let x : n - 0 ≡ n = omega arith in
    let v : n ≡ span_of b 0 = omega (arith, w.whole) in
    let s : span_in b 0 n ≡ n = rw x at (span_is b w (omega arith) (row_all b w) (omega arith) v) in
    rw (forest_step b 0 n h, s, forest_none b (0 + n) (n - n) (omega arith))

pub depth_is_next : DepthIs
depth_is_next b n w i h l =
    let p : ℕ = parent_of b i in
    let o : (i < end_of b p) × (p < i) = parent_of_lem b i 0 h (lt-ltb i (end_of b 0) (omega (arith, w.whole))) in
    depth_under b p i o.1 o.0
    (λ j a z. by (ltb i (end_of b j)) (λ t. absurd (omega (arith, parent_ge b i j z t))) (λ t. ltb-false i (end_of b j) t))
    (λ j z c. omega (arith, w.nests j p z (omega arith) c))

-- record i stands after the child before it
abbrev AfterElder : List ℕ → ℕ → Type 0
AfterElder b i = elder_rank b (parent_of b i) (elder_of b (parent_of b i) i) + rise_of (kind_number (kind_at b (parent_of b i))) (kind_at b i) ≤ rank_at b i

after_elder : (b : List ℕ) (i : ℕ) → stands_at b (parent_of b i) i ≡ true → AfterElder b i
unfolding rank_at
after_elder b i e = (stands_parts _ (kind_at b i) _ _ _ e).1

elder_test : List ℕ → ℕ → ℕ → Bool
elder_test b p j = either (eqb j p) (eqb (parent_of b j) p)

-- where j below i is p or a child of p, the child before is j or a later child
elder_of_lem : (b : List ℕ) (p i j : ℕ) → j < i → elder_test b p j ≡ true
    → (j ≤ elder_of b p i) × (elder_of b p i < i) × ((elder_of b p i ≡ p → ⊥) → parent_of b (elder_of b p i) ≡ p)
unfolding elder_of elder_test
elder_of_lem b p i j l t =
    let o = last_of (elder_test b p) i j l t in
    let m : ℕ = last_below (elder_test b p) i in
    (last_ge (elder_test b p) i j l t, o.1, λ h. eqb-true (parent_of b m) p (rw (ne_eqb m p h) at o.0))

module _ (b : List ℕ) (n : ℕ) (s : Sized b n) where
  -- the child before speaks for all earlier children
  after_all_f : (f i : ℕ) → i < f → i < n → AllKeep (place_ok b) i → AfterElder b i → AfterAll b i
  unfolding elder_rank elder_test
  after_all_f zero i h z ok x j a l e = absurd (omega arith)
  after_all_f (suc f) i h z ok x j a l e =
      let p : ℕ = parent_of b i in
      let q : ℕ = elder_of b p i in
      let cov : covers b j 0 ≡ true = lt-ltb j (end_of b 0) (omega (arith, whole_is b n s (ok 0 (omega arith)))) in
      let u : p < j = omega (arith, parent_of_lem b j 0 a cov) in
      let w = elder_of_lem b p i j l (rw (ne_eqb j p (λ y. omega arith)) (eq-eqb (parent_of b j) p e)) in
      let v : q ≡ p → ⊥ = λ y. omega (arith, w.0) in
      let y : rank_at b q + rise_of (kind_number (kind_at b p)) (kind_at b i) ≤ rank_at b i = rw (ne_eqb q p v) at x in
      ⊎_elim (λ (t : j ≡ q). omega (arith, y, ap (rank_at b) t))
      (λ (t : j < q).
      let g = after_elder b q (kept_at b q (omega arith) (ok q w.1)).1 in
      omega (arith, y, after_all_f f q (omega (arith, w.1)) (omega (arith, w.1)) (λ m c. ok m (omega (arith, w.1))) g j a t (e ∙ sym (w.2 v))))
      (eq-or-lt_of_le w.0)

pub kept_in_order : KeptInOrder
kept_in_order b n k i z =
    λ j a l e. after_all_f b n k.sized (suc i) i (omega arith) z (λ m c. k.places m (omega arith)) (after_elder b i (kept_at b i (omega arith) (k.places i z)).1) j a l e

-- the first child of all: nothing stands before it
single_le : (p : ℕ) → single_of p ≤ 5
unfolding single_of
single_le p = by (either (eqb p 3) (eqb p 72)) (λ t. rw t (omega arith)) (λ t. rw t (omega arith))

step_le : (p c : ℕ) (k : Kind) → (k ≡ Section → 1 ≤ c) → rise_of p k ≤ rank_of k c
step_le p c PolicySet h = omega arith
step_le p c Policy h = omega arith
step_le p c Rule h = omega arith
step_le p c Section h = h refl
step_le p c Conjunction h = omega arith
step_le p c Match h = omega arith
step_le p c Logic h = single_le p
step_le p c Not h = single_le p
step_le p c Comparison h = single_le p
step_le p c Weighing h = single_le p
step_le p c Obligation h = omega arith
step_le p c Literal h = omega arith
step_le p c Attribute h = omega arith
step_le p c Operator h = omega arith
step_le p c Nothing h = omega arith

pub under_is : (k : Kind) (g c : ℕ) → (k ≡ Match → g ≡ c) → under_ok k g c ≡ true
under_is PolicySet g c h = refl
under_is Policy g c h = refl
under_is Rule g c h = refl
under_is Section g c h = refl
under_is Conjunction g c h = refl
under_is Match g c h = eq-eqb g c (h refl)
under_is Logic g c h = refl
under_is Not g c h = refl
under_is Comparison g c h = refl
under_is Weighing g c h = refl
under_is Obligation g c h = refl
under_is Literal g c h = refl
under_is Attribute g c h = refl
under_is Operator g c h = refl
under_is Nothing g c h = refl

-- the tests of rule 11: its parent's, and that of its operands
abbrev pub fits_at : List ℕ → ℕ → Bool
fits_at b i = both (stands_at b (parent_of b i) i) (operands_at b i)

-- where all earlier lines keep the place rules, they say that a record is allowed
pub fits_allowed : (b : List ℕ) (n i : ℕ) → Sized b n → i < n → AllKeep (place_ok b) i → fits_at b i ≡ true → Allowed b i
fits_allowed b n i s l ok f =
    let p : ℕ = parent_of b i in
    let x = both_parts (stands_at b p i) (operands_at b i) f in
    let v = stands_parts (kind_number (kind_at b p)) (kind_at b i) (byte_of b i 4) (elder_rank b p (elder_of b p i)) (byte_of b (parent_of b p) 4) x.0 in
    record {
      taken = v.0;
      after = after_all_f b n s (suc i) i (omega arith) l ok (after_elder b i x.0);
      category = λ q. eqb-true (byte_of b (parent_of b p) 4) (byte_of b i 4) (rw q at v.2);
      operands = x.1;
    }

pub ok_is_placed : OkIsPlaced
ok_is_placed b n i s h l ok e =
    let w = kept_at b i h e in
    record { within = w.0; allowed = fits_allowed b n i s l ok (simp (w.1, w.3)); depth = w.2 }

-- a record that stands after all earlier children stands after the child before it
after_one : (b : List ℕ) (n i : ℕ) → Sized b n → 0 < i → i < n → AllKeep (place_ok b) i → field_ok b i ≡ true → AfterAll b i → AfterElder b i
unfolding elder_rank rank_at elder_test
after_one b n i s h l ok f w =
    let p : ℕ = parent_of b i in
    let q : ℕ = elder_of b p i in
    let o = parent_of_lem b i 0 h (lt-ltb i (end_of b 0) (omega (arith, whole_is b n s (ok 0 h)))) in
    let v = elder_of_lem b p i p o.1 (simp (eq-eqb p p refl)) in
    by (eqb q p)
    (λ t. rw t (omega (arith, step_le (kind_number (kind_at b p)) (byte_of b i 4) (kind_at b i) (category_pos b i f))))
    (λ t. let g : q ≡ p → ⊥ = eqb-false q p t in rw t (w q (omega (arith, v.0)) v.1 (v.2 g)))

pub allowed_fits : (b : List ℕ) (n i : ℕ) → Sized b n → 0 < i → i < n → AllKeep (place_ok b) i → field_ok b i ≡ true → Allowed b i → fits_at b i ≡ true
unfolding rank_at
allowed_fits b n i s h l ok f w =
    let p : ℕ = parent_of b i in
    let e : ℕ = elder_rank b p (elder_of b p i) in
    let g : ℕ = byte_of b (parent_of b p) 4 in
    let c : ℕ = byte_of b i 4 in
    let x = after_one b n i s h l ok f w.after in
    let y : stands_at b p i ≡ true = sym (all_but (kind_number (kind_at b p)) (kind_at b i) c e g refl w.taken refl refl x refl) ∙ under_is (kind_at b i) g c w.category in
    simp (y, w.operands)

pub placed_is_ok : PlacedIsOk
unfolding place_ok broken_at child_broken
placed_is_ok b n i s h l ok f w =
    let p : ℕ = parent_of b i in
    let y = allowed_fits b n i s h l ok f w.allowed in
    rw (ne_eqb i 0 (λ z. omega arith), rule_zero (end_of b i) (end_of b p) (depth_of b i) _ w.within y w.depth)
