-- How the subtrees of records begin, that they are read off their own bytes, and where they may be cut. Assumes nothing.
use mathlib.Core.Path.{◌≡◌, refl, sym, ap, ◌∙◌}
use mathlib.Core.List.{List}
use Prim.Native.Nat.{ℕ, zero, suc, ◌+◌, ◌-◌, ◌*◌, ◌≤◌, ◌<◌}
use native.Mathlib.Omega.{arith}
use lib.ListN.{length}
use lib.Seq.{ext_get_or}
use Rattle.record.specs.Bytes.{size, span_of}
use Rattle.record.specs.Forest.{span_in}
use Rattle.record.proofs.Forests.{span_pos, span_le, span_stated, forest_none, forest_step}
use Rattle.operands.specs.Parent.{end_of}
use Rattle.structure.specs.Subtrees.{Subtrees, no_subtree, subtree, record_count, record_at, subtrees_in, subtrees_of, joined, SameRecord, SameRecords}
use Rattle.structure.proofs.Records.{span_same, record_bytes, record_length}

module _ (b : List ℕ) (i : ℕ) where
  pub subtrees_none : subtrees_of b i 0 ≡ no_subtree
  unfolding subtrees_of subtrees_in
  subtrees_none = rw (forest_none b i 0 (omega arith)) refl

  pub subtrees_step : (left : ℕ) → 0 < left
      → subtrees_of b i left ≡ subtree (record_at b i) (subtrees_of b (i + 1) (span_in b i left - 1)) (subtrees_of b (i + span_in b i left) (left - span_in b i left))
  unfolding subtrees_of subtrees_in
  subtrees_step left h = rw (forest_step b i left h) refl

  -- where the first record ends in time
  pub subtrees_stated : (left : ℕ) → 1 ≤ span_of b i → span_of b i ≤ left
      → subtrees_of b i left ≡ subtree (record_at b i) (subtrees_of b (i + 1) (span_of b i - 1)) (subtrees_of b (i + span_of b i) (left - span_of b i))
  subtrees_stated left h l = rw (← span_stated b i left h l) (subtrees_step left (omega arith))

-- so many records, so many in the subtrees
pub count_none : record_count no_subtree ≡ 0
unfolding record_count
count_none = refl

pub count_subtree : (r : List ℕ) (kids rest : Subtrees) → record_count (subtree r kids rest) ≡ suc (record_count kids + record_count rest)
unfolding record_count
count_subtree r kids rest = refl

count_f : (f : ℕ) (b : List ℕ) (i left : ℕ) → left ≤ f → record_count (subtrees_of b i left) ≡ left
count_f zero b i zero l = ap record_count (subtrees_none b i) ∙ count_none
count_f zero b i (suc k) l = absurd (omega arith)
count_f (suc f) b i zero l = ap record_count (subtrees_none b i) ∙ count_none
count_f (suc f) b i (suc k) l =
    let s : ℕ = span_in b i (suc k) in
    let p : 0 < s = span_pos b i (suc k) (omega arith) in
    let q : s ≤ suc k = span_le b i (suc k) in
    let x = count_f f b (i + 1) (s - 1) (omega arith) in
    let y = count_f f b (i + s) (suc k - s) (omega arith) in
    ap record_count (subtrees_step b i (suc k) (omega arith)) ∙ count_subtree _ _ _ ∙ omega (arith, x, y)

pub count_subtrees : (b : List ℕ) (i left : ℕ) → record_count (subtrees_of b i left) ≡ left
count_subtrees b i left = count_f left b i left (omega arith)

-- of records that are the same, a part and the first
pub same_part : (b : List ℕ) (i : ℕ) (c : List ℕ) (j s a t : ℕ) → SameRecords b i c j s → a + t ≤ s → SameRecords b (i + a) c (j + a) t
same_part b i c j s a t h l m x =
    let e : i + a + m ≡ i + (a + m) = omega arith in
    let g : j + a + m ≡ j + (a + m) = omega arith in
    rw (e, g) (h (a + m) (omega arith))

pub same_first : (b : List ℕ) (i : ℕ) (c : List ℕ) (j s : ℕ) → SameRecords b i c j s → 0 < s → SameRecord b i c j
same_first b i c j s h l =
    let e : i + 0 ≡ i = omega arith in
    let g : j + 0 ≡ j = omega arith in
    rw (e, g) at (h 0 l)

-- a list as long as a record is that record where it has its bytes
pub record_is : (b : List ℕ) (i : ℕ) (r : List ℕ) → length r ≡ size → SameRecord b i r 0 → record_at b i ≡ r
record_is b i r l h =
    ext_get_or 0 (record_at b i) r (record_length b i ∙ sym l)
    (λ k q. let m : k < size = omega (arith, q, record_length b i) in
    let e : 0 * size + k ≡ k = omega arith in
    rw e at (record_bytes b i k m ∙ h k m))

pub span_in_same : (b : List ℕ) (i : ℕ) (c : List ℕ) (j left : ℕ) → SameRecord b i c j → span_in b i left ≡ span_in c j left
unfolding span_in
span_in_same b i c j left h = rw (span_same b i c j h) refl

same_f : (f : ℕ) (b : List ℕ) (i : ℕ) (c : List ℕ) (j left : ℕ) → left ≤ f → SameRecords b i c j left → subtrees_of b i left ≡ subtrees_of c j left
same_f zero b i c j zero l h = subtrees_none b i ∙ sym (subtrees_none c j)
same_f zero b i c j (suc k) l h = absurd (omega arith)
same_f (suc f) b i c j zero l h = subtrees_none b i ∙ sym (subtrees_none c j)
same_f (suc f) b i c j (suc k) l h =
    let s : ℕ = span_in b i (suc k) in
    let p : 0 < s = span_pos b i (suc k) (omega arith) in
    let q : s ≤ suc k = span_le b i (suc k) in
    let first = same_first b i c j (suc k) h (omega arith) in
    rw (
      subtrees_step b i (suc k) (omega arith),
      subtrees_step c j (suc k) (omega arith),
      ← span_in_same b i c j (suc k) first,
      record_is b i (record_at c j) (record_length c j) (λ m o. first m o ∙ sym (record_bytes c j m o)),
      same_f f b (i + 1) c (j + 1) (s - 1) (omega arith) (same_part b i c j (suc k) 1 (s - 1) h (omega arith)),
      same_f f b (i + s) c (j + s) (suc k - s) (omega arith) (same_part b i c j (suc k) s (suc k - s) h (omega arith)),
    ) refl

pub subtrees_same : (b : List ℕ) (i : ℕ) (c : List ℕ) (j s : ℕ) → SameRecords b i c j s → subtrees_of b i s ≡ subtrees_of c j s
subtrees_same b i c j s h = same_f s b i c j s (omega arith) h

-- the s records from i on end where they should: no span reaches over the last of them
abbrev pub EndsThere : List ℕ → ℕ → ℕ → Type 0
EndsThere b i s = (j : ℕ) → i ≤ j → j < i + s → end_of b j ≤ i + s

joined_none : (y : Subtrees) → joined no_subtree y ≡ y
unfolding joined
joined_none y = refl

joined_subtree : (r : List ℕ) (kids rest y : Subtrees) → joined (subtree r kids rest) y ≡ subtree r kids (joined rest y)
unfolding joined
joined_subtree r kids rest y = refl

cut_none : (b : List ℕ) (i t : ℕ) → subtrees_of b i (0 + t) ≡ joined (subtrees_of b i 0) (subtrees_of b (i + 0) t)
cut_none b i t =
    let q : i + 0 ≡ i = omega arith in
    let z : 0 + t ≡ t = omega arith in
    rw (q, z, subtrees_none b i, joined_none (subtrees_of b i t)) refl

span_more : (b : List ℕ) (i s t : ℕ) → 0 < s → end_of b i ≤ i + s → span_in b i (s + t) ≡ span_in b i s
unfolding span_in end_of
span_more b i s t h l = omega arith

cut_f : (f : ℕ) (b : List ℕ) (i s t : ℕ) → s ≤ f → EndsThere b i s → subtrees_of b i (s + t) ≡ joined (subtrees_of b i s) (subtrees_of b (i + s) t)
cut_f zero b i zero t l h = cut_none b i t
cut_f (suc f) b i zero t l h = cut_none b i t
cut_f zero b i (suc k) t l h = absurd (omega arith)
cut_f (suc f) b i (suc k) t l h =
    let s : ℕ = span_in b i (suc k) in
    let p : 0 < s = span_pos b i (suc k) (omega arith) in
    let q : s ≤ suc k = span_le b i (suc k) in
    let ends : i + s + (suc k - s) ≡ i + suc k = omega arith in
    let more : suc k - s + t ≡ suc k + t - s = omega arith in
    let x = cut_f f b (i + s) (suc k - s) t (omega arith) (λ j a z. omega (arith, h j (omega arith) (omega arith))) in
    rw (
      subtrees_step b i (suc k + t) (omega arith),
      span_more b i (suc k) t (omega arith) (h i (omega arith) (omega arith)),
      subtrees_step b i (suc k) (omega arith),
      joined_subtree (record_at b i) (subtrees_of b (i + 1) (s - 1)) (subtrees_of b (i + s) (suc k - s)) (subtrees_of b (i + suc k) t),
      ← (rw (more, ends) at x),
    ) refl

-- records that may be cut there are those before, then those after
pub subtrees_cut : (b : List ℕ) (i s t : ℕ) → EndsThere b i s → subtrees_of b i (s + t) ≡ joined (subtrees_of b i s) (subtrees_of b (i + s) t)
subtrees_cut b i s t h = cut_f s b i s t (omega arith) h
