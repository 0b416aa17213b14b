-- No sound child is replaced, and each that is has a bad line inside; they are told in the order of their lines. Assumes nothing.
use mathlib.Core.Path.{◌≡◌, sym, ◌∙◌}
use mathlib.Core.Bool.{true, false}
use mathlib.Core.List.{List}
use Prim.Native.Nat.{ℕ, zero, suc, ◌+◌, ◌-◌, ◌≤◌, ◌<◌}
use native.Mathlib.Omega.{arith}
use Rattle.record.specs.Bytes.{span_of}
use Rattle.record.specs.Forest.{span_in}
use Rattle.record.proofs.Choose.{no_false}
use Rattle.record.proofs.Forests.{span_pos, span_le}
use Rattle.fields.proofs.First.{by, first_fails}
use Rattle.fields.proofs.Spans as spans
use Rattle.placement.specs.Place.{rank_at}
use Rattle.structure.specs.Subtrees.{Subtrees, record_count, record_at, subtrees_of, slice_of}
use Rattle.structure.specs.Sound.{Parent, as_parent, line_one, sound, sound_at}
use Rattle.structure.proofs.Records.{record_bytes, record_but_span, record_parts, heads_same, kind_same, parent_same}
use Rattle.structure.proofs.Subtrees.{subtrees_none, subtrees_step, count_subtrees}
use Rattle.structure.proofs.Sound.{first_of}
use Rattle.structure.proofs.Parts.{by_themselves}
use Rattle.spoilt.specs.Spoilt.{good_at, first_bad, first_spoilt, replaceable}
use Rattle.spoilt.proofs.Lines.{line_parts}
use Rattle.spoilt.proofs.Trees.{mendable, bad_inside}
use Rattle.mending.specs.Mending.{replacements}
use Rattle.mending.specs.Claims.{Replaceable, AllReplaceable, none, more, NoSoundReplaced}
use Rattle.mending.proofs.Mended.{replaced_none, replaced_kept, replaced_new, replaceable_parts, then_replaceable}
use Rattle.mending.proofs.Answers.{answer}

-- the first bad line is bad
bad_is : (u : Parent) (e : ℕ) (x : Subtrees) → first_bad u e x < record_count x → good_at u e x (first_bad u e x) ≡ false
unfolding first_bad
bad_is u e x l = first_fails (good_at u e x) 0 (record_count x) (omega arith)

-- a child with a bad line inside is not sound, after whatever child it stands
unsound_at : (u : Parent) (b : List ℕ) (i s e : ℕ) → span_of b i ≡ s → 0 < s → sound (as_parent u b i) 0 (subtrees_of b (i + 1) (s - 1)) ≡ false
    → sound_at u e (slice_of b i s) 0 s ≡ false
unfolding sound_at
unsound_at u b i s e q l k =
    by_themselves u e b i s
    ∙ by (sound_at u e b i s) (λ t. no_false (sym k ∙ (rw q at (first_of u e b i s l t).kids))) (λ t. t)

-- the child at i, of s records, which may be replaced and is not sound within
replaceable_at : (b : List ℕ) (n e i s : ℕ) → 1 ≤ i → i + s ≤ n → 0 < s → replaceable (line_one b) e (record_at b i) (subtrees_of b (i + 1) (s - 1)) ≡ true
    → sound (as_parent (line_one b) (record_at b i) 0) 0 (subtrees_of b (i + 1) (s - 1)) ≡ false → Replaceable b n (i + 1) s
replaceable_at b n e i s h l p a k =
    let r : List ℕ = record_at b i in
    let u : Parent = as_parent (line_one b) b i in
    let kids : Subtrees = subtrees_of b (i + 1) (s - 1) in
    let c : record_count kids ≡ s - 1 = count_subtrees b (i + 1) (s - 1) in
    let v = replaceable_parts (line_one b) e r kids a in
    let w = heads_same r 0 b i (record_bytes b i) _ (record_parts r _ (line_parts (line_one b) e r kids v.1).0).1 in
    let span : span_of b i ≡ s = omega (arith, w.span, c) in
    let unsound : sound u 0 kids ≡ false = rw (parent_same r 0 b i (record_but_span b i) (line_one b)) at k in
    let inside = bad_inside u 0 kids unsound in
    let q : i + 1 - 1 ≡ i = omega arith in
    record {
      below = omega arith;
      inside = omega arith;
      span = rw q span;
      fields = rw q w.fields;
      kind = rw (q, ← kind_same r 0 b i (record_but_span b i)) v.0;
      rank = e;
      head = rw q v.1;
      bad = first_bad u 0 kids;
      bad_inside = omega arith;
      is_bad = rw q (bad_is u 0 kids inside);
      unsound = λ e. rw q (unsound_at (line_one b) b i s e span p unsound);
    }

-- those of the children from i on, which are not before line `from`
replaced_f : (f : ℕ) (b : List ℕ) (n e from i left : ℕ) → left ≤ f → 1 ≤ i → i + left ≤ n → from ≤ i + 1
    → first_spoilt (line_one b) e (subtrees_of b i left) ≡ record_count (subtrees_of b i left) → AllReplaceable b n from (replacements (line_one b) (i + 1) (subtrees_of b i left))
replaced_f zero b n e from i zero g h l a m = rw (subtrees_none b i, replaced_none (line_one b) (i + 1)) none
replaced_f (suc f) b n e from i zero g h l a m = rw (subtrees_none b i, replaced_none (line_one b) (i + 1)) none
replaced_f zero b n e from i (suc k) g h l a m = absurd (omega arith)
replaced_f (suc f) b n e from i (suc k) g h l a m =
    let s : ℕ = span_in b i (suc k) in
    let p : 0 < s = span_pos b i (suc k) (omega arith) in
    let q : s ≤ suc k = span_le b i (suc k) in
    let u : Parent = line_one b in
    let r : List ℕ = record_at b i in
    let kids : Subtrees = subtrees_of b (i + 1) (s - 1) in
    let rest : Subtrees = subtrees_of b (i + s) (suc k - s) in
    let step = subtrees_step b i (suc k) (omega arith) in
    let w = mendable u e r kids rest (rw step at m) in
    let others : (t : ℕ) → t ≤ i + s + 1 → AllReplaceable b n t (replacements u (i + s + 1) rest) =
    λ t o. replaced_f f b n (rank_at r 0) t (i + s) (suc k - s) (omega arith) (omega arith) (omega arith) o w.others in
    let c : suc (record_count kids) ≡ s = omega (arith, count_subtrees b (i + 1) (s - 1)) in
    let next : i + 1 + s ≡ i + s + 1 = omega arith in
    rw step
    (by (sound (as_parent u r 0) 0 kids)
    (λ t. rw (replaced_kept u r kids rest (i + 1) t, c, next) (others from (omega arith)))
    (λ t. rw (replaced_new u r kids rest (i + 1) t, c, next)
    (more a (replaceable_at b n e i s h (omega arith) p (then_replaceable _ _ w.within t) t) (others (i + 1 + s) (omega arith)))))

pub no_sound_replaced : NoSoundReplaced
no_sound_replaced b n x xs e =
    let w = answer b n x xs e in
    let some = spans.span_pos b 0 w.set.fields in
    let span = w.set.span in
    rw w.list at (replaced_f (n - 1) b n 0 2 1 (n - 1) (omega arith) (omega arith) (omega arith) (omega arith) w.none_spoilt)
