-- Laws of sound subtrees: what the first of some sound records says, and the order of children. Assumes nothing.
use mathlib.Core.Path.{◌≡◌, refl, sym, ◌∙◌}
use mathlib.Core.Bool.{Bool, true, false}
use mathlib.Core.List.{List}
use Prim.Native.Nat.{ℕ, zero, suc, ◌+◌, ◌-◌, ◌≤◌, ◌<◌}
use native.Mathlib.Omega.{arith}
use lib.Dec.{ltb}
use borrow.Author.Tests.{ltb-true, ltb-false}
use Rattle.record.specs.Choose.{both}
use Rattle.record.specs.Bytes.{byte_of, span_of}
use Rattle.record.specs.Forest.{span_in}
use Rattle.record.proofs.Choose.{both_parts}
use Rattle.record.proofs.Forests.{span_pos, span_le}
use Rattle.fields.specs.Fields.{kind_at, field_ok}
use Rattle.fields.specs.declared.Kind.{Kind}
use Rattle.fields.proofs.First.{by}
use Rattle.placement.specs.Place.{rank_of, rank_at, stands_ok}
use Rattle.operands.proofs.Parent.{span_end}
use Rattle.placement.proofs.Laws.{stands_parts, all_but}
use Rattle.structure.specs.Subtrees.{Subtrees, no_subtree, subtree, record_count, record_at, subtrees_of, joined, SameRecord}
use Rattle.structure.specs.Sound.{Parent, as_parent, record_ok, child_ok, operands_in, sound, rank_after, sound_at}
use Rattle.structure.proofs.Records.{MayStand, record_bytes, record_length, record_but_span, record_parts, parts_record, child_parts, parts_child, heads_same, stand_same, rank_same, parent_same}
use Rattle.structure.proofs.Subtrees.{EndsThere, subtrees_none, subtrees_step, subtrees_stated, subtrees_cut, count_subtrees}

pub sound_parts : (u : Parent) (e : ℕ) (r : List ℕ) (kids rest : Subtrees) → sound u e (subtree r kids rest) ≡ true
    → (record_ok r (record_count kids) ≡ true) × (child_ok u e r ≡ true) × (operands_in r kids ≡ true) × (sound (as_parent u r 0) 0 kids ≡ true)
    × (sound u (rank_at r 0) rest ≡ true)
unfolding sound
sound_parts u e r kids rest h =
    let k : Bool = sound (as_parent u r 0) 0 kids in
    let t : Bool = sound u (rank_at r 0) rest in
    let c : Bool = both (child_ok u e r) (operands_in r kids) in
    let x = both_parts (record_ok r (record_count kids)) (both c (both k t)) h in
    let y = both_parts c (both k t) x.1 in
    let z = both_parts k t y.1 in
    let o = both_parts (child_ok u e r) (operands_in r kids) y.0 in
    (x.0, o.0, o.1, z.0, z.1)

pub parts_sound : (u : Parent) (e : ℕ) (r : List ℕ) (kids rest : Subtrees) → record_ok r (record_count kids) ≡ true → child_ok u e r ≡ true
    → operands_in r kids ≡ true → sound (as_parent u r 0) 0 kids ≡ true → sound u (rank_at r 0) rest ≡ true → sound u e (subtree r kids rest) ≡ true
unfolding sound
parts_sound u e r kids rest a c o k t = rw (a, c, o, k, t) refl

pub sound_none : (u : Parent) (e : ℕ) (b : List ℕ) (i left : ℕ) → left ≡ 0 → sound_at u e b i left ≡ true
unfolding sound_at sound
sound_none u e b i left q = rw (q, subtrees_none b i) refl

-- the rank of a child, by itself and by its kind and category
pub rank_is : (b : List ℕ) (i : ℕ) → rank_at (record_at b i) 0 ≡ rank_at b i
rank_is b i = rank_same (record_at b i) 0 b i (record_but_span b i)

pub rank_of_lem : (b : List ℕ) (i : ℕ) → rank_of (kind_at b i) (byte_of b i 4) ≡ rank_at b i
unfolding rank_at
rank_of_lem b i = refl

-- the first of some sound records, its children and the records after it
pub record FirstChild (u : Parent) (e : ℕ) (b : List ℕ) (i left : ℕ) : Type 0 where
  pub fields : field_ok b i ≡ true
  pub some : 1 ≤ span_of b i
  pub within : span_of b i ≤ left
  pub child : MayStand u e b i
  pub operands : operands_in (record_at b i) (subtrees_of b (i + 1) (span_of b i - 1)) ≡ true
  pub kids : sound_at (as_parent u b i) 0 b (i + 1) (span_of b i - 1) ≡ true
  pub rest : sound_at u (rank_at b i) b (i + span_of b i) (left - span_of b i) ≡ true

pub first_of : (u : Parent) (e : ℕ) (b : List ℕ) (i left : ℕ) → 0 < left → sound_at u e b i left ≡ true → FirstChild u e b i left
unfolding sound_at
first_of u e b i left h x =
    let s : ℕ = span_in b i left in
    let p : 0 < s = span_pos b i left h in
    let q : s ≤ left = span_le b i left in
    let z = sound_parts u e (record_at b i) (subtrees_of b (i + 1) (s - 1)) (subtrees_of b (i + s) (left - s)) (rw (subtrees_step b i left h) at x) in
    let n : ℕ = record_count (subtrees_of b (i + 1) (s - 1)) in
    let w = heads_same (record_at b i) 0 b i (record_bytes b i) n (record_parts (record_at b i) n z.0).1 in
    let c = count_subtrees b (i + 1) (s - 1) in
    let g : s ≡ span_of b i = omega (arith, w.span, c) in
    record {
      fields = w.fields;
      some = omega arith;
      within = omega arith;
      child = stand_same (record_at b i) 0 b i (record_bytes b i) u e (child_parts u e (record_at b i) z.1);
      operands = rw g at z.2;
      kids = rw (parent_same (record_at b i) 0 b i (record_but_span b i) u, g) at z.3;
      rest = rw (rank_is b i, g) at z.4;
    }

pub of_first : (u : Parent) (e : ℕ) (b : List ℕ) (i left : ℕ) → FirstChild u e b i left → sound_at u e b i left ≡ true
unfolding sound_at
of_first u e b i left w =
    let some = w.some in
    let back : SameRecord b i (record_at b i) 0 = λ k l. sym (record_bytes b i k l) in
    let c = count_subtrees b (i + 1) (span_of b i - 1) in
    rw (subtrees_stated b i left some w.within)
    (parts_sound u e (record_at b i) (subtrees_of b (i + 1) (span_of b i - 1)) (subtrees_of b (i + span_of b i) (left - span_of b i))
    (parts_record (record_at b i) _ (record_length b i) (heads_same b i (record_at b i) 0 back _ (record { fields = w.fields; span = omega (arith, c) })))
    (parts_child u e (record_at b i) (stand_same b i (record_at b i) 0 back u e w.child))
    w.operands
    (rw (parent_same (record_at b i) 0 b i (record_but_span b i) u) w.kids)
    (rw (rank_is b i) w.rest))

-- sound records end where they should
pub ends_f : (f : ℕ) (u : Parent) (e : ℕ) (b : List ℕ) (i left : ℕ) → left ≤ f → sound_at u e b i left ≡ true → EndsThere b i left
ends_f zero u e b i left l x j a z = absurd (omega arith)
ends_f (suc f) u e b i zero l x j a z = absurd (omega arith)
ends_f (suc f) u e b i (suc k) l x j a z =
    let w = first_of u e b i (suc k) (omega arith) x in
    let some = w.some in
    let within = w.within in
    by (ltb i j)
    (λ t. let below = ltb-true i j t in
    by (ltb j (i + span_of b i))
    (λ d. let o = ends_f f (as_parent u b i) 0 b (i + 1) (span_of b i - 1) (omega arith) w.kids j (omega arith) (omega (arith, ltb-true j (i + span_of b i) d)) in omega (arith, o))
    (λ d. let o = ends_f f u (rank_at b i) b (i + span_of b i) (suc k - span_of b i) (omega arith) w.rest j (ltb-false j (i + span_of b i) d) (omega arith) in omega (arith, o)))
    (λ t. let q : j ≡ i = omega (arith, ltb-false i j t) in rw q (omega (arith, span_end b i (span_of b i) refl)))

-- what may stand after a child may stand after one of lower rank
stands_lower : (p : ℕ) (k : Kind) (c e d g : ℕ) → d ≤ e → stands_ok p k c e g ≡ true → stands_ok p k c d g ≡ true
stands_lower p k c e d g l x =
    let v = stands_parts p k c e g x in
    let o = v.1 in
    sym (all_but p k c d g refl v.0 refl refl (omega arith) refl) ∙ v.2

-- and its own rank is no lower
pub child_rank : (u : Parent) (e : ℕ) (b : List ℕ) (i : ℕ) → MayStand u e b i → e ≤ rank_at b i
child_rank u e b i w =
    let v = stands_parts u.number (kind_at b i) (byte_of b i 4) e u.grand w.stands in
    let o = v.1 in
    let r = rank_of_lem b i in
    omega (arith, o, r)

pub sound_lower : (u : Parent) (e d : ℕ) (x : Subtrees) → d ≤ e → sound u e x ≡ true → sound u d x ≡ true
unfolding sound
sound_lower u e d no_subtree l h = refl
sound_lower u e d (subtree r kids rest) l h =
    let z = sound_parts u e r kids rest h in
    let w = child_parts u e r z.1 in
    parts_sound u d r kids rest z.0
    (parts_child u d r (record { stands = stands_lower u.number (kind_at r 0) (byte_of r 0 4) e d u.grand l w.stands; deep = w.deep })) z.2 z.3 z.4

pub rank_lower : (e d : ℕ) (x : Subtrees) → d ≤ e → rank_after d x ≤ rank_after e x
unfolding rank_after
rank_lower e d no_subtree l = l
rank_lower e d (subtree r kids rest) l = omega arith

-- the rank of the last child
pub rank_none : (e : ℕ) (b : List ℕ) (i left : ℕ) → left ≡ 0 → rank_after e (subtrees_of b i left) ≡ e
unfolding rank_after
rank_none e b i left q = rw (q, subtrees_none b i) refl

rank_subtree : (e : ℕ) (r : List ℕ) (kids rest : Subtrees) → rank_after e (subtree r kids rest) ≡ rank_after (rank_at r 0) rest
unfolding rank_after
rank_subtree e r kids rest = refl

pub rank_step : (e : ℕ) (b : List ℕ) (i left : ℕ) → 1 ≤ span_of b i → span_of b i ≤ left
    → rank_after e (subtrees_of b i left) ≡ rank_after (rank_at b i) (subtrees_of b (i + span_of b i) (left - span_of b i))
rank_step e b i left h l = rw (subtrees_stated b i left h l, rank_subtree e (record_at b i), rank_is b i) refl

-- subtrees after subtrees
pub sound_joined : (u : Parent) (e : ℕ) (x y : Subtrees) → sound u e (joined x y) ≡ both (sound u e x) (sound u (rank_after e x) y)
unfolding sound joined rank_after
sound_joined u e no_subtree y = refl
sound_joined u e (subtree r kids rest) y =
    rw (sound_joined u (rank_at r 0) rest y)
    (four (record_ok r (record_count kids)) (both (child_ok u e r) (operands_in r kids)) (sound (as_parent u r 0) 0 kids) (sound u (rank_at r 0) rest) (sound u (rank_after (rank_at r 0) rest) y))
  where
    four : (a b c d f : Bool) → both a (both b (both c (both d f))) ≡ both (both a (both b (both c d))) f
    four true true true d f = refl
    four true true false d f = refl
    four true false c d f = refl
    four false b c d f = refl

-- records after records: joined where the first are sound, cut where the first end
module _ (u : Parent) (e : ℕ) (b : List ℕ) (i s t : ℕ) where
  sound_both : EndsThere b i s → sound_at u e b i (s + t) ≡ both (sound_at u e b i s) (sound_at u (rank_after e (subtrees_of b i s)) b (i + s) t)
  unfolding sound_at
  sound_both h = rw (subtrees_cut b i s t h) (sound_joined u e (subtrees_of b i s) (subtrees_of b (i + s) t))

  pub sound_join : sound_at u e b i s ≡ true → sound_at u (rank_after e (subtrees_of b i s)) b (i + s) t ≡ true → sound_at u e b i (s + t) ≡ true
  sound_join x y = sound_both (ends_f s u e b i s (omega arith) x) ∙ rw (x, y) refl

  pub sound_cut : EndsThere b i s → sound_at u e b i (s + t) ≡ true
      → (sound_at u e b i s ≡ true) × (sound_at u (rank_after e (subtrees_of b i s)) b (i + s) t ≡ true)
  sound_cut h x = both_parts (sound_at u e b i s) _ (sym (sound_both h) ∙ x)
