-- The first bad line and the first spoilt one by places, line after line: what is below a line that is not bad, and what is after it. Assumes nothing.
use mathlib.Core.Path.{◌≡◌, refl, sym, ◌∙◌}
use mathlib.Core.Bool.{Bool, true, false}
use mathlib.Core.List.{List}
use Prim.Native.Nat.{ℕ, suc, ◌+◌, ◌-◌, ◌≤◌, ◌<◌}
use native.Mathlib.Omega.{arith}
use Rattle.std.specs.Prelude.{Option, None, Some, is_some}
use Rattle.record.specs.Choose.{both, either, among}
use Rattle.record.specs.Bytes.{byte_of, span_of}
use Rattle.record.specs.Forest.{span_in}
use Rattle.record.proofs.Choose.{no_false, both_true}
use Rattle.record.proofs.Forests.{span_stated}
use Rattle.fields.specs.Fields.{kind_at}
use Rattle.fields.specs.declared.Kind.{Kind}
use Rattle.fields.proofs.First.{by}
use Rattle.placement.specs.Place.{most_depth, kind_number, rank_of, rank_at}
use Rattle.structure.specs.Subtrees.{Subtrees, subtree, record_count, record_at, subtrees_of}
use Rattle.structure.specs.Sound.{Parent, as_parent, sound}
use Rattle.structure.proofs.Records.{record_but_span, kind_same, parent_same}
use Rattle.structure.proofs.Subtrees.{count_subtrees}
use Rattle.structure.proofs.Sound.{rank_is, rank_of_lem}
use Rattle.spoilt.specs.Spoilt.{line_ok, replaceable, first_bad, first_spoilt}
use Rattle.spoilt.specs.Places.{parent, bad_at, spoilt_at, first_at, FirstIs}
use Rattle.spoilt.proofs.Lines.{Kept, kept, subtrees_end, subtrees_next}
use Rattle.spoilt.proofs.Trees.{Mendable, bad_empty, spoilt_empty, bad_inside, bad_none, bad_step, spoilt_step, spoilt_le, mendable}

-- the first bad one of some records is not before them
pub bad_ge : (u : Parent) (e : ℕ) (b : List ℕ) (i left : ℕ) → i ≤ bad_at u e b i left
unfolding bad_at
bad_ge u e b i left = omega arith

-- where there is no record, none is the first
pub first_end : (r : Bool) (u : Parent) (e : ℕ) (b : List ℕ) (i top : ℕ) → top ≤ i → first_at r u e b i (top - i) ≡ i
unfolding bad_at spoilt_at
first_end true u e b i top l = rw (subtrees_end b i top l, spoilt_empty u e) (omega arith)
first_end false u e b i top l = rw (subtrees_end b i top l, bad_empty u e) (omega arith)

-- a bad line is the first
pub first_here : (r : Bool) (b : List ℕ) (i top d pn gc pc e : ℕ) → i < top
    → false ≡ line_ok (parent d pn gc pc) e (record_at b i) (subtrees_of b (i + 1) (span_in b i (top - i) - 1)) → first_at r (parent d pn gc pc) e b i (top - i) ≡ i
unfolding bad_at spoilt_at
first_here true b i top d pn gc pc e l z =
    rw (subtrees_next b i top l refl, spoilt_step (parent d pn gc pc) e (record_at b i) _ _, ← z) (omega arith)
first_here false b i top d pn gc pc e l z =
    rw (subtrees_next b i top l refl, bad_step (parent d pn gc pc) e (record_at b i) _ _, ← z) (omega arith)

-- where none is the first, it is their end
pub none_first : (o : Option ℕ) {end x : ℕ} → FirstIs o end x → o ≡ None → end ≤ x
none_first None f e = omega (arith, f)
none_first (Some i) f e = let z : ◌≡◌ {A = ℕ} 0 1 = cc in absurd (omega arith)

-- by whether there is one
pub is_first : (o : Option ℕ) {end x : ℕ} → FirstIs o end x → true ≡ is_some o → x < end
is_first None f e = no_false (sym e)
is_first (Some i) f e = omega (arith, f.0, f.1)

pub no_first : (o : Option ℕ) {end x : ℕ} → FirstIs o end x → false ≡ is_some o → end ≤ x
no_first None f e = omega (arith, f)
no_first (Some i) f e = no_false e

-- what the span of line i covers, and what is after that, below `top`
abbrev pub kids : List ℕ → ℕ → Subtrees
kids b i = subtrees_of b (i + 1) (span_of b i - 1)

abbrev pub rest : List ℕ → ℕ → ℕ → Subtrees
rest b i top = subtrees_of b (i + span_of b i) (top - (i + span_of b i))

-- a line that is not bad: itself, what is below it and what is after that
module _ (b : List ℕ) {i top d pn gc pc e : ℕ} (h : Kept b i top d pn gc pc e) where
  pub tree : subtrees_of b i (top - i) ≡ subtree (record_at b i) (kids b i) (rest b i top)
  tree = subtrees_next b i top (omega (arith, h.some, h.within)) (sym (span_stated b i (top - i) h.some (omega (arith, h.within))))

  -- what is below it is sound or not by whether a line there is bad
  module _ {k : Kind} {c s m x : ℕ} (ek : k ≡ kind_at b i) (ec : c ≡ byte_of b i 4) (es : s ≡ span_of b i) (em : m ≡ kind_number k)
      (ex : x ≡ bad_at (parent (d + 1) m pc c) 0 b (i + 1) (i + s - (i + 1))) where
    kids_bad : x ≡ i + 1 + first_bad (as_parent (parent d pn gc pc) (record_at b i) 0) 0 (kids b i)
    unfolding bad_at
    kids_bad =
        let q : i + s - (i + 1) ≡ span_of b i - 1 = omega arith in
        rw (parent_same (record_at b i) 0 b i (record_but_span b i) (parent d pn gc pc)) (rw (q, em, ek, ec) at ex)

    pub kids_sound : i + s ≤ x → sound (as_parent (parent d pn gc pc) (record_at b i) 0) 0 (kids b i) ≡ true
    kids_sound l =
        by (sound (as_parent (parent d pn gc pc) (record_at b i) 0) 0 (kids b i)) (λ t. t)
        (λ t. absurd (omega (arith, bad_inside _ 0 (kids b i) t, count_subtrees b (i + 1) (span_of b i - 1), kids_bad, h.some)))

    pub kids_unsound : x < i + s → sound (as_parent (parent d pn gc pc) (record_at b i) 0) 0 (kids b i) ≡ false
    kids_unsound l =
        by (sound (as_parent (parent d pn gc pc) (record_at b i) 0) 0 (kids b i))
        (λ t. absurd (omega (arith, bad_none _ 0 (kids b i) t, count_subtrees b (i + 1) (span_of b i - 1), kids_bad, h.some))) (λ t. t)

-- a line that is not bad, and what the code reads of it: its kind, its category, its span and its rank
pub record Passed (b : List ℕ) (i top d pn gc pc e : ℕ) (k : Kind) (c s g : ℕ) : Type 0 where
  pub keeps : Kept b i top d pn gc pc e
  pub kind : k ≡ kind_at b i
  pub category : c ≡ byte_of b i 4
  pub span : s ≡ span_of b i
  pub rank : g ≡ rank_of k c

-- such a line, from what is known of each thing read
pub passed : {b : List ℕ} {i top d pn gc pc e : ℕ} {t : Bool} {k : Kind} {c s g : ℕ} → i < top
    → t ≡ line_ok (parent d pn gc pc) e (record_at b i) (subtrees_of b (i + 1) (span_in b i (top - i) - 1)) → t ≡ true
    → k ≡ kind_at b i → c ≡ byte_of b i 4 → s ≡ span_in b i (top - i) → g ≡ rank_of k c → Passed b i top d pn gc pc e k c s g
passed {b} {i} {top} {d} {pn} {gc} {pc} {e} l et z ek ec es eg =
    let w = kept b i top d pn gc pc e l et z in
    record { keeps = w; kind = ek; category = ec; span = es ∙ span_stated b i (top - i) w.some (omega (arith, w.within)); rank = eg }

either_right : (p : Bool) → either p true ≡ true
either_right true = refl
either_right false = refl

module _ (b : List ℕ) {i top d pn gc pc e : ℕ} {k : Kind} {c s g : ℕ} (p : Passed b i top d pn gc pc e k c s g) where
  pub bounds : (i < i + s) × (i + s ≤ top) × (d < most_depth)
  bounds = (omega (arith, p.keeps.some, p.span), omega (arith, p.keeps.within, p.span), p.keeps.deep)

  -- its parent, and itself as one
  abbrev u : Parent
  u = parent d pn gc pc

  abbrev self : Parent
  self = as_parent u (record_at b i) 0

  its_rank : rank_at (record_at b i) 0 ≡ g
  its_rank = rank_is b i ∙ sym (p.rank ∙ rw (p.kind, p.category) (rank_of_lem b i))

  past : (f : ℕ) → i + suc (record_count (kids b i) + f) ≡ i + span_of b i + f
  past f = omega (arith, count_subtrees b (i + 1) (span_of b i - 1), p.keeps.some)

  -- on with the lines after it
  on_bad : sound self 0 (kids b i) ≡ true → bad_at u e b i (top - i) ≡ bad_at u g b (i + s) (top - (i + s))
  unfolding bad_at
  on_bad t =
      rw (tree b p.keeps, bad_step u e (record_at b i) (kids b i) (rest b i top), p.keeps.line, t, its_rank, p.span) (past (first_bad u g (rest b i top)))

  on_spoilt : either (replaceable u e (record_at b i) (kids b i)) (sound self 0 (kids b i)) ≡ true
      → spoilt_at u e b i (top - i) ≡ spoilt_at u g b (i + s) (top - (i + s))
  unfolding spoilt_at
  on_spoilt t =
      rw (tree b p.keeps, spoilt_step u e (record_at b i) (kids b i) (rest b i top), p.keeps.line, t, its_rank, p.span) (past (first_spoilt u g (rest b i top)))

  -- a policy or a set may be replaced: what is below it is passed over
  replaced : replaceable u e (record_at b i) (kids b i) ≡ among 1 2 (kind_number k)
  unfolding replaceable
  replaced = rw (kind_same (record_at b i) 0 b i (record_but_span b i), ← p.kind, p.keeps.line) (both_true (among 1 2 (kind_number k)))

  pub first_over : (r : Bool) → both r (among 1 2 (kind_number k)) ≡ true → first_at r u e b i (top - i) ≡ first_at r u g b (i + s) (top - (i + s))
  first_over true l = on_spoilt (rw (replaced, l) refl)
  first_over false l = no_false l

  -- a bad line is below it, or none is
  module _ {x : ℕ} (ex : x ≡ bad_at (parent (d + 1) (kind_number k) pc c) 0 b (i + 1) (i + s - (i + 1))) where
    bad_kids : x ≡ i + 1 + first_bad self 0 (kids b i)
    bad_kids = kids_bad b p.keeps p.kind p.category p.span refl ex

    sound_kids : i + s ≤ x → sound self 0 (kids b i) ≡ true
    sound_kids = kids_sound b p.keeps p.kind p.category p.span refl ex

    unsound_kids : x < i + s → sound self 0 (kids b i) ≡ false
    unsound_kids = kids_unsound b p.keeps p.kind p.category p.span refl ex

    pub first_in : (r : Bool) → both r (among 1 2 (kind_number k)) ≡ false → x < i + s → first_at r u e b i (top - i) ≡ x
    unfolding bad_at spoilt_at
    first_in true n l =
        rw (tree b p.keeps, spoilt_step u e (record_at b i) (kids b i) (rest b i top), p.keeps.line, replaced, n, unsound_kids l)
        (omega (arith, bad_kids))
    first_in false n l = rw (tree b p.keeps, bad_step u e (record_at b i) (kids b i) (rest b i top), p.keeps.line, unsound_kids l) (omega (arith, bad_kids))

    pub first_on : (r : Bool) → i + s ≤ x → first_at r u e b i (top - i) ≡ first_at r u g b (i + s) (top - (i + s))
    first_on true l = on_spoilt (rw (sound_kids l) (either_right (replaceable u e (record_at b i) (kids b i))))
    first_on false l = on_bad (sound_kids l)

-- children of which none is spoilt, from i on and below `top`
pub record Unspoilt (b : List ℕ) (i top d pn gc pc : ℕ) : Type 0 where
  pub rank : ℕ
  pub none : top ≤ spoilt_at (parent d pn gc pc) rank b i (top - i)

-- the first is not bad, and of those after it none is spoilt
module _ (b : List ℕ) {i top d pn gc pc : ℕ} (w : Unspoilt b i top d pn gc pc) (l : i < top) where
  unspoilt_parts : Mendable (parent d pn gc pc) w.rank (record_at b i) (subtrees_of b (i + 1) (span_in b i (top - i) - 1))
      (subtrees_of b (i + span_in b i (top - i)) (top - (i + span_in b i (top - i))))
  unfolding spoilt_at
  unspoilt_parts =
      let all : first_spoilt (parent d pn gc pc) w.rank (subtrees_of b i (top - i)) ≡ record_count (subtrees_of b i (top - i)) =
      omega (arith, w.none, count_subtrees b i (top - i), spoilt_le (parent d pn gc pc) w.rank (subtrees_of b i (top - i))) in
      mendable (parent d pn gc pc) w.rank (record_at b i) _ _ (rw (subtrees_next b i top l refl) at all)

  pub unspoilt_kept : Kept b i top d pn gc pc w.rank
  unspoilt_kept = kept b i top d pn gc pc w.rank l refl unspoilt_parts.line

  pub unspoilt_next : {s : ℕ} → s ≡ span_of b i → Unspoilt b (i + s) top d pn gc pc
  unfolding spoilt_at
  unspoilt_next es =
      let some = unspoilt_kept.some in
      let within = unspoilt_kept.within in
      let others = rw (span_stated b i (top - i) some (omega arith)) at unspoilt_parts.others in
      rw es (record { rank = rank_at (record_at b i) 0; none = omega (arith, others, count_subtrees b (i + span_of b i) (top - (i + span_of b i))) })
