-- What the code knows of one line: the operands below it, and whether it is bad. Assumes nothing.
use mathlib.Core.Path.{◌≡◌, refl, sym, ◌∙◌}
use mathlib.Core.Bool.{Bool, true, false}
use mathlib.Core.List.{List}
use Prim.Native.Nat.{ℕ, ◌+◌, ◌-◌, ◌≤◌, ◌<◌}
use native.Mathlib.Omega.{arith}
use lib.Dec.{eqb, ltb, leb}
use borrow.Author.Tests.{eq-eqb, ne_eqb, lt-ltb, ltb-true, le-leb, leb-true}
use Rattle.record.specs.Choose.{both}
use Rattle.record.specs.Bytes.{byte_of, span_of}
use Rattle.record.specs.Forest.{span_in}
use Rattle.record.proofs.Choose.{both_parts, no_false}
use Rattle.record.proofs.Forests.{span_pos, span_le, span_stated}
use Rattle.fields.specs.Fields.{kind_at, rules_of, field_ok}
use Rattle.fields.specs.declared.Kind.{Kind}
use Rattle.fields.proofs.Spans as spans
use Rattle.operands.specs.Operands.{value_type, operands_ok}
use Rattle.placement.specs.Place.{most_depth, stands_ok}
use Rattle.structure.specs.Subtrees.{Subtrees, no_subtree, subtree, record_count, record_at, subtrees_of, SameRecord}
use Rattle.structure.specs.Sound.{Parent, record_ok, child_ok, first_type, two_of, operands_in}
use Rattle.structure.proofs.Records.{Heads, MayStand, record_bytes, record_length, record_but_span, kind_same, choice_byte, type_same, record_parts, parts_record, child_parts, parts_child, heads_same, stand_same}
use Rattle.structure.proofs.Subtrees.{subtrees_none, subtrees_step, count_subtrees}
use Rattle.spoilt.specs.Spoilt.{line_ok}
use Rattle.spoilt.specs.Places.{parent}

-- the records from i on and below `top` as subtrees: none, or one and those after it
pub subtrees_end : (b : List ℕ) (i top : ℕ) → top ≤ i → subtrees_of b i (top - i) ≡ no_subtree
subtrees_end b i top l = let z : top - i ≡ 0 = omega arith in rw z (subtrees_none b i)

pub subtrees_next : (b : List ℕ) (i top : ℕ) {s : ℕ} → i < top → s ≡ span_in b i (top - i)
    → subtrees_of b i (top - i) ≡ subtree (record_at b i) (subtrees_of b (i + 1) (s - 1)) (subtrees_of b (i + s) (top - (i + s)))
subtrees_next b i top {s} l e =
    let z : top - i - s ≡ top - (i + s) = omega arith in
    rw (← z, e) (subtrees_step b i (top - i) (omega arith))

-- the value that a record is, by itself
value_is : (b : List ℕ) (i : ℕ) → value_type (record_at b i) 0 ≡ value_type b i
value_is b i = type_same (record_at b i) 0 b i (record_but_span b i)

-- the type of the first of them
pub type_none : (b : List ℕ) (i top : ℕ) → top ≤ i → 0 ≡ first_type (subtrees_of b i (top - i))
unfolding first_type
type_none b i top l = rw (subtrees_end b i top l) refl

pub type_first : (b : List ℕ) (i top : ℕ) {t : ℕ} → i < top → t ≡ value_type b i → t ≡ first_type (subtrees_of b i (top - i))
unfolding first_type
type_first b i top l e = rw (subtrees_next b i top l refl, value_is b i) e

-- whether they are two of type t: there is none, there is one, there are three or more, and there are two
pub two_none : (b : List ℕ) (i top t : ℕ) → top ≤ i → false ≡ two_of (subtrees_of b i (top - i)) t
unfolding two_of
two_none b i top t l = rw (subtrees_end b i top l) refl

module _ (b : List ℕ) (i top t : ℕ) {s : ℕ} (l : i < top) (e : s ≡ span_in b i (top - i)) where
  pub two_one : top ≤ i + s → false ≡ two_of (subtrees_of b i (top - i)) t
  unfolding two_of
  two_one m = rw (subtrees_next b i top l e, subtrees_end b (i + s) top m) refl

  module _ {n : ℕ} (m : i + s < top) (d : n ≡ span_in b (i + s) (top - (i + s))) where
    pub two_more : i + s + n < top → false ≡ two_of (subtrees_of b i (top - i)) t
    unfolding two_of
    two_more h = rw (subtrees_next b i top l e, subtrees_next b (i + s) top m d, subtrees_next b (i + s + n) top h refl) refl

    module _ (h : top ≤ i + s + n) where
      two_both : two_of (subtrees_of b i (top - i)) t ≡ both (eqb (value_type b i) t) (eqb (value_type b (i + s)) t)
      unfolding two_of
      two_both =
          rw (subtrees_next b i top l e, subtrees_next b (i + s) top m d, subtrees_end b (i + s + n) top h, value_is b i, value_is b (i + s)) refl

      module _ {j v : ℕ} (ej : j ≡ i) (ev : v ≡ value_type b j) where
        pub two_other : (v ≡ t → ⊥) → eqb v t ≡ two_of (subtrees_of b i (top - i)) t
        two_other g = rw (two_both, ← ej, ← ev, ne_eqb v t g) refl

        pub two_same : v ≡ t → {k w : ℕ} → k ≡ i + s → w ≡ value_type b k → eqb w t ≡ two_of (subtrees_of b i (top - i)) t
        two_same g ek ew = rw (two_both, ← ek, ← ej, ← ev, eq-eqb v t g, ← ew) refl

-- a line that is not bad, by its parts
pub line_parts : (u : Parent) (e : ℕ) (r : List ℕ) (kids : Subtrees) → line_ok u e r kids ≡ true
    → (record_ok r (record_count kids) ≡ true) × (child_ok u e r ≡ true) × (operands_in r kids ≡ true)
unfolding line_ok
line_parts u e r kids h =
    let x = both_parts (record_ok r (record_count kids)) (both (child_ok u e r) (operands_in r kids)) h in
    let y = both_parts (child_ok u e r) (operands_in r kids) x.1 in
    (x.0, y.0, y.1)

line_but : (u : Parent) (e : ℕ) (r : List ℕ) (kids : Subtrees) → record_ok r (record_count kids) ≡ true → child_ok u e r ≡ true
    → line_ok u e r kids ≡ operands_in r kids
unfolding line_ok
line_but u e r kids a c = rw (a, c) refl

-- what a line says that is no bad one: the book's facts
pub record Kept (b : List ℕ) (i top d pn gc pc e : ℕ) : Type 0 where
  pub fields : field_ok b i ≡ true
  pub some : 1 ≤ span_of b i
  pub within : i + span_of b i ≤ top
  pub deep : d < most_depth
  pub line : line_ok (parent d pn gc pc) e (record_at b i) (subtrees_of b (i + 1) (span_of b i - 1)) ≡ true

-- a test that cannot pass
refuted : (t : Bool) → (t ≡ true → ⊥) → false ≡ t
refuted true f = absurd (f refl)
refuted false f = refl

-- line i below `top`, as a child of such a parent
module _ (b : List ℕ) (i top d pn gc pc e : ℕ) where
  abbrev line : Bool
  line = line_ok (parent d pn gc pc) e (record_at b i) (subtrees_of b (i + 1) (span_in b i (top - i) - 1))

  line_heads : line ≡ true → Heads b i (span_in b i (top - i) - 1)
  line_heads h =
      let kids : Subtrees = subtrees_of b (i + 1) (span_in b i (top - i) - 1) in
      let z = line_parts (parent d pn gc pc) e (record_at b i) kids h in
      rw (count_subtrees b (i + 1) (span_in b i (top - i) - 1)) at
      (heads_same (record_at b i) 0 b i (record_bytes b i) (record_count kids) (record_parts (record_at b i) (record_count kids) z.0).1)

  line_stands : line ≡ true → MayStand (parent d pn gc pc) e b i
  line_stands h =
      let z = line_parts (parent d pn gc pc) e (record_at b i) (subtrees_of b (i + 1) (span_in b i (top - i) - 1)) h in
      stand_same (record_at b i) 0 b i (record_bytes b i) (parent d pn gc pc) e (child_parts (parent d pn gc pc) e (record_at b i) z.1)

  -- its head: what is asked of it beside its operands
  abbrev head : Kind → Bool
  head k = both (rules_of b i k) (both (leb (i + span_of b i) top) (both (ltb d most_depth) (stands_ok pn k (byte_of b i 4) e gc)))

  module _ {k : Kind} (ek : k ≡ kind_at b i) {h : Bool} (eh : h ≡ head k) where
    head_kept : i < top → line ≡ true → h ≡ true
    unfolding field_ok
    head_kept l x =
        let w = line_heads x in
        let y = line_stands x in
        let ends : i + span_of b i ≤ top = omega (arith, w.span, span_pos b i (top - i) (omega arith), span_le b i (top - i)) in
        eh ∙ rw (ek, w.fields, le-leb (i + span_of b i) top ends, lt-ltb d most_depth y.deep) y.stands

    -- a bad head makes a bad line
    pub head_bad : i < top → h ≡ false → false ≡ line
    head_bad l z = refuted line (λ x. no_false (sym z ∙ head_kept l x))

    module _ (z : h ≡ true) where
      head_parts : (field_ok b i ≡ true) × (i + span_of b i ≤ top) × (d < most_depth) × (stands_ok pn (kind_at b i) (byte_of b i 4) e gc ≡ true)
      unfolding field_ok
      head_parts =
          let w = both_parts (rules_of b i k) _ (sym eh ∙ z) in
          let v = both_parts (leb (i + span_of b i) top) _ w.1 in
          let u = both_parts (ltb d most_depth) _ v.1 in
          (rw ek at w.0, leb-true (i + span_of b i) top v.0, ltb-true d most_depth u.0, rw ek at u.1)

      pub head_ends : (i + 1 ≤ i + span_of b i) × (i + span_of b i ≤ top)
      head_ends = (omega (arith, spans.span_pos b i head_parts.0), head_parts.1)

      -- one that is not bad wants its operands
      pub line_operands : {s a : ℕ} {o : Bool} → s ≡ span_of b i
          → a ≡ byte_of b i 1 → o ≡ operands_ok k a (first_type (subtrees_of b (i + 1) (i + s - (i + 1)))) (two_of (subtrees_of b (i + 1) (i + s - (i + 1)))) → o ≡ line
      unfolding operands_in
      line_operands {s = s} es ea eo =
          let fields = head_parts.0 in
          let l = head_parts.1 in
          let some = spans.span_pos b i fields in
          let stated : span_in b i (top - i) ≡ span_of b i = span_stated b i (top - i) some (omega arith) in
          let below : i + s - (i + 1) ≡ span_of b i - 1 = omega arith in
          let kids : Subtrees = subtrees_of b (i + 1) (span_of b i - 1) in
          let back : SameRecord b i (record_at b i) 0 = λ j q. sym (record_bytes b i j q) in
          let count = count_subtrees b (i + 1) (span_of b i - 1) in
          rw (
            stated,
            line_but (parent d pn gc pc) e (record_at b i) kids
                (parts_record (record_at b i) _ (record_length b i) (heads_same b i (record_at b i) 0 back _ (record { fields = fields; span = omega (arith, count) })))
                (parts_child (parent d pn gc pc) e (record_at b i) (stand_same b i (record_at b i) 0 back (parent d pn gc pc) e (record { stands = head_parts.3; deep = head_parts.2 }))),
            kind_same (record_at b i) 0 b i (record_but_span b i),
            choice_byte (record_at b i) 0 b i (record_but_span b i),
            ← ek,
            ← ea,
            ← below,
          ) eo

-- it breaks none at all
pub kept : (b : List ℕ) (i top d pn gc pc e : ℕ) {t : Bool} → i < top
    → t ≡ line_ok (parent d pn gc pc) e (record_at b i) (subtrees_of b (i + 1) (span_in b i (top - i) - 1)) → t ≡ true → Kept b i top d pn gc pc e
kept b i top d pn gc pc e l et z =
    let h = sym et ∙ z in
    let w = line_heads b i top d pn gc pc e h in
    let least = span_pos b i (top - i) (omega arith) in
    let most = span_le b i (top - i) in
    let stated : span_in b i (top - i) ≡ span_of b i = omega (arith, w.span) in
    record {
      fields = w.fields;
      some = omega (arith, w.span);
      within = omega arith;
      deep = (line_stands b i top d pn gc pc e h).deep;
      line = rw stated at h;
    }
