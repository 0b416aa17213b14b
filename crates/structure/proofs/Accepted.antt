-- A book keeps the rules, line by line, exactly when line 1 does and its children are sound. Assumes nothing.
use mathlib.Core.Path.{◌≡◌, refl, sym, ◌∙◌}
use mathlib.Core.Bool.{Bool, true}
use mathlib.Core.List.{List}
use Prim.Native.Nat.{ℕ, zero, suc, ◌+◌, ◌-◌, ◌≤◌, ◌<◌}
use native.Mathlib.Omega.{arith}
use lib.Dec.{ltb}
use borrow.Author.Tests.{eqb-true, ltb-true, ltb-false}
use Rattle.record.specs.Choose.{both}
use Rattle.record.specs.Bytes.{byte_of, span_of}
use Rattle.record.proofs.Choose.{both_parts}
use Rattle.fields.specs.Fields.{kind_at, field_ok}
use Rattle.fields.proofs.First.{by, first_reach_all}
use Rattle.operands.specs.Operands.{operands_at}
use Rattle.placement.specs.Place.{kind_number, rank_at, stands_ok, child_rule, broken_at, place_ok}
use Rattle.placement.specs.Walk.{Walk}
use Rattle.grammar.specs.Row.{Row}
use Rattle.placement.specs.Keeps.{Sized, Keeps}
use Rattle.operands.proofs.Parent.{span_end}
use Rattle.placement.proofs.Laws.{rule_is, rule_none, stands_parts, Passed, passed, bounds, kids, rest, top_walk}
use Rattle.grammar.proofs.Rows.{operands_of, row_none, row_then, row_child}
use Rattle.judge.proofs.Sound.{top_kept}
use Rattle.structure.specs.Sound.{Parent, as_parent, line_one, sound_at}
use Rattle.structure.proofs.Sound.{FirstChild, first_of, of_first, sound_none, rank_of_lem}
use Rattle.structure.proofs.Operands.{operands_same}

-- line 1 keeps its rules, and what is below it is sound
pub record SoundBelow (b : List ℕ) (n : ℕ) : Type 0 where
  pub sized : Sized b n
  pub fields : field_ok b 0 ≡ true
  pub place : place_ok b 0 ≡ true
  pub sound : sound_at (line_one b) 0 b 1 (n - 1) ≡ true

-- every record from i on and below e passes a test
abbrev Between : (ℕ → Bool) → ℕ → ℕ → Type 0
Between f i e = (j : ℕ) → i ≤ j → j < e → f j ≡ true

-- the walk of line 1's children
line_walk : (b : List ℕ) (n : ℕ) → Sized b n → place_ok b 0 ≡ true → Between (field_ok b) 0 n → Walk b 0 1 n 1 (kind_number (kind_at b 0)) (byte_of b 0 4) (byte_of b 0 4) 0
line_walk b n s place fs =
    let v = top_kept b n s place in
    let some = s.some in
    top_walk b {n = n} (omega arith) s.bytes refl refl refl v.0 refl v.1 (first_reach_all (field_ok b) 0 n (λ m a z. fs m a (omega arith)) ∙ omega arith) refl

-- sound records are a row
record Rowed (u : Parent) (e : ℕ) (b : List ℕ) (i end : ℕ) : Type 0 where
  pub last : ℕ
  pub due : ℕ
  pub row : Row b i end end u.above u.number u.grand u.category e last due

wants_of : (b : List ℕ) (i : ℕ) → operands_at b i ≡ true → operands_of b i (kind_at b i) ≡ true
unfolding operands_at
wants_of b i h = h

row_more : (u : Parent) (e : ℕ) (b : List ℕ) (i left end : ℕ) → end ≡ i + left → FirstChild u e b i left → Rowed (as_parent u b i) 0 b (i + 1) (i + span_of b i)
    → Rowed u (rank_at b i) b (i + span_of b i) end → Rowed u e b i end
row_more u e b i left end q w below after =
    let some = w.some in
    let within = w.within in
    let v = stands_parts u.number (kind_at b i) (byte_of b i 4) e u.grand w.child.stands in
    let row = row_child b u.above u.number u.grand u.category e {i = i} {e = end} {end = i + span_of b i} {below = below.last} {due = below.due}
    (record { kind = refl; fields = w.fields }) (sym (span_end b i (span_of b i) refl)) (omega arith) (omega arith)
    v.0 v.1 v.2 (wants_of b i (operands_same (as_parent u b i) b i some w.kids ∙ w.operands)) w.child.deep below.row in
    record { last = after.last; due = _; row = row_then b (rw (rank_of_lem b i) at row) after.row }

row_f : (f : ℕ) (u : Parent) (e : ℕ) (b : List ℕ) (i left end : ℕ) → left ≤ f → end ≡ i + left → sound_at u e b i left ≡ true → Rowed u e b i end
row_f zero u e b i left end l q x = record { last = e; due = 0; row = row_none b (omega arith) (omega arith) }
row_f (suc f) u e b i zero end l q x = record { last = e; due = 0; row = row_none b (omega arith) (omega arith) }
row_f (suc f) u e b i (suc k) end l q x =
    let w = first_of u e b i (suc k) (omega arith) x in
    let some = w.some in
    let within = w.within in
    row_more u e b i (suc k) end q w
    (row_f f (as_parent u b i) 0 b (i + 1) (span_of b i - 1) (i + span_of b i) (omega arith) (omega arith) w.kids)
    (row_f f u (rank_at b i) b (i + span_of b i) (suc k - span_of b i) end (omega arith) (omega arith) w.rest)

-- line 1, and the others
all_from : (f : ℕ → Bool) (n : ℕ) → f 0 ≡ true → Between f 1 n → Between f 0 n
all_from f n e h j a z = by (ltb 0 j) (λ t. h j (omega (arith, ltb-true 0 j t)) z) (λ t. let q : j ≡ 0 = omega (arith, ltb-false 0 j t) in rw q e)

pub below_kept : (b : List ℕ) (n : ℕ) → SoundBelow b n → Keeps b n
below_kept b n w =
    let some = w.sized.some in
    let r = row_f (n - 1) (line_one b) 0 b 1 (n - 1) n (omega arith) (omega arith) w.sound in
    let fs : Between (field_ok b) 0 n = all_from (field_ok b) n w.fields (λ j a z. r.row.fields j a z) in
    let v = r.row.places 0 0 (omega arith) (line_walk b n w.sized w.place fs) in
    let ps : Between (place_ok b) 0 n = all_from (place_ok b) n w.place (λ j a z. v.1 j a z) in
    record {
      sized = w.sized;
      fields = λ j z. fs j (omega arith) z;
      places = λ j z. ps j (omega arith) z;
    }

-- the first child on the way of a walk
module _ (b : List ℕ) {p i e d pn gc pc er : ℕ} (w : Walk b p i e d pn gc pc er) (l : i < e) (ok : place_ok b i ≡ true) where
  broken_none : child_rule (i + span_of b i) e (d + 1) (both (stands_ok pn (kind_at b i) (byte_of b i 4) er gc) (operands_at b i)) ≡ 0
  unfolding place_ok
  broken_none = rule_is b w l refl refl (sym (span_end b i (span_of b i) refl)) refl (λ z. refl) refl ∙ eqb-true (broken_at b i) 0 ok

  stands_there : (stands_ok pn (kind_at b i) (byte_of b i 4) er gc ≡ true) × (operands_at b i ≡ true)
  stands_there = both_parts (stands_ok pn (kind_at b i) (byte_of b i 4) er gc) (operands_at b i) (rule_none (i + span_of b i) e (d + 1) _ broken_none).1

  passes : Passed b p i e d pn gc pc er (kind_at b i) (byte_of b i 4) (i + span_of b i)
  passes = passed b w l refl refl refl refl (λ z. refl) refl broken_none

  rest_walk : Between (place_ok b) (i + 1) (i + span_of b i) → Walk b p (i + span_of b i) e d pn gc pc (rank_at b i)
  rest_walk all =
      let o = bounds b passes in
      rest b passes {r = i + span_of b i} {x = 0} (record {
        place = sym (first_reach_all (place_ok b) (i + 1) (i + span_of b i - (i + 1)) (λ m a z. all m a (omega arith)) ∙ omega arith);
        which = λ z. absurd (omega arith);
        none = λ z. refl;
      }) (omega arith) (sym (rank_of_lem b i))

abbrev parent : ℕ → ℕ → ℕ → ℕ → Parent
parent d pn gc pc = record { above = d; number = pn; category = pc; grand = gc }

sound_more : (b : List ℕ) (p i e d pn gc pc er : ℕ) (w : Walk b p i e d pn gc pc er) (h : i < e) → field_ok b i ≡ true → place_ok b i ≡ true
    → sound_at (parent (d + 1) (kind_number (kind_at b i)) pc (byte_of b i 4)) 0 b (i + 1) (i + span_of b i - (i + 1)) ≡ true
    → sound_at (parent d pn gc pc) (rank_at b i) b (i + span_of b i) (e - (i + span_of b i)) ≡ true
    → sound_at (parent d pn gc pc) er b i (e - i) ≡ true
sound_more b p i e d pn gc pc er w h fs ok k r =
    let o = bounds b (passes b w h ok) in
    let n1 : i + span_of b i - (i + 1) ≡ span_of b i - 1 = omega arith in
    let n2 : e - (i + span_of b i) ≡ e - i - span_of b i = omega arith in
    let below = rw n1 at k in
    let there = stands_there b w h ok in
    of_first (parent d pn gc pc) er b i (e - i) (record {
      fields = fs;
      some = omega arith;
      within = omega arith;
      child = record { stands = there.0; deep = o.2 };
      operands = sym (operands_same _ b i (omega arith) below) ∙ there.1;
      kids = below;
      rest = rw n2 at r;
    })

-- records that keep the rules on the way of a walk are sound
sound_f : (f : ℕ) (b : List ℕ) (p i e d pn gc pc er : ℕ) → e - i ≤ f → Walk b p i e d pn gc pc er → Between (field_ok b) i e → Between (place_ok b) i e
    → sound_at (parent d pn gc pc) er b i (e - i) ≡ true
sound_f zero b p i e d pn gc pc er l w fs ps = sound_none (parent d pn gc pc) er b i (e - i) (omega arith)
sound_f (suc f) b p i e d pn gc pc er l w fs ps = by (ltb i e)
    (λ t. let h = ltb-true i e t in
    let ok = ps i (omega arith) h in
    let o = bounds b (passes b w h ok) in
    sound_more b p i e d pn gc pc er w h (fs i (omega arith) h) ok
    (sound_f f b i (i + 1) (i + span_of b i) (d + 1) (kind_number (kind_at b i)) pc (byte_of b i 4) 0 (omega arith) (kids b (passes b w h ok) refl)
    (λ j a z. fs j (omega arith) (omega arith)) (λ j a z. ps j (omega arith) (omega arith)))
    (sound_f f b p (i + span_of b i) e d pn gc pc (rank_at b i) (omega arith) (rest_walk b w h ok (λ j a z. ps j (omega arith) (omega arith)))
    (λ j a z. fs j (omega arith) z) (λ j a z. ps j (omega arith) z)))
    (λ t. let z = ltb-false i e t in sound_none (parent d pn gc pc) er b i (e - i) (omega arith))

pub kept_below : (b : List ℕ) (n : ℕ) → Keeps b n → SoundBelow b n
kept_below b n k =
    let some = k.sized.some in
    let p = k.places 0 (omega arith) in
    record {
      sized = k.sized;
      fields = k.fields 0 (omega arith);
      place = p;
      sound = sound_f (n - 1) b 0 1 n 1 (kind_number (kind_at b 0)) (byte_of b 0 4) (byte_of b 0 4) 0 (omega arith) (line_walk b n k.sized p (λ j a z. k.fields j z))
          (λ j a z. k.fields j z) (λ j a z. k.places j z);
    }
