-- A book is accepted exactly when its parts are sound: the claims of `specs/Claims.antt` on parts. Assumes nothing.
use mathlib.Core.Path.{◌≡◌, refl, sym, ap, ◌∙◌}
use mathlib.Core.Bool.{Bool, true}
use mathlib.Core.List.{List}
use Prim.Native.Nat.{ℕ, zero, suc, ◌+◌, ◌-◌, ◌*◌, ◌≤◌, ◌<◌}
use native.Mathlib.Omega.{arith}
use lib.ListN.{drop}
use lib.Seq.{get_or-take, get_or-drop}
use Rattle.record.specs.Choose.{both, among}
use Rattle.record.specs.Bytes.{size, span_of}
use Rattle.record.specs.Forest.{span_in}
use Rattle.record.proofs.Choose.{both_parts, no_false}
use Rattle.record.proofs.Forests.{span_pos, span_le}
use Rattle.fields.specs.Fields.{kind_at, field_ok}
use Rattle.placement.specs.Place.{kind_number, rank_at}
use Rattle.placement.proofs.Laws.{top_ok_lem}
use Rattle.judge.proofs.Sound.{top_kept}
use Rattle.judge.proofs.Exactly.{accepted_keeps, kept_is_accepted}
use Rattle.structure.specs.Subtrees.{Subtrees, no_subtree, subtree, record_count, record_at, subtrees_of, slice_of, SameRecord, SameRecords}
use Rattle.structure.specs.Sound.{Parent, line_one, record_ok, sound, sound_book, sound_at, SoundChild, SoundChildren, done, child}
use Rattle.structure.specs.Claims.{AcceptedByParts, PartsAreAccepted, KeptByParts, PartsAreKept, KeptIsSound, SoundIsKept, ByOwnBytes, ByThemselves}
use Rattle.structure.proofs.Records.{record_bytes, record_length, record_but_span, record_parts, parts_record, heads_same, kind_same, line_same}
use Rattle.structure.proofs.Subtrees.{subtrees_none, subtrees_step, subtrees_stated, subtrees_same, count_subtrees, count_none}
use Rattle.structure.proofs.Sound.{FirstChild, first_of, of_first, sound_none}
use Rattle.structure.proofs.Accepted.{kept_below, below_kept}

pub by_own_bytes : ByOwnBytes
unfolding sound_at
by_own_bytes u e b i c j s h = rw (subtrees_same b i c j s h) refl

pub slice_bytes : (b : List ℕ) (i s : ℕ) → SameRecords (slice_of b i s) 0 b i s
unfolding slice_of
slice_bytes b i s m l k h =
    let x : (0 + m) * size + k ≡ m * size + k = omega arith in
    let y : i * size + (m * size + k) ≡ (i + m) * size + k = omega arith in
    rw (x, get_or-take (s * size) (drop (i * size) b) (m * size + k) 0 (omega arith), get_or-drop (i * size) b (m * size + k) 0, y) refl

pub by_themselves : ByThemselves
by_themselves u e b i s = by_own_bytes u e (slice_of b i s) 0 b i s (slice_bytes b i s)

-- sound children are sound records
children_end : (u : Parent) (b : List ℕ) (end : ℕ) {e i : ℕ} → SoundChildren u b end e i → i ≤ end
children_end u b end (done q) = omega arith
children_end u b end (child w x) = let y = children_end u b end x in let s = w.some in omega arith

children_sound : (u : Parent) (b : List ℕ) (end : ℕ) {e i : ℕ} → SoundChildren u b end e i → sound_at u e b i (end - i) ≡ true
children_sound u b end {e} {i} (done q) = sound_none u e b i (end - i) (omega arith)
children_sound u b end {e} {i} (child w x) =
    let y = children_end u b end x in
    let s = w.some in
    let f = first_of u e b i (span_of b i) (omega arith) (sym (by_themselves u e b i (span_of b i)) ∙ w.alone) in
    let q : end - (i + span_of b i) ≡ end - i - span_of b i = omega arith in
    of_first u e b i (end - i) (record {
      fields = f.fields;
      some = s;
      within = omega arith;
      child = f.child;
      operands = f.operands;
      kids = f.kids;
      rest = rw q at (children_sound u b end x);
    })

first_alone : (u : Parent) (e : ℕ) (b : List ℕ) (i left : ℕ) → FirstChild u e b i left → SoundChild u e b i
first_alone u e b i left w =
    let some = w.some in
    record {
      some = some;
      alone = by_themselves u e b i (span_of b i) ∙ of_first u e b i (span_of b i) (record {
        fields = w.fields;
        some = some;
        within = omega arith;
        child = w.child;
        operands = w.operands;
        kids = w.kids;
        rest = sound_none u (rank_at b i) b (i + span_of b i) (span_of b i - span_of b i) (omega arith);
      });
    }

children_f : (f : ℕ) (u : Parent) (e : ℕ) (b : List ℕ) (i left end : ℕ) → left ≤ f → end ≡ i + left → sound_at u e b i left ≡ true → SoundChildren u b end e i
children_f zero u e b i left end l q x = done {i = i} (omega arith)
children_f (suc f) u e b i zero end l q x = done {i = i} (omega arith)
children_f (suc f) u e b i (suc k) end l q x =
    let w = first_of u e b i (suc k) (omega arith) x in
    let some = w.some in
    let within = w.within in
    child (first_alone u e b i (suc k) w) (children_f f u (rank_at b i) b (i + span_of b i) (suc k - span_of b i) end (omega arith) (omega arith) w.rest)

pub kept_by_parts : KeptByParts
kept_by_parts b n k =
    let w = kept_below b n k in
    let some = k.sized.some in
    record {
      sized = w.sized;
      fields = w.fields;
      place = w.place;
      children = children_f (n - 1) (line_one b) 0 b 1 (n - 1) n (omega arith) (omega arith) w.sound;
    }

pub parts_are_kept : PartsAreKept
parts_are_kept b n p =
    below_kept b n (record { sized = p.sized; fields = p.fields; place = p.place; sound = children_sound (line_one b) b n p.children })

pub accepted_by_parts : AcceptedByParts
accepted_by_parts b n m e = let w = accepted_keeps b n m e in (kept_by_parts b n w.0, w.1)

pub parts_are_accepted : PartsAreAccepted
parts_are_accepted b n p = kept_is_accepted b n (parts_are_kept b n p)

-- the book as one subtree
pub book_parts : (r : List ℕ) (kids rest : Subtrees) → sound_book (subtree r kids rest) ≡ true
    → (rest ≡ no_subtree) × (record_ok r (record_count kids) ≡ true) × (among 1 2 (kind_number (kind_at r 0)) ≡ true) × (sound (line_one r) 0 kids ≡ true)
unfolding sound_book
book_parts r kids no_subtree e =
    let a : Bool = among 1 2 (kind_number (kind_at r 0)) in
    let s : Bool = sound (line_one r) 0 kids in
    let x = both_parts (record_ok r (record_count kids)) (both a s) e in
    let y = both_parts a s x.1 in
    (refl, x.0, y.0, y.1)
book_parts r kids (subtree a x y) e = no_false e

pub parts_book : (r : List ℕ) (kids : Subtrees) → record_ok r (record_count kids) ≡ true → among 1 2 (kind_number (kind_at r 0)) ≡ true
    → sound (line_one r) 0 kids ≡ true → sound_book (subtree r kids no_subtree) ≡ true
unfolding sound_book
parts_book r kids x a s = rw (x, a, s) refl

-- the s records from i on as a book: what its head says, and that what is below it is sound
pub record BookAt (b : List ℕ) (i s : ℕ) : Type 0 where
  pub some : 0 < s
  pub fields : field_ok b i ≡ true
  pub span : span_of b i ≡ s
  pub kind : among 1 2 (kind_number (kind_at b i)) ≡ true
  pub below : sound_at (line_one (record_at b i)) 0 b (i + 1) (s - 1) ≡ true

pub book_of_lem : (b : List ℕ) (i s : ℕ) → sound_book (subtrees_of b i s) ≡ true → BookAt b i s
unfolding sound_at sound_book
book_of_lem b i zero e = no_false (rw (subtrees_none b i) at e)
book_of_lem b i (suc k) e =
    let s : ℕ = span_in b i (suc k) in
    let p : 0 < s = span_pos b i (suc k) (omega arith) in
    let q : s ≤ suc k = span_le b i (suc k) in
    let z = book_parts (record_at b i) (subtrees_of b (i + 1) (s - 1)) (subtrees_of b (i + s) (suc k - s)) (rw (subtrees_step b i (suc k) (omega arith)) at e) in
    let n : ℕ = record_count (subtrees_of b (i + 1) (s - 1)) in
    let w = heads_same (record_at b i) 0 b i (record_bytes b i) n (record_parts (record_at b i) n z.1).1 in
    let c = count_subtrees b (i + 1) (s - 1) in
    let d = count_subtrees b (i + s) (suc k - s) in
    let g : record_count (subtrees_of b (i + s) (suc k - s)) ≡ 0 = ap record_count z.0 ∙ count_none in
    let x : s ≡ suc k = omega arith in
    record {
      some = omega arith;
      fields = w.fields;
      span = omega (arith, w.span, c);
      kind = rw (kind_same (record_at b i) 0 b i (record_but_span b i)) at z.2;
      below = rw x at z.3;
    }

pub of_book : (b : List ℕ) (i s : ℕ) → BookAt b i s → sound_book (subtrees_of b i s) ≡ true
unfolding sound_at
of_book b i s w =
    let some = w.some in
    let z : s - s ≡ 0 = omega arith in
    let c = count_subtrees b (i + 1) (s - 1) in
    let back : SameRecord b i (record_at b i) 0 = λ k l. sym (record_bytes b i k l) in
    rw (subtrees_stated b i s (omega (arith, w.span)) (omega (arith, w.span)), w.span, z, subtrees_none b (i + s))
    (parts_book (record_at b i) (subtrees_of b (i + 1) (s - 1))
    (parts_record (record_at b i) _ (record_length b i) (heads_same b i (record_at b i) 0 back _ (record { fields = w.fields; span = omega (arith, w.span, c) })))
    (rw (kind_same (record_at b i) 0 b i (record_but_span b i)) w.kind)
    w.below)

pub kept_is_sound : KeptIsSound
kept_is_sound b n k =
    let w = kept_below b n k in
    let v = top_kept b n k.sized w.place in
    of_book b 0 n (record {
      some = k.sized.some;
      fields = w.fields;
      span = v.1;
      kind = v.0;
      below = rw (line_same (record_at b 0) b (record_but_span b 0)) w.sound;
    })

pub sound_is_kept : SoundIsKept
sound_is_kept b n sz e =
    let w = book_of_lem b 0 n e in
    below_kept b n (record {
      sized = sz;
      fields = w.fields;
      place = top_ok_lem b {n = n} w.some sz.bytes refl refl refl w.kind refl w.span;
      sound = rw (line_same (record_at b 0) b (record_but_span b 0)) at w.below;
    })
