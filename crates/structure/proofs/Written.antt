-- Subtrees written as bytes and read back: the claims of `specs/Claims.antt` on sound books and trees of records. Assumes nothing.
use mathlib.Core.Path.{◌≡◌, refl, sym, ap, ◌∙◌}
use mathlib.Core.Bool.{true}
use mathlib.Core.List.{List, ◌++◌}
use Prim.Native.Nat.{ℕ, zero, suc, ◌+◌, ◌-◌, ◌*◌, ◌≤◌, ◌<◌}
use native.Mathlib.Nat.{zero-add}
use native.Mathlib.Omega.{arith}
use lib.Dec.{eqb, ltb}
use lib.ListN.{length, get_or, drop, length-append, length-drop, get_or-append, get_or-eq_default}
use lib.Seq.{length-take-le, take_all, take-add, drop-drop, get_or-append-add}
use borrow.Author.Tests.{eqb-true, ltb-true, ltb-false}
use Rattle.record.specs.Choose.{both}
use Rattle.record.specs.Bytes.{Bytes, size, most_records, span_of}
use Rattle.record.specs.Forest.{span_in}
use Rattle.record.proofs.Choose.{no_false, both_parts}
use Rattle.record.proofs.Forests.{span_pos, span_le}
use Rattle.fields.proofs.First.{by}
use Rattle.placement.specs.Keeps.{Keeps}
use Rattle.judge.proofs.Exactly.{accepted_keeps, kept_is_accepted}
use Rattle.structure.specs.Subtrees.{Subtrees, no_subtree, subtree, record_count, record_at, subtrees_of, bytes_of, spanned, whole_records, slice_of, SameRecord}
use Rattle.placement.specs.Place.{rank_at}
use Rattle.structure.specs.Sound.{Parent, as_parent, sound, sound_book}
use Rattle.structure.specs.Claims.{SoundIsAccepted, SoundIsReadBack, SpannedIsAccepted, AcceptedIsSound, SpannedIsReadBack, SoundIsSpanned, ReadIsWrittenBack}
use Rattle.structure.proofs.Records.{span_same, record_parts}
use Rattle.structure.proofs.Subtrees.{subtrees_none, subtrees_step, subtrees_stated, count_none, count_subtree, same_first, record_is}
use Rattle.structure.proofs.Sound.{sound_parts}
use Rattle.structure.proofs.Parts.{slice_bytes, book_parts, kept_is_sound, sound_is_kept}
use Rattle.structure.proofs.Spanned.{with_length, with_span_lem, with_same}

-- each record has its bytes and states its span
pub data Formed : Subtrees → Type 0 where
  formed_none : Formed no_subtree
  formed : {r : List ℕ} {kids rest : Subtrees} → length r ≡ size → span_of r 0 ≡ suc (record_count kids) → Formed kids → Formed rest → Formed (subtree r kids rest)

sound_formed : (u : Parent) (e : ℕ) (x : Subtrees) → sound u e x ≡ true → Formed x
sound_formed u e no_subtree h = formed_none
sound_formed u e (subtree r kids rest) h =
    let z = sound_parts u e r kids rest h in
    let w = record_parts r (record_count kids) z.0 in
    formed w.0 w.1.span (sound_formed (as_parent u r 0) 0 kids z.3) (sound_formed u (rank_at r 0) rest z.4)

pub book_formed : (x : Subtrees) → sound_book x ≡ true → Formed x
book_formed no_subtree h = formed_none
book_formed (subtree r kids rest) h =
    let z = book_parts r kids rest h in
    let w = record_parts r (record_count kids) z.1 in
    formed {rest = rest} w.0 w.1.span (sound_formed _ 0 kids z.3) (rw z.0 formed_none)

-- with spans or without, so many records
pub count_spanned : (x : Subtrees) → record_count (spanned x) ≡ record_count x
unfolding record_count spanned
count_spanned no_subtree = refl
count_spanned (subtree r kids rest) = let k = count_spanned kids in let t = count_spanned rest in omega (arith, k, t)

pub spanned_formed : (x : Subtrees) → whole_records x ≡ true → Formed (spanned x)
unfolding spanned whole_records
spanned_formed no_subtree h = formed_none
spanned_formed (subtree r kids rest) h =
    let w = both_parts (eqb (length r) size) (both (whole_records kids) (whole_records rest)) h in
    let v = both_parts (whole_records kids) (whole_records rest) w.1 in
    let l = eqb-true (length r) size w.0 in
    let n : ℕ = suc (record_count kids) in
    formed (with_length r n ∙ l) (with_span_lem r n l ∙ ap suc (sym (count_spanned kids))) (spanned_formed kids v.0) (spanned_formed rest v.1)

-- the bytes of a subtree: first the record, then its children, then what is after it
bytes_subtree : (r : List ℕ) (kids rest : Subtrees) → bytes_of (subtree r kids rest) ≡ r ++ (bytes_of kids ++ bytes_of rest)
unfolding bytes_of
bytes_subtree r kids rest = refl

pub bytes_length : (x : Subtrees) → Formed x → length (bytes_of x) ≡ record_count x * size
unfolding bytes_of record_count
bytes_length no_subtree w = refl
bytes_length (subtree r kids rest) (formed l s k t) =
    let x = length-append r (bytes_of kids ++ bytes_of rest) in
    let y = length-append (bytes_of kids) (bytes_of rest) in
    let a = bytes_length kids k in
    let b = bytes_length rest t in
    omega (arith, x, y, l, a, b)

-- a byte of a subtree, by where it stands
module _ (r : List ℕ) (kids rest : Subtrees) where
  first_byte : (k : ℕ) → k < length r → get_or (bytes_of (subtree r kids rest)) k 0 ≡ get_or r k 0
  first_byte k l = ap (λ (x : List ℕ). get_or x k 0) (bytes_subtree r kids rest) ∙ get_or-append r (bytes_of kids ++ bytes_of rest) 0 k l

  kids_byte : (k : ℕ) → k < length (bytes_of kids) → get_or (bytes_of (subtree r kids rest)) (length r + k) 0 ≡ get_or (bytes_of kids) k 0
  kids_byte k l =
      ap (λ (x : List ℕ). get_or x (length r + k) 0) (bytes_subtree r kids rest) ∙ get_or-append-add r (bytes_of kids ++ bytes_of rest) k 0
      ∙ get_or-append (bytes_of kids) (bytes_of rest) 0 k l

  rest_byte : (k : ℕ) → get_or (bytes_of (subtree r kids rest)) (length r + (length (bytes_of kids) + k)) 0 ≡ get_or (bytes_of rest) k 0
  rest_byte k =
      ap (λ (x : List ℕ). get_or x (length r + (length (bytes_of kids) + k)) 0) (bytes_subtree r kids rest)
      ∙ get_or-append-add r (bytes_of kids ++ bytes_of rest) (length (bytes_of kids) + k) 0 ∙ get_or-append-add (bytes_of kids) (bytes_of rest) k 0

-- the bytes of the subtrees stand in b from record i on
abbrev Standing : List ℕ → ℕ → Subtrees → Type 0
Standing b i x = (k : ℕ) → k < record_count x * size → get_or b (i * size + k) 0 ≡ get_or (bytes_of x) k 0

-- the first record of a subtree that stands there, its children and what is after it
module _ (b : List ℕ) (i : ℕ) (r : List ℕ) (kids rest : Subtrees) (l : length r ≡ size) (lk : length (bytes_of kids) ≡ record_count kids * size)
    (h : Standing b i (subtree r kids rest)) where
  records : record_count (subtree r kids rest) ≡ suc (record_count kids + record_count rest)
  records = count_subtree r kids rest

  first_same : SameRecord b i r 0
  first_same k q =
      let e : 0 * size + k ≡ k = omega arith in
      let n = records in
      rw e (h k (omega arith) ∙ first_byte r kids rest k (omega arith))

  kids_stand : Standing b (i + 1) kids
  kids_stand k q =
      let e : (i + 1) * size + k ≡ i * size + (size + k) = omega arith in
      let n = records in
      rw e (h (size + k) (omega arith) ∙ (rw l at (kids_byte r kids rest k (omega arith))))

  rest_stand : Standing b (i + suc (record_count kids)) rest
  rest_stand k q =
      let e : (i + suc (record_count kids)) * size + k ≡ i * size + (size + (record_count kids * size + k)) = omega arith in
      let n = records in
      rw e (h (size + (record_count kids * size + k)) (omega arith) ∙ (rw (l, lk) at (rest_byte r kids rest k)))

  back_node : span_of r 0 ≡ suc (record_count kids) → subtrees_of b (i + 1) (record_count kids) ≡ kids
      → subtrees_of b (i + suc (record_count kids)) (record_count rest) ≡ rest → subtrees_of b i (record_count (subtree r kids rest)) ≡ subtree r kids rest
  back_node e k t =
      let n = records in
      let s : span_of b i ≡ suc (record_count kids) = span_same b i r 0 first_same ∙ e in
      let y : suc (record_count kids) - 1 ≡ record_count kids = omega arith in
      let z : record_count (subtree r kids rest) - suc (record_count kids) ≡ record_count rest = omega arith in
      rw (subtrees_stated b i (record_count (subtree r kids rest)) (omega arith) (omega arith), s, y, z, record_is b i r l first_same, k, t) refl

back : (x : Subtrees) → Formed x → (b : List ℕ) (i : ℕ) → Standing b i x → subtrees_of b i (record_count x) ≡ x
back no_subtree w b i st = rw count_none (subtrees_none b i)
back (subtree r kids rest) (formed l s k t) b i st =
    let lk = bytes_length kids k in
    back_node b i r kids rest l lk st s
    (back kids k b (i + 1) (kids_stand b i r kids rest l lk st))
    (back rest t b (i + suc (record_count kids)) (rest_stand b i r kids rest l lk st))

read_back : (x : Subtrees) → Formed x → subtrees_of (bytes_of x) 0 (record_count x) ≡ x
read_back x w = back x w (bytes_of x) 0 (λ k q. ap (λ (m : ℕ). get_or (bytes_of x) m 0) (zero-add k))

-- a sound book
pub sound_is_read_back : SoundIsReadBack
sound_is_read_back x h = read_back x (book_formed x h)

some_record : (x : Subtrees) → sound_book x ≡ true → 1 ≤ record_count x
unfolding sound_book record_count
some_record no_subtree h = no_false h
some_record (subtree r kids rest) h = omega arith

pub written_is_kept : (x : Subtrees) → sound_book x ≡ true → record_count x ≤ most_records → Keeps (bytes_of x) (record_count x)
written_is_kept x h l =
    sound_is_kept (bytes_of x) (record_count x) (record { bytes = bytes_length x (book_formed x h); some = some_record x h; most = l })
    (rw (sound_is_read_back x h) h)

pub sound_is_accepted : SoundIsAccepted
sound_is_accepted x h l = kept_is_accepted (bytes_of x) (record_count x) (written_is_kept x h l)

-- a tree of records with its spans
pub spanned_is_accepted : SpannedIsAccepted
spanned_is_accepted x h l = let c = count_spanned x in rw c at (sound_is_accepted (spanned x) h (omega (arith, c)))

pub spanned_is_read_back : SpannedIsReadBack
spanned_is_read_back x h = rw (count_spanned x) at (read_back (spanned x) (spanned_formed x h))

pub accepted_is_sound : AcceptedIsSound
accepted_is_sound x n m h e =
    let w = (accepted_keeps (bytes_of (spanned x)) n m e).0 in
    let l = bytes_length (spanned x) (spanned_formed x h) in
    let c = count_spanned x in
    let q : n ≡ record_count x = omega (arith, w.sized.bytes, l, c) in
    (rw (q, spanned_is_read_back x h) at (kept_is_sound (bytes_of (spanned x)) n w), q)

-- spans that are right stay
module _ (r : List ℕ) (kids rest : Subtrees) (b : Bytes (bytes_of (subtree r kids rest))) where
  first_small : length r ≡ size → get_or r 3 0 < 256
  first_small l = let x = b 3 in let y = first_byte r kids rest 3 (omega arith) in omega (arith, x, y)

  kids_small : Bytes (bytes_of kids)
  kids_small i =
      by (ltb i (length (bytes_of kids)))
      (λ t. let x = b (length r + i) in let y = kids_byte r kids rest i (ltb-true i (length (bytes_of kids)) t) in omega (arith, x, y))
      (λ t. let y = get_or-eq_default (bytes_of kids) 0 (ltb-false i (length (bytes_of kids)) t) in omega (arith, y))

  rest_small : Bytes (bytes_of rest)
  rest_small i = let x = b (length r + (length (bytes_of kids) + i)) in let y = rest_byte r kids rest i in omega (arith, x, y)

spanned_same : (x : Subtrees) → Formed x → Bytes (bytes_of x) → spanned x ≡ x
unfolding spanned
spanned_same no_subtree w b = refl
spanned_same (subtree r kids rest) (formed l s k t) b =
    rw (
      with_same r (suc (record_count kids)) s (first_small r kids rest b l),
      spanned_same kids k (kids_small r kids rest b),
      spanned_same rest t (rest_small r kids rest b),
    ) refl

pub sound_is_spanned : SoundIsSpanned
sound_is_spanned x h b = spanned_same x (book_formed x h) b

-- records by themselves, and then others
pub slice_add : (b : List ℕ) (i s t : ℕ) → slice_of b i (s + t) ≡ slice_of b i s ++ slice_of b (i + s) t
unfolding slice_of
slice_add b i s t =
    let x : (s + t) * size ≡ s * size + t * size = omega arith in
    let y : (i + s) * size ≡ i * size + s * size = omega arith in
    rw (x, y, ← drop-drop (s * size) (i * size) b) (take-add (s * size) (t * size) (drop (i * size) b))

pub slice_record : (b : List ℕ) (i : ℕ) → (i + 1) * size ≤ length b → record_at b i ≡ slice_of b i 1
unfolding slice_of
slice_record b i h =
    record_is b i (slice_of b i 1) (length-take-le size (drop (i * size) b) (omega (arith, length-drop (i * size) b)))
    (λ k l. sym (same_first (slice_of b i 1) 0 b i 1 (slice_bytes b i 1) (omega arith) k l))

bytes_f : (f : ℕ) (b : List ℕ) (i left : ℕ) → left ≤ f → (i + left) * size ≤ length b → bytes_of (subtrees_of b i left) ≡ slice_of b i left
unfolding slice_of bytes_of
bytes_f zero b i zero l h = rw (subtrees_none b i) refl
bytes_f zero b i (suc k) l h = absurd (omega arith)
bytes_f (suc f) b i zero l h = rw (subtrees_none b i) refl
bytes_f (suc f) b i (suc k) l h =
    let s : ℕ = span_in b i (suc k) in
    let p : 0 < s = span_pos b i (suc k) (omega arith) in
    let q : s ≤ suc k = span_le b i (suc k) in
    let all : 1 + (s - 1 + (suc k - s)) ≡ suc k = omega arith in
    let next : i + 1 + (s - 1) ≡ i + s = omega arith in
    let x = slice_add b i 1 (s - 1 + (suc k - s)) in
    let y = slice_add b (i + 1) (s - 1) (suc k - s) in
    rw (
      subtrees_step b i (suc k) (omega arith),
      slice_record b i (omega arith),
      bytes_f f b (i + 1) (s - 1) (omega arith) (omega arith),
      bytes_f f b (i + s) (suc k - s) (omega arith) (omega arith),
    ) (sym (rw (y, next, all) at x))

-- records that are there, read as subtrees and written
pub bytes_slice : (b : List ℕ) (i left : ℕ) → (i + left) * size ≤ length b → bytes_of (subtrees_of b i left) ≡ slice_of b i left
bytes_slice b i left h = bytes_f left b i left (omega arith) h

pub read_is_written_back : ReadIsWrittenBack
unfolding slice_of
read_is_written_back b n l = bytes_slice b 0 n (omega arith) ∙ take_all (n * size) b (omega arith)
