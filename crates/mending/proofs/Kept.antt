-- A mended book keeps every rule; a sound one comes back as it was; so mending twice changes nothing more. Assumes nothing.
use mathlib.Core.Path.{◌≡◌, refl, sym, ap, ◌∙◌}
use mathlib.Core.Bool.{true}
use mathlib.Core.List.{List, []}
use mathlib.Core.Logic.{⊎_elim}
use Prim.Native.Nat.{ℕ, suc, ◌+◌, ◌-◌, ◌*◌, ◌/◌, ◌%◌, ◌≤◌, ◌<◌}
use native.Mathlib.Omega.{arith}
use lib.ListN.{length, get_or, set, length-set, get_or-append}
use lib.Seq.{get_or-set_same, get_or-set_other}
use borrow.Author.Tests.{eq-eqb}
use Rattle.record.specs.Choose.{among}
use Rattle.record.specs.Bytes.{size, span_of}
use Rattle.record.proofs.Forests.{span_stated}
use Rattle.fields.specs.Fields.{kind_at, field_ok}
use Rattle.fields.specs.declared.Kind.{Kind}
use Rattle.placement.specs.Place.{kind_number}
use Rattle.placement.specs.Keeps.{Keeps}
use Rattle.judge.proofs.Sound.{top_kept}
use Rattle.structure.specs.Subtrees.{Subtrees, record_count, record_at, subtrees_of, bytes_of, with_span, SameRecord, SameButSpan}
use Rattle.structure.specs.Sound.{Parent, line_one, sound, sound_book, sound_at}
use Rattle.structure.proofs.Records.{policy_kind, record_bytes, record_length, span_same, parts_record, kind_same, line_same}
use Rattle.structure.proofs.Subtrees.{count_subtrees}
use Rattle.structure.proofs.Accepted.{kept_below}
use Rattle.structure.proofs.Parts.{parts_book}
use Rattle.structure.proofs.Spanned.{any_span, fields_kept, with_length, with_span_lem, with_same}
use Rattle.structure.proofs.Written.{written_is_kept, sound_is_accepted, sound_is_read_back, read_is_written_back}
use Rattle.spoilt.specs.Spoilt.{is_set}
use Rattle.spoilt.proofs.Trees.{spoilt_none}
use Rattle.mending.specs.Mending.{mended, Replacement, Mended, headed, salvage_of}
use Rattle.mending.specs.Claims.{MendedIsKept, SoundIsLeft, MendedOnce}
use Rattle.mending.proofs.Mended.{one_tree, headed_count, headed_bytes, mended_sound, count_mended, sound_stays, none_replaced}
use Rattle.mending.proofs.Answers.{no_line_spoilt, Answer, answer}

-- line 1 with another span
module _ (b : List ℕ) (s : ℕ) where
  abbrev head : List ℕ
  head = with_span (record_at b 0) s

  head_length : length head ≡ size
  head_length = with_length (record_at b 0) s ∙ record_length b 0

  head_span : span_of head 0 ≡ s
  head_span = with_span_lem (record_at b 0) s (record_length b 0)

  head_same : SameButSpan b 0 head 0
  unfolding with_span
  head_same k l x y =
      let r : List ℕ = record_at b 0 in
      let q : 0 * size + k ≡ k = omega arith in
      sym (record_bytes b 0 k l) ∙ sym (rw q (get_or-set_other (set r 2 (s / 256)) 3 k (s % 256) 0 y ∙ get_or-set_other r 2 k (s / 256) 0 x))

  head_small : get_or head 3 0 < 256
  unfolding with_span
  head_small =
      let r : List ℕ = record_at b 0 in
      let z = get_or-set_same (set r 2 (s / 256)) 3 (s % 256) 0 (omega (arith, length-set r 2 (s / 256), record_length b 0)) in
      omega (arith, z)

-- a set or a policy may state any span
any_span_lem : (k : Kind) → among 1 2 (kind_number k) ≡ true → any_span k ≡ true
any_span_lem k a = ⊎_elim (ap any_span) (ap any_span) (policy_kind k a)

-- a book headed by line 1 of b
module _ (b : List ℕ) (kids : Subtrees) where
  abbrev top : List ℕ
  top = head b (suc (record_count kids))

  -- where line 1 is a set, it is sound where its children are
  headed_sound : field_ok b 0 ≡ true → kind_number (kind_at b 0) ≡ 1 → sound (line_one b) 0 kids ≡ true → sound_book (headed (record_at b 0) kids) ≡ true
  unfolding headed
  headed_sound f k x =
      let s : ℕ = suc (record_count kids) in
      let same : SameButSpan b 0 top 0 = head_same b s in
      let a : among 1 2 (kind_number (kind_at b 0)) ≡ true = rw k refl in
      let span = head_span b s in
      let fields = fields_kept b 0 top 0 same (any_span_lem (kind_at b 0) a) f (omega (arith, span)) in
      parts_book top kids (parts_record top (record_count kids) (head_length b s) (record { fields = fields; span = span }))
      (rw (kind_same b 0 top 0 same) at a) (rw (line_same b top same) at x)

  -- its first record is line 1
  headed_same : SameRecord (bytes_of (headed (record_at b 0) kids)) 0 top 0
  headed_same k l =
      let q : 0 * size + k ≡ k = omega arith in
      rw (q, headed_bytes (record_at b 0) kids) (get_or-append top (bytes_of kids) 0 k (omega (arith, head_length b (suc (record_count kids)))))

  headed_small : get_or (bytes_of (headed (record_at b 0) kids)) 3 0 < 256
  headed_small = omega (arith, headed_same 3 (omega arith), head_small b (suc (record_count kids)))

  headed_kind : kind_at (bytes_of (headed (record_at b 0) kids)) 0 ≡ kind_at b 0
  headed_kind =
      sym (kind_same b 0 (bytes_of (headed (record_at b 0) kids)) 0 (λ k l x y. head_same b (suc (record_count kids)) k l x y ∙ sym (headed_same k l)))

-- a mended book is sound, and no longer than it was
book_sound : (b : List ℕ) (n : ℕ) (x : Subtrees) (xs : List Replacement) → Answer b n x xs → sound_book x ≡ true
book_sound b n x xs w =
    let kids : Subtrees = subtrees_of b 1 (n - 1) in
    rw w.tree at (headed_sound b (mended (line_one b) kids) w.set.fields w.set.number (mended_sound (line_one b) w.set.number refl 0 kids w.none_spoilt))

book_count : (b : List ℕ) (n : ℕ) (x : Subtrees) (xs : List Replacement) → 1 ≤ n → Answer b n x xs → record_count x ≤ n
book_count b n x xs l w =
    let kids : Subtrees = subtrees_of b 1 (n - 1) in
    let c = headed_count (record_at b 0) (mended (line_one b) kids) in
    let d = count_mended (line_one b) kids in
    let g = count_subtrees b 1 (n - 1) in
    let q : record_count (headed (record_at b 0) (mended (line_one b) kids)) ≤ n = omega (arith, c, d, g, l) in
    rw w.tree at q

pub mended_is_kept : MendedIsKept
mended_is_kept b n sz x xs e =
    let w = answer b n x xs e in
    let s = book_sound b n x xs w in
    let c = book_count b n x xs sz.some w in
    let m = sz.most in
    (written_is_kept x s (omega arith), sound_is_accepted x s (omega arith), c)

-- a book that keeps the rules, with a set on line 1, is left as it is
left : (b : List ℕ) (n : ℕ) → get_or b 3 0 < 256 → Keeps b n → kind_number (kind_at b 0) ≡ 1 → salvage_of b n ≡ Mended (subtrees_of b 0 n) []
unfolding is_set headed sound_at
left b n small k a =
    let u : Parent = line_one b in
    let r : List ℕ = record_at b 0 in
    let kids : Subtrees = subtrees_of b 1 (n - 1) in
    let w = kept_below b n k in
    let span : span_of b 0 ≡ n = (top_kept b n k.sized w.place).1 in
    let some = k.sized.some in
    let c : record_count kids ≡ n - 1 = count_subtrees b 1 (n - 1) in
    let all : suc (record_count kids) ≡ n = omega arith in
    let same : with_span r n ≡ r = with_same r n (span_same r 0 b 0 (record_bytes b 0) ∙ span) (omega (arith, record_bytes b 0 3 (omega arith), small)) in
    let set : is_set b n ≡ true = rw (w.fields, eq-eqb (kind_number (kind_at b 0)) 1 a, eq-eqb (span_of b 0) n span) refl in
    let tree = one_tree b 0 n some (rw span at (span_stated b 0 n (omega arith) (omega arith))) in
    no_line_spoilt b n set (omega (arith, spoilt_none u 0 kids w.sound, c))
    ∙ rw (sound_stays u 0 kids w.sound, none_replaced u 0 2 kids w.sound, all, same, tree) refl

pub sound_is_left : SoundIsLeft
sound_is_left b n small k a = (left b n (small 3) k a, read_is_written_back b n k.sized.bytes)

-- what is mended is such a book
pub mended_once : MendedOnce
mended_once b n sz x xs e =
    let w = answer b n x xs e in
    let kids : Subtrees = mended (line_one b) (subtrees_of b 1 (n - 1)) in
    let back = sound_is_read_back x (book_sound b n x xs w) in
    rw back at (left (bytes_of x) (record_count x) (rw (← w.tree) (headed_small b kids)) (mended_is_kept b n sz x xs e).0
    (rw (← w.tree, headed_kind b kids) w.set.number))
