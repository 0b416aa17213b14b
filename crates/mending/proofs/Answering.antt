-- What `salvage` answers, return by return, and what it leaves in the lent outputs. Assumes nothing.
use Rattle.std.specs.Prelude.{Err}
use mathlib.Core.Path.{◌≡◌, refl, sym, ◌∙◌}
use mathlib.Core.Bool.{Bool, true, false}
use mathlib.Core.List.{List, [], ◌∷◌, ◌++◌, append_assoc}
use Prim.Native.Nat.{ℕ, suc, ◌+◌, ◌-◌, ◌*◌, ◌/◌, ◌%◌, ◌≤◌, ◌<◌}
use native.Mathlib.Omega.{arith}
use lib.ListN.{length, set, drop, length-append, length-set}
use lib.Seq.{set-append_left}
use borrow.Author.Tests.{lt-ltb, le-ltb, ne_eqb}
use Rattle.record.specs.Bytes.{size, most_records, byte_of}
use Rattle.record.specs.Stored.{stored}
use Rattle.record.specs.Refusals as refusals
use Rattle.record.specs.Refusals.{no_record, cut_short, too_many, no_room, spoilt}
use Rattle.record.specs.declared.Refusal.{Refusal}
use Rattle.record.proofs.Stored.{stored_then, stored_pair, stored_first}
use Rattle.placement.specs.Keeps.{Sized}
use Rattle.judge.proofs.Exactly.{sized_is}
use Rattle.structure.specs.Subtrees.{Subtrees, record_count, record_at, subtrees_of, bytes_of, with_span, slice_of}
use Rattle.structure.specs.Sound.{line_one}
use Rattle.structure.proofs.Records.{record_length}
use Rattle.structure.proofs.Spanned.{with_length}
use Rattle.structure.proofs.Written.{slice_record}
use Rattle.spoilt.specs.Spoilt.{first_spoilt, is_set}
use Rattle.spoilt.specs.Places.{parent, spoilt_at}
use Rattle.mending.specs.Mending.{mended, Replacement, replacements, Mended, Spoilt, headed, salvage_of}
use Rattle.mending.specs.Places.{mended_from, replaced_from}
use Rattle.mending.specs.Salvaged.{answer_by, answer_of, bytes_of_all, records_in, replaced_in, leaves, mended_out, replaced_out, Salvaged, mended_with}
use Rattle.mending.proofs.Mended.{headed_count, headed_bytes}
use Rattle.mending.proofs.Answers.{not_set, line_spoilt, no_line_spoilt, whole_set}
use Rattle.mending.proofs.Kept.{mended_is_kept}
use Rattle.mending.proofs.Mending.{bytes_long}

-- line 1, a set, as a parent by its numbers, and the first line below it that is spoilt
module _ (b : List ℕ) (n : ℕ) {c x : ℕ} (e : is_set b n ≡ true) (some : 1 ≤ n) (ec : c ≡ byte_of b 0 4) (ex : x ≡ spoilt_at (parent 1 1 c c) 0 b 1 (n - 1)) where
  line_one_lem : line_one b ≡ parent 1 1 c c
  line_one_lem = rw ((whole_set b n e).number, ec) refl

  first_is : x ≡ 1 + first_spoilt (line_one b) 0 (subtrees_of b 1 (n - 1))
  unfolding spoilt_at
  first_is = rw line_one_lem ex

  is_spoilt : x < n → salvage_of b n ≡ Spoilt (x + 1)
  is_spoilt l =
      let q : first_spoilt (line_one b) 0 (subtrees_of b 1 (n - 1)) + 2 ≡ x + 1 = omega (arith, first_is) in
      rw (← q) (line_spoilt b n e refl (omega (arith, first_is)))

  is_mended : n ≤ x
      → salvage_of b n ≡ Mended (headed (record_at b 0) (mended (parent 1 1 c c) (subtrees_of b 1 (n - 1)))) (replacements (parent 1 1 c c) 2 (subtrees_of b 1 (n - 1)))
  is_mended l = rw (← line_one_lem) (no_line_spoilt b n e (omega (arith, first_is)))

-- what is answered, and what the outputs then hold; o and p are what was lent
abbrev pub Answered : List ℕ → ℕ → List ℕ → List ℕ → Salvaged → List ℕ → List ℕ → Type 0
Answered b n o p a l q =
    (a ≡ answer_by (salvage_of b n) n (length o) (length p))
    × (l ≡ leaves a (records_in (salvage_of b n)) o)
    × (q ≡ leaves a (replaced_in (salvage_of b n)) p)

module _ (b : List ℕ) (n : ℕ) (o p : List ℕ) where
  refused : (r : Refusal) → answer_by (salvage_of b n) n (length o) (length p) ≡ Err r → Answered b n o p (Err r) o p
  unfolding leaves
  refused r e = (sym e, refl, refl)

  pub answer_not_set : {t : Bool} → t ≡ is_set b n → t ≡ false → Answered b n o p (Err (spoilt 1)) o p
  unfolding answer_by
  answer_not_set et z = refused (spoilt 1) (rw (not_set b n (sym et ∙ z)) refl)

  module _ {t : Bool} {c x : ℕ} (et : t ≡ is_set b n) (z : t ≡ true) (some : 1 ≤ n) (ec : c ≡ byte_of b 0 4) (ex : x ≡ spoilt_at (parent 1 1 c c) 0 b 1 (n - 1)) where
    pub answer_spoilt : x < n → Answered b n o p (Err (spoilt (x + 1))) o p
    unfolding answer_by
    answer_spoilt l = refused (spoilt (x + 1)) (rw (is_spoilt b n (sym et ∙ z) some ec ex l) refl)

    module _ (l : n ≤ x) where
      pub answer_short : length b ≡ n * size → length o < length b → Answered b n o p (Err no_room) o p
      unfolding answer_by
      answer_short long h = refused no_room (rw (is_mended b n (sym et ∙ z) some ec ex l, lt-ltb (length o) (n * size) (omega arith)) refl)

      pub answer_few : length b ≡ n * size → length b ≤ length o → length p < n * 2 → Answered b n o p (Err no_room) o p
      unfolding answer_by
      answer_few long h k =
          refused no_room (rw (is_mended b n (sym et ∙ z) some ec ex l, le-ltb (length o) (n * size) (omega arith), lt-ltb (length p) (n * 2) k) refl)

-- line 1, what is mended, and then line 1's span
module _ (o r ys : List ℕ) (k : ℕ) (long : length r ≡ size) (fits : size + length ys ≤ length o) where
  whole : stored (stored o 0 r) size ys ≡ r ++ (ys ++ drop (length (r ++ ys)) o)
  whole =
      let z = length-append r ys in
      let e : 0 + size ≡ size = omega arith in
      rw e at (sym (stored_then o r ys 0 size long)) ∙ stored_first o (r ++ ys) (omega (arith, z)) ∙ append_assoc r ys _

  spanned_first : stored (stored (stored o 0 r) size ys) 2 (k / 256 ∷ k % 256 ∷ []) ≡ (with_span r k ++ ys) ++ drop (length (with_span r k ++ ys)) o
  unfolding with_span
  spanned_first =
      let t : List ℕ = ys ++ drop (length (r ++ ys)) o in
      let one : List ℕ = set r 2 (k / 256) in
      let two : List ℕ = set one 3 (k % 256) in
      let l1 = length-set r 2 (k / 256) in
      let l2 = length-set one 3 (k % 256) in
      let same : length (two ++ ys) ≡ length (r ++ ys) = omega (arith, length-append two ys, length-append r ys, l1, l2) in
      sym (stored_pair _ 2 (k / 256) (k % 256))
      ∙ rw (whole, set-append_left r t 2 (k / 256) (omega arith), set-append_left one t 3 (k % 256) (omega (arith, l1)), same) (sym (append_assoc two ys _))

-- what is mended is stored whole
module _ (b : List ℕ) (n : ℕ) (o p : List ℕ) (sized : Sized b n) {t : Bool} {c x : ℕ} (et : t ≡ is_set b n) (z : t ≡ true) (ec : c ≡ byte_of b 0 4)
    (ex : x ≡ spoilt_at (parent 1 1 c c) 0 b 1 (n - 1)) (l : n ≤ x) where
  abbrev below : Subtrees
  below = mended (parent 1 1 c c) (subtrees_of b 1 (n - 1))

  abbrev book : Subtrees
  book = headed (record_at b 0) below

  is_book : salvage_of b n ≡ Mended book (replacements (parent 1 1 c c) 2 (subtrees_of b 1 (n - 1)))
  is_book = is_mended b n (sym et ∙ z) sized.some ec ex l

  records_long : record_count book * size ≡ size + length (mended_from b n c 1)
  unfolding mended_from
  records_long =
      let r : List ℕ = record_at b 0 in
      let s : ℕ = suc (record_count below) in
      let k = (mended_is_kept b n sized _ _ is_book).0.sized.bytes in
      let e : length (bytes_of book) ≡ length (with_span r s) + length (bytes_of below) = rw (headed_bytes r below) (length-append (with_span r s) (bytes_of below)) in
      omega (arith, k, e, with_length r s, record_length b 0)

  pub answer_done : {k m : ℕ} {l1 l2 l3 q : List ℕ} → length b ≤ length o → n * 2 ≤ length p → l1 ≡ stored o (0 * size) (slice_of b 0 1)
      → l2 ≡ stored l1 size (mended_from b n c 1) → k * size ≡ size + length (mended_from b n c 1)
      → q ≡ stored p 0 (bytes_of_all (replaced_from b n c 1)) → m ≡ length (replaced_from b n c 1) → k ≤ n → m * 2 ≤ n
      → l3 ≡ stored l2 2 (k / 256 ∷ k % 256 ∷ []) → Answered b n o p (mended_with k m) l3 q
  unfolding answer_by leaves records_in replaced_in mended_from replaced_from
  answer_done {k} {m} fits few e1 e2 ek eq em most half e3 =
      let r : List ℕ = record_at b 0 in
      let count : record_count book ≡ k = omega (arith, records_long, ek) in
      let all : k ≡ suc (record_count below) = omega (arith, count, headed_count r below) in
      let xs : List Replacement = replacements (parent 1 1 c c) 2 (subtrees_of b 1 (n - 1)) in
      let long = sized.bytes in
      let same : bytes_of book ≡ with_span r k ++ bytes_of below = rw (headed_bytes r below, ← all) refl in (
        rw (is_book, le-ltb (length o) (n * size) (omega arith), le-ltb (length p) (n * 2) few, count, em) refl,
        rw (is_book, same, e3, e2, e1, ← slice_record b 0 (omega arith)) (spanned_first o r (bytes_of below) k (record_length b 0) (omega arith)),
        rw (is_book, eq) (stored_first p (bytes_of_all xs) (omega (arith, bytes_long xs, em))),
      )

-- by the length of the bytes: 3, 4, 2, and then by the records
abbrev pub Salvages : List ℕ → List ℕ → List ℕ → Salvaged → List ℕ → List ℕ → Type 0
Salvages b o p a l q = (a ≡ answer_of b (length o) (length p)) × (l ≡ mended_out b a o) × (q ≡ replaced_out b a p)

module _ (b o p : List ℕ) where
  pub salvages_none : length b ≡ 0 → Salvages b o p (Err (no_record refusals.book)) o p
  unfolding answer_of mended_out replaced_out leaves
  salvages_none e = (rw e refl, refl, refl)

  module _ (some : length b ≡ 0 → ⊥) where
    pub salvages_cut : (length b % size ≡ 0 → ⊥) → Salvages b o p (Err (cut_short refusals.book)) o p
    unfolding answer_of mended_out replaced_out leaves
    salvages_cut c = (rw (ne_eqb (length b) 0 some, lt-ltb 0 (length b % size) (omega arith)) refl, refl, refl)

    pub salvages_many : length b % size ≡ 0 → most_records * size < length b → Salvages b o p (Err (too_many refusals.book)) o p
    unfolding answer_of mended_out replaced_out leaves
    salvages_many c m =
        (rw (ne_eqb (length b) 0 some, le-ltb 0 (length b % size) (omega arith), lt-ltb (most_records * size) (length b) m) refl, refl, refl)

-- bytes of the right length are answered by their records
pub sized_answer : (b : List ℕ) (n room places : ℕ) → Sized b n → answer_of b room places ≡ answer_by (salvage_of b n) n room places
unfolding answer_of
sized_answer b n room places s =
    let bytes = s.bytes in
    let some = s.some in
    let most = s.most in
    let q : length b / size ≡ n = omega arith in
    rw (ne_eqb (length b) 0 (λ z. omega arith), le-ltb 0 (length b % size) (omega arith), le-ltb (most_records * size) (length b) (omega arith), q) refl

pub salvages : (b o p : List ℕ) {a : Salvaged} {l q : List ℕ} → (length b ≡ 0 → ⊥) → length b % size ≡ 0 → length b ≤ most_records * size
    → Answered b (length b / size) o p a l q → Salvages b o p a l q
unfolding mended_out replaced_out
salvages b o p some c m w = (w.0 ∙ sym (sized_answer b (length b / size) (length o) (length p) (sized_is b some c m)), w.1, w.2)
