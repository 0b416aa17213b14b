-- What stands first in the lent outputs: the lines of replacements and of a refusal, and the text of a mended book. Assumes nothing.
use Rattle.std.specs.Prelude.{Ok}
use Rattle.std.specs.Result.{result_unwrap_or}
use mathlib.Core.Path.{◌≡◌, refl, sym, ap, ◌∙◌}
use mathlib.Core.List.{List, [], ◌∷◌, ◌++◌}
use Prim.Native.Nat.{ℕ, suc, ◌+◌, ◌-◌, ◌*◌, ◌/◌, ◌%◌, ◌≤◌, ◌<◌}
use native.Mathlib.Omega.{arith}
use borrow.Author.Tests.{ne_eqb, le-ltb}
use lib.ListN.{length, take, drop, get_or, set, length-append, length-take}
use lib.Seq.{take_at, length-take-le, drop-drop, get_or-drop}
use Rattle.record.specs.Bytes.{size, most_records, big_of}
use Rattle.record.specs.Stored.{stored}
use Rattle.record.specs.Table.{tab}
use Rattle.record.specs.declared.Refusal.{Refusal}
use Rattle.record.proofs.Stored.{stored_then, stored_one, stored_none, stored_first}
use Rattle.record.proofs.Table.{length_tab}
use Rattle.text.specs.Text.{book, line_length, read_of, byte_at, write_of, text_at, output_after, Filled}
use Rattle.text.specs.Wrong.{zeroed}
use Rattle.text.proofs.Accepted.{filled_first}
use Rattle.line.specs.Line.{hex_of, refusal_line, places_of, put}
use Rattle.line.proofs.Laws.{length_hex, length_refusal, put_found, places_fits}
use Rattle.structure.specs.Subtrees.{Subtrees, record_count, bytes_of}
use Rattle.mending.specs.Mending.{Replacement, Mended, salvage_of}
use Rattle.mending.specs.Salvaged.{answer_of, bytes_of_all, records_in, replaced_in, leaves, mended_out, replaced_out, Salvaged, mended_with}
use Rattle.mending.proofs.Kept.{mended_is_kept}
use Rattle.mending.proofs.Caller.{Told, told_other, told_line, told_mended, told, not_mended, same_counts}
use Rattle.mending.proofs.Mending.{bytes_long}
use Rattle.salvage.specs.Salvage.{lines_of, Said, refuses, replaced_by, said_by, said_of, read_by, said}
use Rattle.salvage.specs.Places.{replacements_at, First}

-- the line of a replacement is stored, and then the lines after it
line_stored : (l : List ℕ) (at : ℕ) (x : Replacement) (xs : List Replacement)
    → stored l at (lines_of (x ∷ xs)) ≡ stored (set (stored (stored l at (hex_of 4 x.line)) (at + 4) (hex_of 4 x.lines)) (at + 8) 10) (at + 9) (lines_of xs)
unfolding lines_of
line_stored l at x xs =
    let e : at + 4 + 4 ≡ at + 8 = omega arith in
    let f : at + 8 + 1 ≡ at + 9 = omega arith in
    stored_then l (hex_of 4 x.line) _ at 4 (length_hex 4 x.line)
    ∙ stored_then _ (hex_of 4 x.lines) (10 ∷ lines_of xs) (at + 4) 4 (length_hex 4 x.lines)
    ∙ rw e (stored_then _ (10 ∷ []) (lines_of xs) (at + 8) 1 refl ∙ rw (f, stored_one _ (at + 8) 10))

-- one line more, and none
pub lines_more : (l b : List ℕ) (i m : ℕ) {x y : ℕ} {l1 l2 : List ℕ} → i < m → x ≡ big_of b (i * 4) 2 → y ≡ big_of b (i * 4 + 2) 2
    → l1 ≡ stored l (i * 9) (hex_of 4 x) → l2 ≡ stored l1 (i * 9 + 4) (hex_of 4 y)
    → stored (set l2 (i * 9 + 8) 10) ((i + 1) * 9) (lines_of (replacements_at b (i + 1) (m - (i + 1)))) ≡ stored l (i * 9) (lines_of (replacements_at b i (m - i)))
unfolding replacements_at
lines_more l b i m h ex ey e1 e2 =
    let e : m - i ≡ suc (m - (i + 1)) = omega arith in
    let f : (i + 1) * 9 ≡ i * 9 + 9 = omega arith in
    rw (e, f, e2, e1, ex, ey) (sym (line_stored l (i * 9) _ _))

pub lines_end : (l b : List ℕ) (at i m : ℕ) → m ≤ i → l ≡ stored l at (lines_of (replacements_at b i (m - i)))
unfolding lines_of replacements_at
lines_end l b at i m h =
    let e : m - i ≡ 0 = omega arith in
    rw e (sym (stored_none l at))

-- what is taken from the front is there
first : (n : ℕ) {l xs : List ℕ} → length xs ≡ n → take n l ≡ xs → First n l xs
first n {l} long e = record { inside = omega (arith, length-take n l, ap length e); are = e }

-- the line of a refusal stands first
pub refusal_first : (r : Refusal) (l : List ℕ) {later : List ℕ} {n : ℕ} → 11 ≤ length l → n ≡ places_of (refusal_line r) (length l) → later ≡ put (refusal_line r) l
    → First n later (refusal_line r)
refusal_first r l {n = n} h p q =
    let fits : length (refusal_line r) ≤ length l = omega (arith, length_refusal r) in
    first n (places_fits (refusal_line r) (length l) fits ∙ sym p) (rw (p, q) (put_found (refusal_line r) l fits))

-- as many records as a book may have are written, and their text stands first
module _ (records out : List ℕ) (n : ℕ) {a : Filled} (some : 1 ≤ n) (few : n ≤ most_records) (long : n * size ≤ length records)
    (room : line_length size * most_records ≤ length out) (write : a ≡ write_of book (take (n * size) records) (length out)) where
  written : a ≡ Ok (line_length size * n)
  unfolding write_of
  written =
      let r : List ℕ = take (n * size) records in
      let whole : length r ≡ n * size = length-take-le (n * size) records long in
      let count : length r / size ≡ n = omega arith in
      write
      ∙ rw (count, ne_eqb (length r) 0 (omega arith), le-ltb 0 (length r % size) (omega arith), le-ltb most_records n few, le-ltb (length out) (line_length size * n) (omega arith)) refl

  pub text_first : {m : ℕ} {later : List ℕ} → later ≡ output_after (text_at (take (n * size) records)) a out → m ≡ result_unwrap_or a 0
      → First m later (tab (text_at (take (n * size) records)) (line_length size * n))
  text_first {m} left p =
      let f : ℕ → ℕ = text_at (take (n * size) records) in
      let q : m ≡ line_length size * n = rw written at p in
      let e : a ≡ Ok m = written ∙ ap Ok (sym q) in
      rw (← q) (first m (length_tab f m) (filled_first f out m left e))

-- what salvage leaves in the lent outputs where it mends a book: the k records of x, and the m replacements xs
pub record Leaves (b o p l q : List ℕ) (k m : ℕ) : Type 0 where
  pub x : Subtrees
  pub xs : List Replacement
  pub answer : answer_of b (length o) (length p) ≡ mended_with k m
  pub is : salvage_of b (length b / size) ≡ Mended x xs
  pub some : 1 ≤ k
  pub few : k ≤ most_records
  pub long : length (bytes_of x) ≡ k * size
  pub count : length xs ≡ m
  pub records : l ≡ bytes_of x ++ drop (length (bytes_of x)) o
  pub replaced : q ≡ bytes_of_all xs ++ drop (length (bytes_of_all xs)) p

module _ (b o p : List ℕ) (k m : ℕ) {a : Salvaged} {l q : List ℕ} (answered : a ≡ answer_of b (length o) (length p))
    (left : l ≡ mended_out b a o) (says : q ≡ replaced_out b a p) (done : a ≡ mended_with k m) where
  pub was_mended : Leaves b o p l q k m
  unfolding mended_out replaced_out records_in replaced_in leaves
  was_mended = go (told b (length o) (length p))
    where
      answer : answer_of b (length o) (length p) ≡ mended_with k m
      answer = sym answered ∙ done

      go : Told b (length b / size) (answer_of b (length o) (length p)) → Leaves b o p l q k m
      go (told_other r e n' p' z) = not_mended (sym e ∙ answer)
      go (told_line line e sized is) = not_mended (sym e ∙ answer)
      go (told_mended x xs e sized is) =
          let z = same_counts (record_count x) (length xs) k m (sym e ∙ answer) in
          let kept = (mended_is_kept b (length b / size) sized x xs is).0.sized in
          record {
            x = x;
            xs = xs;
            answer = answer;
            is = is;
            some = rw (← z.0) kept.some;
            few = rw (← z.0) kept.most;
            long = rw (← z.0) kept.bytes;
            count = z.1;
            records = rw (left, done, is) refl;
            replaced = rw (says, done, is) refl;
          }

-- a number is read back from its two bytes, and replacements from four each
number_back : (q : List ℕ) (at j v : ℕ) {t : List ℕ} → drop at q ≡ t → get_or t j 0 ≡ v / 256 → get_or t (j + 1) 0 ≡ v % 256 → big_of q (at + j) 2 ≡ v
unfolding big_of
number_back q at j v e f g =
    let upper : get_or q (at + j) 0 ≡ v / 256 = sym (get_or-drop at q j 0) ∙ ap (λ (l : List ℕ). get_or l j 0) e ∙ f in
    let lower : get_or q (at + (j + 1)) 0 ≡ v % 256 = sym (get_or-drop at q (j + 1) 0) ∙ ap (λ (l : List ℕ). get_or l (j + 1) 0) e ∙ g in
    let z : at + j + 0 ≡ at + j = omega arith in
    let w : at + j + 1 ≡ at + (j + 1) = omega arith in
    rw (z, w) (omega (arith, upper, lower))

replaced_back : (q rest : List ℕ) (i : ℕ) (xs : List Replacement) → drop (i * 4) q ≡ bytes_of_all xs ++ rest → replacements_at q i (length xs) ≡ xs
unfolding replacements_at bytes_of_all
replaced_back q rest i [] e = refl
replaced_back q rest i (x ∷ xs) e =
    let start : i * 4 + 0 ≡ i * 4 = omega arith in
    let next : (i + 1) * 4 ≡ i * 4 + 4 = omega arith in
    let line : big_of q (i * 4) 2 ≡ x.line = rw start at (number_back q (i * 4) 0 x.line e refl refl) in
    let lines : big_of q (i * 4 + 2) 2 ≡ x.lines = number_back q (i * 4) 2 x.lines e refl refl in
    let others = replaced_back q rest (i + 1) xs (rw next (sym (drop-drop 4 (i * 4) q) ∙ ap (drop 4) e)) in
    rw (line, lines, others) refl

length_lines : (xs : List Replacement) → length (lines_of xs) ≡ length xs * 9
unfolding lines_of
length_lines [] = refl
length_lines (x ∷ xs) =
    let z = length-append (hex_of 4 x.line) (hex_of 4 x.lines ++ (10 ∷ lines_of xs)) in
    let w = length-append (hex_of 4 x.lines) (10 ∷ lines_of xs) in
    omega (arith, z, w, length_hex 4 x.line, length_hex 4 x.lines, length_lines xs)

-- what is said of a book's records, by what salvage answers
pub said_by_lem : (b o p : List ℕ) {x : Salvaged} → length o ≡ size * most_records → length p ≡ 2 * most_records → answer_of b (length o) (length p) ≡ x → said_of b ≡ said_by b x
unfolding said_of
said_by_lem b o p long half e = rw (← long, ← half) (ap (said_by b) e)

-- the text and the lines fit their outputs, and are what is said
module _ {b o p l q : List ℕ} {k m : ℕ} (w : Leaves b o p l q k m) where
  pub text_fits : (1 ≤ k) × (k ≤ most_records) × (k * size ≤ length l)
  text_fits = (w.some, w.few, omega (arith, ap length w.records, length-append (bytes_of w.x) (drop (length (bytes_of w.x)) o), w.long))

  text_is : take (k * size) l ≡ records_in (salvage_of b (length b / size))
  unfolding records_in
  text_is = rw (w.records, w.is) (take_at (bytes_of w.x) _ (k * size) w.long)

  lines_are : lines_of (replacements_at q 0 m) ≡ lines_of (replaced_by (salvage_of b (length b / size)))
  lines_are = rw (← w.count, w.is) (ap lines_of (replaced_back q _ 0 w.xs w.replaced))

  module _ (half : length p ≡ 2 * most_records) (same : length q ≡ length p) (lent : List ℕ) (room : 9 * most_records / 2 ≤ length lent) where
    pub lines_fit : (m * 4 ≤ length q) × (m * 9 ≤ length lent)
    lines_fit =
        let z : m * 4 ≤ length q = omega (arith, ap length w.replaced, length-append (bytes_of_all w.xs) (drop (length (bytes_of_all w.xs)) p), bytes_long w.xs, w.count) in
        (z, omega arith)

    lines_first : {n : ℕ} {printed : List ℕ} → n ≡ m * 9 → printed ≡ stored lent 0 (lines_of (replacements_at q 0 m))
        → First n printed (lines_of (replaced_by (salvage_of b (length b / size))))
    lines_first {n} en e =
        let lines : List ℕ = lines_of (replaced_by (salvage_of b (length b / size))) in
        let long : length lines ≡ n = rw w.is (omega (arith, length_lines w.xs, w.count)) in
        first n long (rw (e, lines_are, stored_first lent lines (omega (arith, lines_fit.1))) (take_at lines _ n long))

    pub mended_says : {f n : ℕ} {out printed : List ℕ} → length o ≡ size * most_records → First f out (tab (text_at (take (k * size) l)) (line_length size * k))
        → n ≡ m * 9 → printed ≡ stored lent 0 (lines_of (replacements_at q 0 m)) → (First f out (said_of b).file) × (First n printed (said_of b).printed)
    mended_says long text en lines = rw (said_by_lem b o p long half w.answer) (rw text_is at text, lines_first en lines)

-- a refusal says its line
pub refused_says : (r : Refusal) (s : Said) {f n : ℕ} {out printed : List ℕ} → s ≡ refuses (refusal_line r) → f ≡ 0 → First n printed (refusal_line r)
    → (First f out s.file) × (First n printed s.printed)
refused_says r s e z h = rw (e, z) (record { inside = omega arith; are = refl }, h)

-- what is said of a book's text, by what reading answers
module _ (s records : List ℕ) {a : Filled} {t : List ℕ} (long : length records ≡ size * most_records) (zeros : t ≡ zeroed s) (read : a ≡ read_of book t (length records)) where
  pub read_by_lem : {x : Filled} → a ≡ x → said s ≡ read_by t x
  unfolding said
  read_by_lem e = rw (← zeros, ← long) (ap (read_by t) (sym read ∙ e))

  pub text_read : (m : ℕ) {later : List ℕ} → later ≡ output_after (byte_at t) a records → a ≡ Ok m → said s ≡ said_of (take m later)
  text_read m left e = read_by_lem e ∙ ap said_of (sym (filled_first (byte_at t) records m left e))
