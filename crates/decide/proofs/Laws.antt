-- The printed line, found first in the output. Assumes nothing.
use Rattle.std.specs.Prelude.{Err, Ok}
use mathlib.Core.Path.{◌≡◌, sym, ap, ◌∙◌}
use mathlib.Core.List.{List}
use Prim.Native.Nat.{ℕ, ◌≤◌, ◌*◌}
use native.Mathlib.Omega.{arith}
use lib.ListN.{length, take, length-take}
use Rattle.record.specs.Bytes.{size, most_records, most_entries}
use Rattle.record.specs.declared.Refusal.{Refusal}
use Rattle.record.specs.Table.{tab}
use Rattle.text.specs.Text.{book, request, read_of, byte_at, output_after, Filled}
use Rattle.text.proofs.Accepted.{filled_first}
use Rattle.line.specs.Line.{decision_line, refusal_line, places_of, put, longest}
use Rattle.line.proofs.Laws.{length_refusal, length_decision, put_found, places_fits}
use Rattle.meaning.specs.Meaning.{decision_in}
use Rattle.meaning.specs.Numbers.{number_of}
use Rattle.meaning.specs.declared.Verdict.{Verdict}
use Rattle.decider.specs.Outcome.{duties_of, outcome_of, out_of, Outcome, decided_with}
use Rattle.decider.proofs.Whole.{decided_puts}
use Rattle.decide.specs.Decide.{outcome_line, decided_line, after_request, after_book, printed}

-- the first n of `later` are the line
abbrev pub Stands : List ℕ → List ℕ → ℕ → Type 0
Stands line later n = (n ≤ length later) × (take n later ≡ line)

stands : (line l later : List ℕ) (n : ℕ) → length line ≤ length l → n ≡ places_of line (length l) → later ≡ put line l → Stands line later n
stands line l later n h p q =
    let e : take n later ≡ line = rw (p, q) (put_found line l h) in
    (omega (arith, length-take n later, ap length e, places_fits line (length l) h), e)

pub refusal_stands : (r : Refusal) (l : List ℕ) {line later : List ℕ} {n : ℕ} → longest ≤ length l → n ≡ places_of (refusal_line r) (length l) → later ≡ put (refusal_line r) l
    → refusal_line r ≡ line → Stands line later n
refusal_stands r l {line} {later} {n} h p q e = rw (← e) (stands (refusal_line r) l later n (omega (arith, length_refusal r)) p q)

-- what was decided, and its line
module _ (b q places : List ℕ) {a : Outcome} {after : List ℕ}
    (room : length places ≡ most_records) (outcome : a ≡ outcome_of b q (length places)) (left : after ≡ out_of b q places) where
  line_is : {x : Outcome} → a ≡ x → decided_line b q ≡ outcome_line x (duties_of b q)
  unfolding decided_line
  line_is e = ap (λ (x : Outcome). outcome_line x (duties_of b q)) (ap (outcome_of b q) (sym room) ∙ sym outcome ∙ e)

  pub decided_refused : (r : Refusal) → a ≡ Err r → refusal_line r ≡ decided_line b q
  decided_refused r e = sym (line_is e)

  pub decided_stands : (d : Verdict) (n : ℕ) (l : List ℕ) {x m : ℕ} {later : List ℕ} → a ≡ decided_with d n → x ≡ number_of (decision_in d) → length after ≡ length places → longest ≤ length l
      → m ≡ places_of (decision_line x (take n after)) (length l) → later ≡ put (decision_line x (take n after)) l → Stands (decided_line b q) later m
  decided_stands d n l {x} {m} {later} e number kept h p w =
      let puts = decided_puts b q places outcome e left kept in
      let few : length (duties_of b q) ≤ most_records = omega (arith, length-take n after, ap length puts.1) in
      rw (line_is e)
      (stands (decision_line (number_of (decision_in d)) (duties_of b q)) l later m (omega (arith, length_decision (number_of (decision_in d)) (duties_of b q)))
      (rw (puts.1, number) at p) (rw (puts.1, number) at w))

-- what is printed, by what was read
module _ (text asked records entries : List ℕ) {a : Filled} (long : length records ≡ (size * most_records)) (book-read : a ≡ read_of book text (length records)) where
  after_book_lem : {x : Filled} → a ≡ x → printed text asked ≡ after_book x text asked
  unfolding printed
  after_book_lem e = ap (λ (x : Filled). after_book x text asked) (ap (read_of book text) (sym long) ∙ sym book-read ∙ e)

  pub printed_book : (r : Refusal) → a ≡ Err r → refusal_line r ≡ printed text asked
  unfolding after_book
  printed_book r e = sym (after_book_lem e)

  module _ (n : ℕ) {d : Filled} {later : List ℕ} (book_is : a ≡ Ok n) (book-left : later ≡ output_after (byte_at text) a records)
      (short : length entries ≡ (size * most_entries)) (request-read : d ≡ read_of request asked (length entries)) where
    after_request_lem : {x : Filled} → d ≡ x → printed text asked ≡ after_request x (tab (byte_at text) n) asked
    unfolding after_book
    after_request_lem e = after_book_lem book_is ∙ ap (λ (x : Filled). after_request x (tab (byte_at text) n) asked) (ap (read_of request asked) (sym short) ∙ sym request-read ∙ e)

    pub printed_request : (r : Refusal) → d ≡ Err r → refusal_line r ≡ printed text asked
    unfolding after_request
    printed_request r e = sym (after_request_lem e)

    pub printed_decided : (m : ℕ) {last : List ℕ} → d ≡ Ok m → last ≡ output_after (byte_at asked) d entries → decided_line (take n later) (take m last) ≡ printed text asked
    unfolding after_request
    printed_decided m e left = rw (filled_first (byte_at text) records n book-left book_is, filled_first (byte_at asked) entries m left e) (sym (after_request_lem e))
