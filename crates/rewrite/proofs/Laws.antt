-- A text that is read is written again, in capitals and with 40 digits a line: the round trip, said of what two calls leave in their outputs. Assumes nothing.
use Rattle.std.specs.Prelude.{Err, Ok}
use Rattle.std.specs.Result.{MatchResult}
use mathlib.Core.Path.{◌≡◌, sym, ap, ◌∙◌}
use mathlib.Core.List.{List}
use Prim.Native.Nat.{ℕ, ◌*◌, ◌≤◌}
use native.Mathlib.Omega.{arith}
use lib.ListN.{length, take}
use Rattle.record.specs.declared.Refusal.{Refusal}
use Rattle.record.specs.Table.{tab}
use Rattle.text.specs.Text.{book, line_length, width, read_of, write_of, byte_at, text_at, output_after, Filled}
use Rattle.record.specs.Bytes.{Bytes, size, most_records}
use Rattle.text.specs.RoundTrip.{restored}
use Rattle.text.proofs.Widths.{start_first}
use Rattle.text.proofs.Lined.{judge_lined, Lined}
use Rattle.text.proofs.Accepted.{WasRead, was_read, filled_first, was_written}
use Rattle.text.proofs.RoundTrip.{restored_long, read_is_restored}
use Rattle.line.specs.Line.{refusal_line}
use Rattle.rewrite.specs.Rewrite.{printed, printed_by}

-- what a refusal prints
pub printed_refusal : (s : List ℕ) (room : ℕ) (r : Refusal) {a : Filled} → room ≡ size * most_records → a ≡ read_of book s room → a ≡ Err r → printed s ≡ refusal_line r
unfolding printed printed_by
printed_refusal s room r e p q = ap (λ (x : Filled). printed_by x s) (ap (read_of book s) (sym e) ∙ sym p ∙ q)

write_fits : (r : List ℕ) (room m : ℕ) {a : Filled} → a ≡ write_of book r room → a ≡ Ok m → m ≤ room
write_fits r room m p q = (was_written book r room m (sym p ∙ q)).fits

module _ (s records out : List ℕ) (m : ℕ) {a b : Filled} {later : List ℕ}
    (bytes : Bytes s) (room : line_length size * most_records ≤ length out)
    (read : a ≡ read_of book s (length records)) (left : later ≡ output_after (byte_at s) a records) (done : a ≡ Ok m)
    (write : b ≡ write_of book (take m later) (length out)) where
  again : (write_of book (tab (byte_at s) m) (length out) ≡ Ok (length (restored s))) × (tab (text_at (tab (byte_at s) m)) (length (restored s)) ≡ restored s)
  again =
      let v : WasRead book (length records) _ m = was_read book s (length records) m (sym read ∙ done) in
      let w : ℕ = width s in
      let l : Lined w s most_records 0 v.n = judge_lined w s most_records 0 v.n (start_first w s) v.judged in
      read_is_restored s bytes book (length records) (length out) m (sym read ∙ done) (omega (arith, restored_long s bytes v.n l, l.few))

  written : b ≡ Ok (length (restored s))
  written = write ∙ ap (λ (r : List ℕ). write_of book r (length out)) (filled_first (byte_at s) records m left done) ∙ again.0

  printed_again : (n : ℕ) {last : List ℕ} → length records ≡ size * most_records → last ≡ output_after (text_at (take m later)) b out → b ≡ Ok n → take n last ≡ printed s
  unfolding printed printed_by
  printed_again n long e p =
      let q : n ≡ length (restored s) = cc written in
      filled_first (text_at (take m later)) out n e p
      ∙ rw (filled_first (byte_at s) records m left done, q) again.1
      ∙ sym (ap (λ (x : Filled). printed_by x s) (ap (read_of book s) (sym long) ∙ sym read ∙ done))

  pub shown : {last : List ℕ} → length records ≡ size * most_records → length last ≡ length out → last ≡ output_after (text_at (take m later)) b out
      → MatchResult b (λ n. (n ≤ length last) × (take n last ≡ printed s)) (λ r. (last ≡ out) × (printed s ≡ refusal_line r))
  shown long l e =
      let w = written in
      rw w (omega (arith, l, write_fits (take m later) (length out) (length (restored s)) write w), printed_again _ long e w)
