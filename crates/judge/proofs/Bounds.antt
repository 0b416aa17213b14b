-- How large the numbers of a judgement are, for those that pack them or look at the refused line. Assumes nothing.
use Rattle.std.specs.Prelude.{Err, Ok}
use mathlib.Core.Path.{◌≡◌, refl}
use mathlib.Core.List.{List}
use Prim.Native.Nat.{ℕ, ◌+◌, ◌*◌, ◌≤◌, ◌<◌}
use native.Mathlib.Omega.{arith}
use lib.ListN.{length}
use Rattle.record.specs.Bytes.{size, most_records, most_entries}
use Rattle.record.specs.Refusals.{number_of, part_number, part_of, line_of}
use Rattle.record.specs.declared.Refusal.{Refusal}
use Rattle.fields.proofs.Laws.{obligations_le}
use Rattle.judge.specs.Judge.{judge_of, accepted_with}
use Rattle.judge.specs.Request.{judge_request_of}
use Rattle.judge.specs.Exactly as book
use Rattle.judge.specs.ExactlyRequest as request
use Rattle.judge.proofs.Exactly.{accepted_keeps, refused_breaks}
use Rattle.judge.proofs.ExactlyRequest.{accepted_request_keeps, refused_request_breaks}

-- a refusal of bytes that have at most `most` lines, and its line among them
pub record Small (b : List ℕ) (r : Refusal) (most : ℕ) : Type 0 where
  pub number : number_of r < 256
  pub part : part_number (part_of r) < 256
  pub line : line_of r ≤ most
  pub inside : line_of r * size ≤ length b

module _ (b : List ℕ) {r : Refusal} {most : ℕ} (h : number_of r < 256) (k : part_number (part_of r) < 256) where
  no_line : line_of r ≡ 0 → Small b r most
  no_line z = record { number = h; part = k; line = omega (arith, z); inside = omega (arith, z) }

  a_line : {n i : ℕ} → line_of r ≡ i + 1 → length b ≡ n * size → n ≤ most → i < n → Small b r most
  a_line at e l z = record { number = h; part = k; line = omega (arith, at, l, z); inside = omega (arith, at, e, z) }

small : (b : List ℕ) (r : Refusal) → book.Breaks b r → Small b r most_records
small b r (book.empty er e) = rw er (no_line b (omega arith) (omega arith) refl)
small b r (book.cut er e) = rw er (no_line b (omega arith) (omega arith) refl)
small b r (book.many er e l) = rw er (no_line b (omega arith) (omega arith) refl)
small b r (book.field n i er s w) = rw er (a_line b (omega arith) (omega arith) refl s.bytes s.most w.inside)
small b r (book.top n er k t) = rw er (a_line b (omega arith) (omega arith) refl k.sized.bytes k.sized.most k.inside)
small b r (book.past n i er k h l) = rw er (a_line b (omega arith) (omega arith) refl k.sized.bytes k.sized.most k.inside)
small b r (book.misplaced n i er k h w x) = rw er (a_line b (omega arith) (omega arith) refl k.sized.bytes k.sized.most k.inside)
small b r (book.deep n i er k h w a l) = rw er (a_line b (omega arith) (omega arith) refl k.sized.bytes k.sized.most k.inside)

pub refused_small : (b : List ℕ) (r : Refusal) → judge_of b ≡ Err r → Small b r most_records
refused_small b r e = small b r (refused_breaks b r e)

pub accepted_small : (b : List ℕ) (n m : ℕ) → judge_of b ≡ accepted_with n m → (n ≤ most_records) × (m ≤ n)
accepted_small b n m e = let w = accepted_keeps b n m e in (w.0.sized.most, omega (arith, w.1, obligations_le b n))

small_request : (q : List ℕ) (r : Refusal) → request.BreaksRequest q r → Small q r most_entries
small_request q r (request.cut er e) = rw er (no_line q (omega arith) (omega arith) refl)
small_request q r (request.many er e l) = rw er (no_line q (omega arith) (omega arith) refl)
small_request q r (request.field n i er s w) = rw er (a_line q (omega arith) (omega arith) refl s.bytes s.most w.inside)

pub refused_request_small : (q : List ℕ) (r : Refusal) → judge_request_of q ≡ Err r → Small q r most_entries
refused_request_small q r e = small_request q r (refused_request_breaks q r e)

pub accepted_request_small : (q : List ℕ) (n : ℕ) → judge_request_of q ≡ Ok n → n ≤ most_entries
accepted_request_small q n e = (accepted_request_keeps q n e).sized.most
