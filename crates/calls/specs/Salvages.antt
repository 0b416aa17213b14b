-- Document 02, 6, as the C caller sees it: what `bachumoi_salvage` leaves is decided by its meaning, and when it refuses with 13. `proofs/Salvages.antt` proves it.
-- Assumes nothing.
use Rattle.std.specs.Prelude.{ℕ, ◌*◌, ◌/◌, ◌%◌, ◌≤◌, ◌<◌, ◌≡◌, List, length, take, Ok}
use Rattle.record.specs.Bytes.{size}
use Rattle.record.specs.Refusals.{spoilt, refusal_number}
use Rattle.fields.specs.Fields.{obligations_of}
use Rattle.placement.specs.Keeps.{Sized}
use Rattle.judge.specs.Judge.{judge_of, accepted_with}
use Rattle.judge.specs.Request.{judge_request_of}
use Rattle.mending.specs.Claims.{Spoils}
use Rattle.mending.specs.Salvaged.{answer_of, mended_out, replaced_out, Salvaged, mended_with}
use Rattle.mender.specs.Mender.{salvaged_number}
use Rattle.calls.specs.Decides.{ByMeaning}

-- the answer to these lent slices, and the records that it leaves first in the output, as many as its number says
abbrev pub answered : List ℕ → List ℕ → List ℕ → Salvaged
answered b out replaced = answer_of b (length out) (length replaced)

abbrev pub mended_in : List ℕ → List ℕ → List ℕ → List ℕ
mended_in b out replaced = take (salvaged_number (answered b out replaced) / 256 % 65536 * size) (mended_out b (answered b out replaced) out)

-- demand 2 reads the salvaged book: it is accepted, and `bachumoi_decide` decides it by the meaning for every accepted request
abbrev pub SalvagedDecides : Type 0
SalvagedDecides =
    (b out replaced : List ℕ) (n m : ℕ) → answered b out replaced ≡ mended_with n m
    → let c = mended_in b out replaced in
    (judge_of c ≡ accepted_with n (obligations_of c n))
    × ((q places : List ℕ) (k : ℕ) → judge_request_of q ≡ Ok k → 2 * obligations_of c n ≤ length places → ByMeaning c q places)

-- where a line spoils a book of the right size the number is 13 with that line, whatever is lent beside it, and what is lent stays as it was
abbrev pub SpoiltIsTold : Type 0
SpoiltIsTold =
    (b : List ℕ) (n line : ℕ) → Sized b n → Spoils b n line → (out replaced : List ℕ)
    → let a = answered b out replaced in
    (salvaged_number a ≡ refusal_number (spoilt line)) × (mended_out b a out ≡ out) × (replaced_out b a replaced ≡ replaced)

-- and it is said only where that line does
abbrev pub ToldIsSpoilt : Type 0
ToldIsSpoilt =
    (b out replaced : List ℕ) (line : ℕ) → line < 65536 → salvaged_number (answered b out replaced) ≡ refusal_number (spoilt line)
    → Sized b (length b / size) × Spoils b (length b / size) line
