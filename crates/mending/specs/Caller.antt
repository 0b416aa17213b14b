-- What is claimed of the call `salvage`, by its answer and what it leaves in the lent outputs. `proofs/Caller.antt` proves it. Assumes nothing.
use Rattle.std.specs.Prelude.{ℕ, ◌*◌, ◌/◌, ◌≤◌, ◌≡◌, List, length, take, Err, Ok}
use Rattle.record.specs.Bytes.{size, most_records}
use Rattle.record.specs.Refusals.{part_number, number_of, part_of, line_of, spoilt}
use Rattle.fields.specs.Fields.{obligations_of}
use Rattle.placement.specs.Keeps.{Sized}
use Rattle.judge.specs.Judge.{judge_of, accepted_with}
use Rattle.mending.specs.Mending.{salvage_of}
use Rattle.mending.specs.Salvaged.{answer_of, records_in, mended_out, Salvaged, mended_with}
use Rattle.mending.specs.Claims.{Spoils}

-- the records that it leaves first in the output
abbrev pub left : List ℕ → ℕ → ℕ → List ℕ → List ℕ
left b n m out = take (n * size) (mended_out b (mended_with n m) out)

-- .. are a book that is accepted
abbrev pub SalvagedIsAccepted : Type 0
SalvagedIsAccepted =
    (b out : List ℕ) (places n m : ℕ) → answer_of b (length out) places ≡ mended_with n m
    → let c = left b n m out in
    (length c ≡ n * size) × (judge_of c ≡ accepted_with n (obligations_of c n))

-- .. and are left as they are when they are salvaged again
abbrev pub SalvagedOnce : Type 0
SalvagedOnce =
    (b out : List ℕ) (places n m : ℕ) → answer_of b (length out) places ≡ mended_with n m
    → let c = left b n m out in
    (room more : ℕ) → n * size ≤ room → n * 2 ≤ more → (answer_of c room more ≡ mended_with n 0) × (records_in (salvage_of c n) ≡ c)

-- 13 is answered exactly when a line spoils a book of the right size, whatever outputs are lent, with that line
abbrev pub SpoilsIsTold : Type 0
SpoilsIsTold = (b : List ℕ) (n line : ℕ) → Sized b n → Spoils b n line → (room places : ℕ) → answer_of b room places ≡ Err (spoilt line)

abbrev pub ToldSpoils : Type 0
ToldSpoils = (b : List ℕ) (line room places : ℕ) → answer_of b room places ≡ Err (spoilt line) → Sized b (length b / size) × Spoils b (length b / size) line

-- how large an answer can be
abbrev pub Within : Salvaged → Type 0
Within (Ok m) = (m.records ≤ most_records) × (m.replacements ≤ most_records)
Within (Err r) = (number_of r ≤ 13) × (part_number (part_of r) ≤ 3) × (line_of r ≤ most_records)

abbrev pub AnswersWithin : Type 0
AnswersWithin = (b : List ℕ) (room places : ℕ) → Within (answer_of b room places)
