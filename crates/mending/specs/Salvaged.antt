-- What the call of salvage answers and leaves in the lent outputs, by the record bytes and the outputs' lengths: 3, 4, 2, 13, 7. Assumes nothing.
use Rattle.std.specs.Prelude.{ℕ, ◌*◌, ◌/◌, ◌%◌, List, [], ◌∷◌, ◌++◌, eqb, ltb, length, drop, Result, Ok, Err}
use Rattle.record.specs.Choose.{if, either}
use Rattle.record.specs.Bytes.{size, most_records}
use Rattle.record.specs.Refusals.{book, no_record, cut_short, too_many, no_room, spoilt}
use Rattle.structure.specs.Subtrees.{record_count, bytes_of}
use Rattle.mending.specs.Mending.{Replacement, Salvage, Mended, Spoilt, salvage_of}
use Rattle.record.specs.declared.Refusal.{Refusal}
use Rattle.mending.specs.declared.Counts.{Counts}

abbrev pub Salvaged : Type 0
Salvaged = Result Counts Refusal

-- a book mended, with so many records and replacements
abbrev pub mended_with : ℕ → ℕ → Salvaged
mended_with n m = Ok (record { records = n; replacements = m })

-- room is wanted for as many records as the book has, and for two bytes a record: four for every two
unfoldable pub answer_by : Salvage → ℕ → ℕ → ℕ → Salvaged
answer_by (Spoilt line) n room places = Err (spoilt line)
answer_by (Mended x xs) n room places =
    if (either (ltb room (n * size)) (ltb places (n * 2))) (Err no_room)
    (mended_with (record_count x) (length xs))

unfoldable pub answer_of : List ℕ → ℕ → ℕ → Salvaged
answer_of b room places =
    let n = length b / size in
    if (eqb (length b) 0) (Err (no_record book))
    (if (ltb 0 (length b % size)) (Err (cut_short book))
    (if (ltb (most_records * size) (length b)) (Err (too_many book))
    (answer_by (salvage_of b n) n room places)))

-- replacements as bytes: four each, first old line and old count, big-endian
unfoldable pub bytes_of_all : List Replacement → List ℕ
bytes_of_all [] = []
bytes_of_all (x ∷ xs) = x.line / 256 ∷ x.line % 256 ∷ x.lines / 256 ∷ x.lines % 256 ∷ bytes_of_all xs

-- the records of a mended book, and its replacements
unfoldable pub records_in : Salvage → List ℕ
records_in (Mended x xs) = bytes_of x
records_in (Spoilt line) = []

unfoldable pub replaced_in : Salvage → List ℕ
replaced_in (Mended x xs) = bytes_of_all xs
replaced_in (Spoilt line) = []

-- what a lent output holds after the answer: xs first, and behind it what was there; a refusal leaves all as it was
unfoldable pub leaves : Salvaged → List ℕ → List ℕ → List ℕ
leaves (Ok m) xs out = xs ++ drop (length xs) out
leaves (Err r) xs out = out

unfoldable pub mended_out : List ℕ → Salvaged → List ℕ → List ℕ
mended_out b a out = leaves a (records_in (salvage_of b (length b / size))) out

unfoldable pub replaced_out : List ℕ → Salvaged → List ℕ → List ℕ
replaced_out b a out = leaves a (replaced_in (salvage_of b (length b / size))) out
