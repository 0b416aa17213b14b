-- What a book's record bytes are judged: 3, 4, 2, the first line with 5, the first line with 9 to 12. Assumes nothing.
use Rattle.std.specs.Prelude.{ℕ, ◌+◌, ◌*◌, ◌/◌, ◌%◌, List, eqb, ltb, length, Result, Ok, Err}
use Rattle.record.specs.Choose.{if}
use Rattle.record.specs.Bytes.{size, most_records}
use Rattle.record.specs.Refusals.{book, no_record, cut_short, too_many, bad_field, bad_place}
use Rattle.fields.specs.First.{first_from}
use Rattle.fields.specs.Fields.{field_ok, obligations_of}
use Rattle.placement.specs.Place.{place_ok, broken_at}
use Rattle.record.specs.declared.Refusal.{Refusal}
use Rattle.judge.specs.declared.Accepted.{Accepted}

abbrev pub Judged : Type 0
Judged = Result Accepted Refusal

-- accepted, with so many records and obligation records
abbrev pub accepted_with : ℕ → ℕ → Judged
accepted_with n m = Ok (record { records = n; obligations = m })

-- the first of the n records that breaks a field rule, a place rule; n where none does
abbrev pub first_field : List ℕ → ℕ → ℕ
first_field b n = first_from (field_ok b) 0 n

abbrev pub first_place : List ℕ → ℕ → ℕ
first_place b n = first_from (place_ok b) 0 n

-- n records
unfoldable pub judge_records : List ℕ → ℕ → Judged
judge_records b n =
    if (ltb (first_field b n) n) (Err (bad_field book (first_field b n + 1)))
    (if (ltb (first_place b n) n) (Err (bad_place (broken_at b (first_place b n)) (first_place b n + 1)))
    (accepted_with n (obligations_of b n)))

unfoldable pub judge_of : List ℕ → Judged
judge_of b =
    if (eqb (length b) 0) (Err (no_record book))
    (if (ltb 0 (length b % size)) (Err (cut_short book))
    (if (ltb (most_records * size) (length b)) (Err (too_many book))
    (judge_records b (length b / size))))
