-- What a request's record bytes are judged: 4, 2, the first entry with 5. Assumes nothing.
use Rattle.std.specs.Prelude.{ℕ, ◌+◌, ◌*◌, ◌/◌, ◌%◌, List, ltb, length, Result, Ok, Err}
use Rattle.record.specs.Choose.{if}
use Rattle.record.specs.Bytes.{size, most_entries}
use Rattle.record.specs.Refusals.{request, cut_short, too_many, bad_field}
use Rattle.fields.specs.First.{first_from}
use Rattle.fields.specs.Entries.{entry_ok}
use Rattle.record.specs.declared.Refusal.{Refusal}

-- so many entries, or the refusal
abbrev pub JudgedRequest : Type 0
JudgedRequest = Result ℕ Refusal

-- the first of the n entries that breaks a field rule; n where none does
abbrev pub first_entry : List ℕ → ℕ → ℕ
first_entry q n = first_from (entry_ok q) 0 n

-- n entries
unfoldable pub judge_entries : List ℕ → ℕ → JudgedRequest
judge_entries q n = if (ltb (first_entry q n) n) (Err (bad_field request (first_entry q n + 1))) (Ok n)

unfoldable pub judge_request_of : List ℕ → JudgedRequest
judge_request_of q =
    if (ltb 0 (length q % size)) (Err (cut_short request))
    (if (ltb (most_entries * size) (length q)) (Err (too_many request))
    (judge_entries q (length q / size)))
