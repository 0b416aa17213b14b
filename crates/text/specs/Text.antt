-- The text of a book or a request, and what reading and writing it give, in the order of document 01. Assumes nothing.
use Rattle.std.specs.Prelude.{ℕ, zero, suc, ◌+◌, ◌*◌, ◌/◌, ◌%◌, Bool, true, false, List, ◌++◌, ltb, leb, eqb, length, get_or, drop, Result, Ok, Err}
use Rattle.record.specs.Choose.{if, both}
use Rattle.record.specs.Bytes.{size, most_records, most_entries}
use Rattle.record.specs.declared.Part.{Part}
use Rattle.record.specs.declared.Refusal.{Refusal}
use Rattle.record.specs.Refusals as refusals
use Rattle.record.specs.Refusals.{bad_line, too_many, no_record, cut_short, no_room}
use Rattle.record.specs.Below.{all_below}
use Rattle.record.specs.Table.{tab}
use Rattle.text.specs.Hex.{is_digit, digit_value, letter_of}
use Rattle.text.specs.declared.Kind.{Kind}
use Rattle.text.specs.declared.Fault.{Fault}
use Rattle.text.specs.declared.Fault.TheVariants.{Wrong, Over}

-- how the lines of a text stand: so many, all good, or what is wrong
abbrev pub Judged : Type 0
Judged = Result ℕ Fault

-- what reading and writing answer: so many places of the output are filled, or nothing is
abbrev pub Filled : Type 0
Filled = Result ℕ Refusal

-- a book is 1 to 1,000 records
abbrev pub book : Kind
book = record { most = most_records; empty = false; part = refusals.book }

-- a request is 0 to 64 entries
abbrev pub request : Kind
request = record { most = most_entries; empty = true; part = refusals.request }

-- there is nothing, where something must be
abbrev pub missing : Kind → ℕ → Bool
missing k n = if k.empty false (eqb n 0)

-- a line says the bytes of a record, or so many: all but the issuer and the two after it, which are then zero
abbrev pub short_size : ℕ
short_size = 16

-- two hexadecimal digits a byte, 40 or 32 a line ..
abbrev pub digits : ℕ → ℕ
digits w = 2 * w

-- .. and one LF a line
abbrev pub lf : ℕ
lf = 10

abbrev pub line_length : ℕ → ℕ
line_length w = digits w + 1

-- where line n + 1 begins, if each line says w bytes
unfoldable pub start : ℕ → ℕ → ℕ
start w n = line_length w * n

-- line 1 fixes how many bytes a line says: by where its LF stands
unfoldable pub width : List ℕ → ℕ
width text = if (eqb (get_or text (digits short_size) 0) lf) short_size size

-- the byte j places on is a digit
abbrev pub digit_at : List ℕ → ℕ → ℕ → Bool
digit_at text at j = is_digit (get_or text (at + j) 0)

-- the digits of w bytes and LF stand at this place
unfoldable pub good_line : ℕ → List ℕ → ℕ → Bool
good_line w text at =
    both (leb (at + line_length w) (length text))
    (both (eqb (get_or text (at + digits w) 0) lf)
    (all_below (digit_at text at) (digits w)))

-- a text is judged line by line, 2 before 1 on each line: here from line n + 1 on, of which there may be so many more
unfoldable pub judge_from : ℕ → List ℕ → ℕ → ℕ → Judged
judge_from w text zero n = if (leb (length text) (start w n)) (Ok n) (Err Over)
judge_from w text (suc more) n =
    if (leb (length text) (start w n)) (Ok n)
    (if (good_line w text (start w n)) (judge_from w text more (n + 1)) (Err (Wrong (n + 1))))

-- what is told of a fault in this part
abbrev pub refusal_of : Part → Fault → Refusal
refusal_of part Over = too_many part
refusal_of part (Wrong line) = bad_line part line

-- then 3; then 7: what reading answers, by how the lines were judged
unfoldable pub read_judged : Kind → Judged → ℕ → Filled
read_judged k (Err Over) room = Err (too_many k.part)
read_judged k (Err (Wrong line)) room = Err (bad_line k.part line)
read_judged k (Ok n) room =
    if (missing k n) (Err (no_record k.part))
    (if (ltb room (size * n)) (Err no_room)
    (Ok (size * n)))

-- what reading answers, by the text and the places of the output
unfoldable pub read_of : Kind → List ℕ → ℕ → Filled
read_of k text room = read_judged k (judge_from (width text) text k.most 0) room

-- byte i of the records that a text says: two digits, or 0 past what a line says
unfoldable pub byte_at : List ℕ → ℕ → ℕ
byte_at text i =
    let w = width text in
    let p = start w (i / size) + digits (i % size) in
    if (ltb (i % size) w) (16 * digit_value (get_or text p 0) + digit_value (get_or text (p + 1) 0)) 0

-- what writing answers, by the records and the places of the output: 3 (book only), 4, 2, 7
unfoldable pub write_of : Kind → List ℕ → ℕ → Filled
write_of k records room =
    let n = length records / size in
    if (missing k (length records)) (Err (no_record k.part))
    (if (ltb 0 (length records % size)) (Err (cut_short k.part))
    (if (ltb k.most n) (Err (too_many k.part))
    (if (ltb room (line_length size * n)) (Err no_room)
    (Ok (line_length size * n)))))

-- byte j of the text that records make, in capitals: LF at the end of each line, and the upper half of a byte before the lower
unfoldable pub text_at : List ℕ → ℕ → ℕ
text_at records j =
    let b = get_or records (size * (j / line_length size) + j % line_length size / 2) 0 in
    if (eqb (j % line_length size) (digits size)) lf
    (if (eqb (j % line_length size % 2) 0) (letter_of (b / 16)) (letter_of b))

-- what a lent output holds after the answer: only the places that are filled have changed
unfoldable pub output_after : (ℕ → ℕ) → Filled → List ℕ → List ℕ
output_after at (Ok m) out = tab at m ++ drop m out
output_after at (Err r) out = out
