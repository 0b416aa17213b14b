-- What `salvage` makes of the text that it read: the text of MENDED.HEX, and what it prints. Assumes nothing.
use Rattle.std.specs.Prelude.{ℕ, ◌+◌, ◌*◌, ◌/◌, ◌<◌, ◌≡◌, List, [], ◌∷◌, ◌++◌, length, take, Err, Ok}
use Rattle.record.specs.Bytes.{size, most_records}
use Rattle.record.specs.Table.{tab}
use Rattle.record.specs.declared.Refusal.{Refusal}
use Rattle.text.specs.Text.{book, lf, line_length, read_of, byte_at, text_at, Filled}
use Rattle.text.specs.Wrong.{zeroed}
use Rattle.line.specs.Line.{hex_of, refusal_line}
use Rattle.mending.specs.Mending.{Replacement, Salvage, Mended, Spoilt, salvage_of}
use Rattle.mending.specs.Salvaged.{answer_of, records_in, Salvaged}

-- a line a replacement: its first old line and its old count, four digits each
unfoldable pub lines_of : List Replacement → List ℕ
lines_of [] = []
lines_of (x ∷ xs) = hex_of 4 x.line ++ (hex_of 4 x.lines ++ (lf ∷ lines_of xs))

-- a file and what is printed
pub record Said : Type 0 where
  pub file : List ℕ
  pub printed : List ℕ

-- a refusal writes no file
abbrev pub refuses : List ℕ → Said
refuses line = record { file = []; printed = line }

-- the replacements of a book that is mended
abbrev pub replaced_by : Salvage → List Replacement
replaced_by (Mended x xs) = xs
replaced_by (Spoilt line) = []

-- by the records, and what salvage answers
abbrev pub said_by : List ℕ → Salvaged → Said
said_by b (Ok m) =
    let s = salvage_of b (length b / size) in
    record { file = tab (text_at (records_in s)) (line_length size * m.records); printed = lines_of (replaced_by s) }
said_by b (Err r) = refuses (refusal_line r)

-- there is room for a whole book, and for as many replacements as it can have
unfoldable pub said_of : List ℕ → Said
said_of b = said_by b (answer_of b (size * most_records) (2 * most_records))

-- by the text, and what reading it answers once each line with a wrong digit is a line of zeros
abbrev pub read_by : List ℕ → Filled → Said
read_by text (Ok m) = said_of (tab (byte_at text) m)
read_by text (Err r) = refuses (refusal_line r)

unfoldable pub said : List ℕ → Said
said text = read_by (zeroed text) (read_of book (zeroed text) (size * most_records))

-- claimed: a longer file says the same as its first bytes, which are all that is read; `proofs/AnyLength.antt` proves it
abbrev pub AnyLength : Type 0
AnyLength = (text : List ℕ) → said (take (line_length size * most_records + 1) text) ≡ said text

-- claimed: a refusal is said and no file is, or there is something to write; `proofs/Writes.antt` proves it
pub data Says (s : Said) : Type 0 where
  refusing : (r : Refusal) → s ≡ refuses (refusal_line r) → Says s
  writing : 0 < length s.file → Says s

abbrev pub WritesOrRefuses : Type 0
WritesOrRefuses = (text : List ℕ) → Says (said text)
