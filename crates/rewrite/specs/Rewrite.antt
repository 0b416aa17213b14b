-- What `rewrite` prints of the text that it read. Assumes nothing.
use Rattle.std.specs.Prelude.{List, ℕ, ◌*◌, Err, Ok}
use Rattle.record.specs.Bytes.{size, most_records}
use Rattle.text.specs.Text.{book, read_of, Filled}
use Rattle.text.specs.RoundTrip.{restored}
use Rattle.line.specs.Line.{refusal_line}

-- by what reading it answers: the text again in capitals and with 40 digits a line, or the line of the refusal
unfoldable pub printed_by : Filled → List ℕ → List ℕ
printed_by (Ok m) text = restored text
printed_by (Err r) text = refusal_line r

-- there is room for a whole book
unfoldable pub printed : List ℕ → List ℕ
printed text = printed_by (read_of book text (size * most_records)) text
