-- What `decide` prints of the two texts that it reads: document 01, "The deciding program". Assumes nothing.
use Rattle.std.specs.Prelude.{◌≡◌, List, ℕ, ◌+◌, ◌*◌, ◌≤◌, length, take, Result, Err, Ok}
use Rattle.record.specs.Bytes.{size, most_records, most_entries}
use Rattle.record.specs.Table.{tab}
use Rattle.record.specs.declared.Refusal.{Refusal}
use Rattle.text.specs.Text.{book, request, line_length, read_of, byte_at, Filled}
use Rattle.line.specs.Line.{decision_line, refusal_line}
use Rattle.meaning.specs.Meaning.{decision_in}
use Rattle.meaning.specs.Numbers.{number_of}
use Rattle.decider.specs.Outcome.{outcome_of, duties_of, Outcome, decided_with}

-- the line of what is decided: the decision with its obligations, or the refusal
abbrev pub outcome_line : Outcome → List ℕ → List ℕ
outcome_line (Ok d) duties = decision_line (number_of (decision_in d.verdict)) duties
outcome_line (Err r) duties = refusal_line r

-- the line for the records of a book and a request; there is room for as many obligations as a book can have records
unfoldable pub decided_line : List ℕ → List ℕ → List ℕ
decided_line b q = outcome_line (outcome_of b q most_records) (duties_of b q)

-- then the request's text is read, by what that answers
unfoldable pub after_request : Filled → List ℕ → List ℕ → List ℕ
after_request (Ok m) b requestText = decided_line b (tab (byte_at requestText) m)
after_request (Err r) b requestText = refusal_line r

-- first the book's text is read, by what that answers
unfoldable pub after_book : Filled → List ℕ → List ℕ → List ℕ
after_book (Ok n) bookText requestText = after_request (read_of request requestText (size * most_entries)) (tab (byte_at bookText) n) requestText
after_book (Err r) bookText requestText = refusal_line r

-- the line that is printed
unfoldable pub printed : List ℕ → List ℕ → List ℕ
printed bookText requestText = after_book (read_of book bookText (size * most_records)) bookText requestText

-- what an attempt to print a line leaves: the line first in the output; or a refusal whose line it is, and the output as it was
abbrev pub Put : List ℕ → List ℕ → List ℕ → Result ℕ Refusal → Type 0
Put line before after (Ok n) = (n ≤ length after) × (take n after ≡ line)
Put line before after (Err r) = (refusal_line r ≡ line) × (after ≡ before)

-- of a text one byte more is read than as many lines as there may be; what is printed is what the whole text says
abbrev pub AnyLength : Type 0
AnyLength = (bookText requestText : List ℕ) → printed (take (line_length size * most_records + 1) bookText) (take (line_length size * most_entries + 1) requestText) ≡ printed bookText requestText
