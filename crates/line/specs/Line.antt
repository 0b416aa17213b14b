-- The line that a program prints, in capital hexadecimal digits with one LF. Assumes nothing.
use Rattle.std.specs.Prelude.{ℕ, zero, suc, ◌+◌, ◌*◌, ◌/◌, List, [], ◌∷◌, ◌++◌, leb, length, drop}
use Rattle.record.specs.Bytes.{most_records}
use Rattle.record.specs.Choose.{if}
use Rattle.record.specs.Refusals.{part_number, number_of, part_of, line_of}
use Rattle.record.specs.declared.Refusal.{Refusal}
use Rattle.text.specs.Hex.{letter_of}
use Rattle.text.specs.Text.{lf}

-- a number as so many digits: its last ones
unfoldable pub hex_of : ℕ → ℕ → List ℕ
hex_of zero n = []
hex_of (suc digits) n = hex_of digits (n / 16) ++ (letter_of n ∷ [])

-- each number as four digits
unfoldable pub fours : List ℕ → List ℕ
fours [] = []
fours (n ∷ ns) = hex_of 4 n ++ fours ns

-- a decision: its number (2 digits), count (4), each obligation (4)
unfoldable pub decision_line : ℕ → List ℕ → List ℕ
decision_line decision obligations = hex_of 2 decision ++ hex_of 4 (length obligations) ++ fours obligations ++ (lf ∷ [])

-- none is longer than one with as many obligations as a book can have records
abbrev pub longest : ℕ
longest = 2 + 4 + 4 * most_records + 1

-- a number, a part and a line, whatever these are: FF, number (2), part (2), line (4)
unfoldable pub told_line : ℕ → ℕ → ℕ → List ℕ
told_line number part line = hex_of 2 255 ++ hex_of 2 number ++ hex_of 2 part ++ hex_of 4 line ++ (lf ∷ [])

-- a refusal
unfoldable pub refusal_line : Refusal → List ℕ
refusal_line r = told_line (number_of r) (part_number (part_of r)) (line_of r)

-- how many places of a lent output a line takes: all or none
unfoldable pub places_of : List ℕ → ℕ → ℕ
places_of line room = if (leb (length line) room) (length line) 0

-- what the output then holds
unfoldable pub put : List ℕ → List ℕ → List ℕ
put line out = if (leb (length line) (length out)) (line ++ drop (length line) out) out
