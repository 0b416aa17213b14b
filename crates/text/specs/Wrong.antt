-- Wrong digits (document 02, 6). Where a book is to be salvaged, a line of the right length with a wrong digit stands for a record of zeros: kind 0 breaks a
-- field rule, and span 0 covers no other line. So such lines become lines of zeros, and the text is then read as any other. Assumes nothing.
use Rattle.std.specs.Prelude.{ℕ, ◌+◌, ◌*◌, ◌/◌, ◌<◌, ◌≡◌, Bool, not, List, leb, eqb, length, get_or, take}
use Rattle.record.specs.Choose.{if, both}
use Rattle.record.specs.Bytes.{size, most_records}
use Rattle.record.specs.Below.{all_below}
use Rattle.record.specs.Table.{tab}
use Rattle.text.specs.Text.{book, digits, lf, line_length, start, width, good_line, read_of, byte_at}
use Rattle.text.specs.RoundTrip.{zero_digit}

-- a byte of a line that is good or not: itself, or the digit 0, but LF stays
unfoldable pub legible : Bool → ℕ → ℕ
legible good c = if good c (if (eqb c lf) lf zero_digit)

unfoldable pub zeroed_at : List ℕ → ℕ → ℕ
zeroed_at text i = let w = width text in legible (good_line w text (start w (i / line_length w))) (get_or text i 0)

unfoldable pub zeroed : List ℕ → List ℕ
zeroed text = tab (zeroed_at text) (length text)

-- a line of the right length: as many bytes as digits, none of them LF, and then LF
unfoldable pub right_length : ℕ → List ℕ → ℕ → Bool
right_length w text at =
    both (leb (at + line_length w) (length text))
    (both (eqb (get_or text (at + digits w) 0) lf)
    (all_below (λ j. not (eqb (get_or text (at + j) 0) lf)) (digits w)))

-- claimed: the lines of the right length, and no others, are then good ..
abbrev pub RightIsGood : Type 0
RightIsGood = (text : List ℕ) (n : ℕ) → (width (zeroed text) ≡ width text) × (good_line (width text) (zeroed text) (start (width text) n) ≡ right_length (width text) text (start (width text) n))

-- .. and one says the record that it said, where it was good, and else zeros
abbrev pub GoodOrZeros : Type 0
GoodOrZeros =
    (text : List ℕ) (i : ℕ) → let at = start (width text) (i / size) in
    byte_at (zeroed text) i ≡ if (good_line (width text) text at) (byte_at text i) 0

-- .. and the text of a book, of any length, is read by its first bytes, one more than as many lines as there may be
abbrev pub ZeroedFirstBytes : Type 0
ZeroedFirstBytes =
    (text : List ℕ) (room bytes : ℕ) → line_length size * most_records < bytes → read_of book (zeroed (take bytes text)) room ≡ read_of book (zeroed text) room
