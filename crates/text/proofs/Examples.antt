-- Worked book A of document 01, read and written, and texts whose lines differ: the definitions compute. Assumes nothing.
use Rattle.std.specs.Prelude.{Err, Ok}
use mathlib.Core.Path.{◌≡◌, refl}
use mathlib.Core.List.{List, [], ◌∷◌, ◌++◌}
use Prim.Native.Nat.{ℕ}
use Rattle.record.specs.Refusals.{bad_line, no_room}
use Rattle.record.specs.declared.Part.TheVariants.{Book}
use Rattle.record.specs.Below.{all_below}
use Rattle.record.specs.Table.{tab}
use Rattle.record.proofs.BookA.{bytes, lines, book_a}
use Rattle.text.specs.Hex.{digit_of, is_digit, digit_value, letter_of}
use Rattle.text.specs.Text.{book, start, width, good_line, judge_from, read_of, read_judged, byte_at, text_at, write_of}
use Rattle.text.specs.RoundTrip.{lengthened}

line_1 : List ℕ
line_1 = 48 ∷ 50 ∷ 48 ∷ 49 ∷ 48 ∷ 48 ∷ 48 ∷ 54 ∷ 48 ∷ 48 ∷ 48 ∷ 48 ∷ 48 ∷ 48 ∷ 48 ∷ 48 ∷ 48 ∷ 48 ∷ 48 ∷ 48 ∷ 48 ∷ 48 ∷ 48 ∷ 48 ∷ 48 ∷ 48 ∷ 48 ∷ 48 ∷ 48 ∷ 48 ∷ 48 ∷ 48 ∷ 10 ∷ []

line_2 : List ℕ
line_2 = 48 ∷ 51 ∷ 48 ∷ 49 ∷ 48 ∷ 48 ∷ 48 ∷ 49 ∷ 48 ∷ 48 ∷ 48 ∷ 48 ∷ 48 ∷ 48 ∷ 48 ∷ 48 ∷ 48 ∷ 48 ∷ 48 ∷ 48 ∷ 48 ∷ 48 ∷ 48 ∷ 48 ∷ 48 ∷ 48 ∷ 48 ∷ 48 ∷ 48 ∷ 48 ∷ 48 ∷ 48 ∷ 10 ∷ []

line_3 : List ℕ
line_3 = 48 ∷ 51 ∷ 48 ∷ 50 ∷ 48 ∷ 48 ∷ 48 ∷ 50 ∷ 48 ∷ 48 ∷ 48 ∷ 48 ∷ 48 ∷ 48 ∷ 48 ∷ 48 ∷ 48 ∷ 48 ∷ 48 ∷ 48 ∷ 48 ∷ 48 ∷ 48 ∷ 48 ∷ 48 ∷ 48 ∷ 48 ∷ 48 ∷ 48 ∷ 48 ∷ 48 ∷ 48 ∷ 10 ∷ []

line_4 : List ℕ
line_4 = 48 ∷ 55 ∷ 48 ∷ 67 ∷ 48 ∷ 48 ∷ 48 ∷ 49 ∷ 48 ∷ 52 ∷ 48 ∷ 49 ∷ 48 ∷ 48 ∷ 48 ∷ 55 ∷ 48 ∷ 48 ∷ 48 ∷ 48 ∷ 48 ∷ 48 ∷ 48 ∷ 48 ∷ 48 ∷ 48 ∷ 48 ∷ 48 ∷ 48 ∷ 48 ∷ 51 ∷ 50 ∷ 10 ∷ []

line_5 : List ℕ
line_5 = 48 ∷ 56 ∷ 48 ∷ 49 ∷ 48 ∷ 48 ∷ 48 ∷ 49 ∷ 48 ∷ 48 ∷ 48 ∷ 48 ∷ 48 ∷ 48 ∷ 49 ∷ 49 ∷ 48 ∷ 48 ∷ 48 ∷ 48 ∷ 48 ∷ 48 ∷ 48 ∷ 48 ∷ 48 ∷ 48 ∷ 48 ∷ 48 ∷ 48 ∷ 48 ∷ 48 ∷ 48 ∷ 10 ∷ []

line_6 : List ℕ
line_6 = 48 ∷ 56 ∷ 48 ∷ 50 ∷ 48 ∷ 48 ∷ 48 ∷ 49 ∷ 48 ∷ 48 ∷ 48 ∷ 48 ∷ 48 ∷ 48 ∷ 49 ∷ 50 ∷ 48 ∷ 48 ∷ 48 ∷ 48 ∷ 48 ∷ 48 ∷ 48 ∷ 48 ∷ 48 ∷ 48 ∷ 48 ∷ 48 ∷ 48 ∷ 48 ∷ 48 ∷ 48 ∷ 10 ∷ []

text : List ℕ
text = line_1 ++ line_2 ++ line_3 ++ line_4 ++ line_5 ++ line_6

records : List ℕ
records = lines book_a

-- line 4 with a G in it
wrong : List ℕ
wrong = line_1 ++ line_2 ++ line_3 ++ (48 ∷ 55 ∷ 48 ∷ 67 ∷ 48 ∷ 71 ∷ 48 ∷ 49 ∷ 48 ∷ 52 ∷ 48 ∷ 49 ∷ 48 ∷ 48 ∷ 48 ∷ 55 ∷ 48 ∷ 48 ∷ 48 ∷ 48 ∷ 48 ∷ 48 ∷ 48 ∷ 48 ∷ 48 ∷ 48 ∷ 48 ∷ 48 ∷ 48 ∷ 48 ∷ 51 ∷ 50 ∷ 10 ∷ []) ++ line_5 ++ line_6

-- the text that comes back, and texts in which a line is unlike line 1
long : List ℕ
long = lengthened text

long_second : List ℕ
long_second = line_1 ++ lengthened line_2

short_second : List ℕ
short_second = lengthened line_1 ++ line_2

read_a : read_of book text 120 ≡ Ok 120
unfolding text line_1 line_2 line_3 line_4 line_5 line_6 read_of read_judged judge_from start width good_line all_below is_digit digit_of
read_a = refl

bytes_a : tab (byte_at text) 120 ≡ records
unfolding text line_1 line_2 line_3 line_4 line_5 line_6 records bytes lines book_a tab byte_at start width digit_value digit_of
bytes_a = refl

short_a : read_of book text 119 ≡ Err no_room
unfolding text line_1 line_2 line_3 line_4 line_5 line_6 read_of read_judged judge_from start width good_line all_below is_digit digit_of
short_a = refl

wrong_a : read_of book wrong 120 ≡ Err (bad_line Book 4)
unfolding wrong line_1 line_2 line_3 line_4 line_5 line_6 read_of read_judged judge_from start width good_line all_below is_digit digit_of
wrong_a = refl

write_a : write_of book records 246 ≡ Ok 246
unfolding records bytes lines book_a write_of
write_a = refl

text_a : tab (text_at records) 246 ≡ long
unfolding long lengthened text line_1 line_2 line_3 line_4 line_5 line_6 records bytes lines book_a tab text_at letter_of
text_a = refl

read_long_a : read_of book long 120 ≡ Ok 120
unfolding long lengthened tab text line_1 line_2 line_3 line_4 line_5 line_6 read_of read_judged judge_from start width good_line all_below is_digit digit_of
read_long_a = refl

bytes_long_a : tab (byte_at long) 120 ≡ records
unfolding long lengthened text line_1 line_2 line_3 line_4 line_5 line_6 records bytes lines book_a tab byte_at start width digit_value digit_of
bytes_long_a = refl

unlike_short : read_of book long_second 40 ≡ Err (bad_line Book 2)
unfolding long_second lengthened tab line_1 line_2 read_of read_judged judge_from start width good_line all_below is_digit digit_of
unlike_short = refl

unlike_long : read_of book short_second 40 ≡ Err (bad_line Book 2)
unfolding short_second lengthened tab line_1 line_2 read_of read_judged judge_from start width good_line all_below is_digit digit_of
unlike_long = refl
