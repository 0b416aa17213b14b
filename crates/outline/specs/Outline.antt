-- Numbers, names and doubles as a person reads them, in ASCII. Assumes nothing.
use Rattle.std.specs.Prelude.{ℕ, zero, suc, ◌+◌, ◌-◌, ◌*◌, ◌/◌, ◌%◌, min, ◌≡◌, Bool, not, List, [], ◌∷◌, ◌++◌, eqb, ltb, length}
use Rattle.std.proofs.lemmas.List.Edits.{sets}
use Rattle.io.specs.Digits.{hex_digit_ascii}
use Rattle.record.specs.Choose.{if, both, either, among}

-- a line with xs stored from place `at` on: what stands before and behind stays, and what finds no room is cut
unfoldable pub line_of : List ℕ → ℕ → List ℕ → List ℕ
line_of line at xs = sets line at xs

-- how many bytes of it are then said
abbrev pub said_of : List ℕ → ℕ → List ℕ → ℕ
said_of line at xs = min (length line) (at + length xs)

-- xs is put into a line from place `at` on, and r bytes of it are said
pub record Says (before : List ℕ) (at : ℕ) (xs after : List ℕ) (r : ℕ) : Type 0 where
  pub line : after ≡ line_of before at xs
  pub said : r ≡ said_of before at xs

-- the last decimal digit of a number
abbrev pub last_digit : ℕ → ℕ
last_digit n = 48 + n % 10

-- a number in decimal, with at most so many digits before the last
unfoldable pub digits_of : ℕ → ℕ → List ℕ
digits_of zero n = last_digit n ∷ []
digits_of (suc more) n = if (ltb n 10) (last_digit n ∷ []) (digits_of more (n / 10) ++ (last_digit n ∷ []))

-- a number below 2^64, which has at most twenty digits
abbrev pub decimal_of : ℕ → List ℕ
decimal_of n = digits_of 19 n

-- eight bytes as an integer, two's complement
unfoldable pub integer_of : ℕ → List ℕ
integer_of n = if (ltb n 9223372036854775808) (decimal_of n) (45 ∷ decimal_of (18446744073709551616 - n))

-- a byte that stands for itself in a name: printable, neither a quotation mark nor a backslash
unfoldable pub plain : ℕ → Bool
plain x = both (among 32 126 x) (both (not (eqb x 34)) (not (eqb x 92)))

-- a byte of a name: itself, or a backslash, x and two hexadecimal digits
unfoldable pub escaped : ℕ → List ℕ
escaped x = if (plain x) (x ∷ []) (92 ∷ 120 ∷ hex_digit_ascii (x / 16) ∷ hex_digit_ascii (x % 16) ∷ [])

-- the bytes of a name
unfoldable pub name_of : List ℕ → List ℕ
name_of [] = []
name_of (x ∷ xs) = escaped x ++ name_of xs

-- eight bytes as a double: sign, exponent and fraction
abbrev pub exponent_of : ℕ → ℕ
exponent_of n = n / 4503599627370496 % 2048

abbrev pub fraction_of : ℕ → ℕ
fraction_of n = n % 4503599627370496

-- the sign, where there is one
unfoldable pub sign_of : ℕ → List ℕ
sign_of n = if (ltb n 9223372036854775808) [] (45 ∷ [])

-- a fraction of 52 bits as so many hexadecimal digits, without the zeros at its end
unfoldable pub hexes_of : ℕ → ℕ → List ℕ
hexes_of zero f = []
hexes_of (suc left) f = if (eqb f 0) [] (hex_digit_ascii (f / 281474976710656 % 16) ∷ hexes_of left (f % 281474976710656 * 16))

-- the part after the point, where there is one
unfoldable pub point_of : ℕ → List ℕ
point_of f = if (eqb f 0) [] (46 ∷ hexes_of 13 f)

-- the exponent that is written: 0 and the numbers below 2^-1022 have one of their own
unfoldable pub written_of : ℕ → ℕ → ℕ
written_of e f = if (eqb e 0) (if (eqb f 0) 1023 1) e

-- the power of two, with its sign
unfoldable pub power_of : ℕ → List ℕ
power_of e = if (ltb e 1023) (112 ∷ 45 ∷ decimal_of (1023 - e)) (112 ∷ 43 ∷ decimal_of (e - 1023))

-- before the point: 0x1, or 0x0 where the number is below 2^-1022
unfoldable pub lead_of : ℕ → List ℕ
lead_of e = 48 ∷ 120 ∷ if (eqb e 0) 48 49 ∷ []

-- a double as C's %a writes it
unfoldable pub hex_of : ℕ → List ℕ
hex_of n = sign_of n ++ (lead_of (exponent_of n) ++ (point_of (fraction_of n) ++ power_of (written_of (exponent_of n) (fraction_of n))))

-- a number halved so many times; 0 where a half is not whole
unfoldable pub halved_of : ℕ → ℕ → ℕ
halved_of zero m = m
halved_of (suc k) m = if (eqb (m % 2) 0) (halved_of k (m / 2)) 0

-- the size of a double that is a whole number below 2^53; 0 of any other
unfoldable pub whole_of : ℕ → ℕ
whole_of n = if (among 1023 1075 (exponent_of n)) (halved_of (1075 - exponent_of n) (4503599627370496 + fraction_of n)) 0

-- a double is a whole number below 2^53: its size is not 0, or it is 0
unfoldable pub is_whole : ℕ → Bool
is_whole n = either (ltb 0 (whole_of n)) (eqb (n % 9223372036854775808) 0)

-- .. then in plain digits too, in brackets
unfoldable pub digits_too : ℕ → List ℕ
digits_too n = if (is_whole n) (32 ∷ 40 ∷ (sign_of n ++ (decimal_of (whole_of n) ++ (41 ∷ [])))) []

-- a double: exactly, and in plain digits too
unfoldable pub double_of : ℕ → List ℕ
double_of n = hex_of n ++ digits_too n
