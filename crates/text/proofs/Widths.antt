-- Where lines begin, and how many bytes they say: laws of `specs/Text.antt`'s `start` and `width`. Assumes nothing.
use mathlib.Core.Path.{◌≡◌, refl, ◌∙◌}
use mathlib.Core.Bool.{Bool, true, false}
use mathlib.Core.List.{List}
use mathlib.Core.Logic.{◌⊎◌, inl, inr}
use Prim.Native.Nat.{ℕ, ◌+◌, ◌*◌, ◌/◌, ◌%◌, ◌<◌, ◌≤◌}
use native.Mathlib.Nat.{add-zero, mul-le-mul_left, mul-le-mul_right, mul-add-div, div-eq_of_lt}
use native.Mathlib.Omega.{arith}
use borrow.Author.Tests.{lt-ltb, le-ltb, eq-eqb, ne_eqb}
use lib.Dec.{eqb}
use lib.ListN.{length, get_or, get_or-eq_default}
use Rattle.record.specs.Choose.{if}
use Rattle.record.specs.Bytes.{size}
use Rattle.text.specs.Hex.{digit_value}
use Rattle.text.specs.Text.{short_size, digits, lf, line_length, start, width, byte_at}

pub start_none : (w : ℕ) → start w 0 ≡ 0
unfolding start
start_none w = omega arith

-- the first line begins in every text
pub start_first : (w : ℕ) (s : List ℕ) → start w 0 ≤ length s
start_first w s = omega (arith, start_none w)

pub start_more : (w n : ℕ) → start w (n + 1) ≡ start w n + line_length w
unfolding start
start_more w n = omega arith

pub start_long : (n : ℕ) → start size n ≡ line_length size * n
unfolding start
start_long n = refl

-- each line is whole before a later one begins
pub start_below : (w j n : ℕ) → j < n → start w j + line_length w ≤ start w n
unfolding start
start_below w j n h = omega (arith, mul-le-mul_left (line_length w) h)

-- a text is no shorter than its records, and no longer than it is when it is written
pub start_least : (w n : ℕ) → short_size ≤ w → size * n ≤ start w n
unfolding start
start_least w n h = let g : size ≤ line_length w = omega arith in mul-le-mul_right n g

pub start_most : (w n : ℕ) → w ≤ size → start w n ≤ line_length size * n
unfolding start
start_most w n h = let g : line_length w ≤ line_length size = omega arith in mul-le-mul_right n g

-- the line that a byte stands in
pub line_of : (w n j : ℕ) → j < line_length w → (start w n + j) / line_length w ≡ n
unfolding start
line_of w n j h = let some : 0 < line_length w = omega arith in mul-add-div some n j ∙ rw (div-eq_of_lt h) (add-zero n)

-- there are two widths
pub width_short : (s : List ℕ) → get_or s (digits short_size) 0 ≡ lf → width s ≡ short_size
unfolding width
width_short s e = simp (eq-eqb (get_or s (digits short_size) 0) lf e)

pub width_long : (s : List ℕ) → (get_or s (digits short_size) 0 ≡ lf → ⊥) → width s ≡ size
unfolding width
width_long s n = simp (ne_eqb (get_or s (digits short_size) 0) lf n)

pub width_none : (s : List ℕ) → length s ≤ digits short_size → width s ≡ size
width_none s h = width_long s (λ z. omega (arith, get_or-eq_default s 0 {n = digits short_size} h))

within : (b : Bool) → (short_size ≤ if b short_size size) × (if b short_size size ≤ size)
within true = omega arith
within false = omega arith

pub width_within : (s : List ℕ) → (short_size ≤ width s) × (width s ≤ size)
unfolding width
width_within s = within (eqb (get_or s (digits short_size) 0) lf)

either : (b : Bool) → (if b short_size size ≡ short_size) ⊎ (if b short_size size ≡ size)
either true = inl refl
either false = inr refl

pub width_either : (s : List ℕ) → (width s ≡ short_size) ⊎ (width s ≡ size)
unfolding width
width_either s = either (eqb (get_or s (digits short_size) 0) lf)

-- a byte of the records, by whether a line says it
pub said : (s : List ℕ) (i w : ℕ) → w ≡ width s → i % size < w
    → byte_at s i ≡ 16 * digit_value (get_or s (start w (i / size) + digits (i % size)) 0) + digit_value (get_or s (start w (i / size) + digits (i % size) + 1) 0)
unfolding byte_at
said s i w e h = rw (← e) (simp (lt-ltb (i % size) w h))

pub unsaid : (s : List ℕ) (i w : ℕ) → w ≡ width s → w ≤ i % size → byte_at s i ≡ 0
unfolding byte_at
unsaid s i w e h = rw (← e) (simp (le-ltb (i % size) w h))
