-- Letters and values undo one another: tests that antt computes at each byte. Assumes nothing.
use mathlib.Core.Path.{◌≡◌, refl, ◌∙◌}
use mathlib.Core.Bool.{Bool, true, false}
use Prim.Native.Nat.{ℕ, ◌%◌, ◌<◌}
use native.Mathlib.Omega.{arith}
use borrow.Author.Tests.{eqb-true}
use lib.Dec.{eqb}
use Rattle.record.specs.Choose.{if, both}
use Rattle.record.specs.Below.{all_below}
use Rattle.record.proofs.Choose.{no_false, both_left, both_right}
use Rattle.record.proofs.Below.{all_at}
use Rattle.text.specs.Hex.{digit_of, is_digit, digit_value, letter_of}
use Rattle.text.specs.Text.{lf}
use Rattle.text.specs.RoundTrip.{upper}

-- only the last digit counts
pub letter_last : (n : ℕ) → letter_of n ≡ letter_of (n % 16)
unfolding letter_of
letter_last n = let e : n % 16 % 16 ≡ n % 16 = omega arith in rw e

letters : all_below (λ (n : ℕ). both (eqb (digit_value (letter_of n)) n) (is_digit (letter_of n))) 16 ≡ true
unfolding all_below digit_value is_digit digit_of letter_of
letters = refl

pub value_letter : (n : ℕ) → digit_value (letter_of n) ≡ n % 16
value_letter n = rw (letter_last n) (eqb-true (digit_value (letter_of (n % 16))) (n % 16) (both_left _ _ (all_at _ 16 letters (n % 16) (omega arith))))

pub digit_letter : (n : ℕ) → is_digit (letter_of n) ≡ true
digit_letter n = rw (letter_last n) (both_right (eqb (digit_value (letter_of (n % 16))) (n % 16)) _ (all_at _ 16 letters (n % 16) (omega arith)))

implied : (a b : Bool) → if a b true ≡ true → a ≡ true → b ≡ true
implied true b p q = p
implied false b p q = cc

capitals : all_below (λ (c : ℕ). if (is_digit c) (eqb (letter_of (digit_value c)) (upper c)) true) 256 ≡ true
unfolding all_below digit_value is_digit digit_of letter_of
capitals = refl

pub letter_value : (c : ℕ) → c < 256 → is_digit c ≡ true → letter_of (digit_value c) ≡ upper c
letter_value c h d = eqb-true (letter_of (digit_value c)) (upper c) (implied (is_digit c) _ (all_at _ 256 capitals c h) d)

-- LF is no digit, and no digit's capital
pub digit_no_lf : (c : ℕ) → is_digit c ≡ true → c ≡ lf → ⊥
unfolding is_digit digit_of
digit_no_lf c d e = let z : false ≡ true = rw e at d in no_false z

pub capital_no_lf : (c : ℕ) → c < 256 → is_digit c ≡ true → upper c ≡ lf → ⊥
capital_no_lf c h d e = digit_no_lf (letter_of (digit_value c)) (digit_letter (digit_value c)) (letter_value c h d ∙ e)
