-- Laws of `specs/Budget.antt`, for the reading of a word. Assumes nothing.
use Rattle.std.specs.Prelude.{Some, None}
use mathlib.Core.Path.{◌≡◌, refl}
use mathlib.Core.Bool.{true, false}
use mathlib.Core.List.{List}
use Prim.Native.Nat.{ℕ, zero, suc, ◌+◌, ◌-◌, ◌*◌, ◌<◌, ◌≤◌}
use native.Mathlib.Numerals.{add-one}
use native.Mathlib.Omega.{arith}
use borrow.Author.Tests.{lt-ltb, le-ltb, le-leb, lt-leb}
use lib.ListN.{length, get_or}
use Rattle.record.specs.Below.{all_below}
use Rattle.record.proofs.Choose.{both_false}
use Rattle.record.proofs.Below.{all_false}
use Rattle.ticks.specs.Budget.{is_decimal, decimal_of, budget_of}

pub decimal_none : (word : List ℕ) → 0 ≡ decimal_of word 0
unfolding decimal_of
decimal_none word = refl

pub decimal_more : (word : List ℕ) (i : ℕ) → decimal_of word (i + 1) ≡ 10 * decimal_of word i + (get_or word i 0 - 48)
unfolding decimal_of
decimal_more word i = rw (add-one i)

-- more digits make no smaller number
decimal_grows : (word : List ℕ) (i more : ℕ) → decimal_of word i ≤ decimal_of word (more + i)
unfolding decimal_of
decimal_grows word i zero = let e : 0 + i ≡ i = omega arith in rw e (omega arith)
decimal_grows word i (suc more) = let e : suc more + i ≡ suc (more + i) = omega arith in rw e (omega (arith, decimal_grows word i more))

-- what a word is, by what is found in it
pub budget_empty : (word : List ℕ) → length word ≤ 0 → None ≡ budget_of word
unfolding budget_of
budget_empty word h = simp (le-ltb 0 (length word) h)

pub budget_other : (word : List ℕ) (i : ℕ) → i < length word → is_decimal word i ≡ false → None ≡ budget_of word
unfolding budget_of
budget_other word i h e = simp (lt-ltb 0 (length word) (omega arith), all_false (is_decimal word) (length word) i h e)

pub budget_large : (word : List ℕ) (i : ℕ) → i < length word → 18446744073709551615 < decimal_of word (i + 1) → None ≡ budget_of word
unfolding budget_of
budget_large word i h l =
    let e : length word - (i + 1) + (i + 1) ≡ length word = omega arith in
    let g : decimal_of word (i + 1) ≤ decimal_of word (length word) = rw e at (decimal_grows word (i + 1) (length word - (i + 1))) in
    simp (lt-ltb 0 (length word) (omega arith), lt-leb (decimal_of word (length word)) 18446744073709551615 (omega arith), both_false (all_below (is_decimal word) (length word)))

pub budget_done : (word : List ℕ) (i : ℕ) {n : ℕ} → 0 < length word → i ≡ length word → all_below (is_decimal word) i ≡ true → n ≡ decimal_of word i
    → n ≤ 18446744073709551615 → Some n ≡ budget_of word
unfolding budget_of
budget_done word i h e a d l = rw (d, e) (simp (lt-ltb 0 (length word) h, rw e at a, le-leb (decimal_of word (length word)) 18446744073709551615 (omega (arith, rw (d, e) at l))))
