-- Lines with a wrong digit are read as zeros: `specs/Wrong.antt`'s claims. Assumes nothing.
use mathlib.Core.Path.{◌≡◌, refl, sym, ap, ◌∙◌}
use mathlib.Core.Bool.{Bool, true, false, not}
use mathlib.Core.List.{List}
use Prim.Native.Nat.{ℕ, ◌+◌, ◌*◌, ◌/◌, ◌%◌, ◌<◌, ◌≤◌}
use native.Mathlib.Omega.{arith}
use borrow.Author.Tests.{ltb-true, ltb-false, leb-true, leb-false, ne_eqb}
use lib.Dec.{ltb, leb, eqb}
use lib.ListN.{length, get_or, take, get_or-eq_default}
use lib.Seq.{get_or-take}
use Rattle.record.specs.Choose.{if, both}
use Rattle.record.specs.Bytes.{size, most_records}
use Rattle.record.proofs.Below.{all_same}
use Rattle.record.proofs.Table.{length_tab, get_d_tab}
use Rattle.text.specs.Hex.{digit_of, is_digit, digit_value}
use Rattle.text.specs.Text.{short_size, digits, lf, line_length, start, width, digit_at, good_line, judge_from, read_of, byte_at}
use Rattle.text.specs.RoundTrip.{zero_digit}
use Rattle.text.specs.Wrong.{legible, zeroed_at, zeroed, right_length, RightIsGood, GoodOrZeros, ZeroedFirstBytes}
use Rattle.text.proofs.Letters.{digit_no_lf}
use Rattle.text.proofs.Widths.{said, unsaid, width_within}
use Rattle.text.proofs.Lined.{good_digit}
use Rattle.text.proofs.FirstBytes.{judged_alike, ends_same, fits_same, width_same}
use Rattle.text.proofs.Zeroed.{zeroed_byte}

-- the rest counts only where the first test passes
both_when : (a b c : Bool) → (a ≡ true → b ≡ c) → both a b ≡ both a c
both_when true b c h = h refl
both_when false b c h = refl

-- a byte made legible is LF where it was, a digit where it was not, and 0 where it was made so
lf_if : (b : Bool) → eqb (if b lf zero_digit) lf ≡ b
lf_if true = refl
lf_if false = refl

lf_stays : (good : Bool) (c : ℕ) → eqb (legible good c) lf ≡ eqb c lf
unfolding legible
lf_stays true c = refl
lf_stays false c = lf_if (eqb c lf)

digit_if : (b : Bool) → is_digit (if b lf zero_digit) ≡ not b
unfolding is_digit digit_of
digit_if true = refl
digit_if false = refl

digit_there : (good : Bool) (c : ℕ) → (good ≡ true → is_digit c ≡ true) → is_digit (legible good c) ≡ not (eqb c lf)
unfolding legible
digit_there true c h = h refl ∙ sym (ap not (ne_eqb c lf (digit_no_lf c (h refl))))
digit_there false c h = digit_if (eqb c lf)

value_if : (b : Bool) → digit_value (if b lf zero_digit) ≡ 0
unfolding digit_value digit_of
value_if true = refl
value_if false = refl

value_there : (good : Bool) (c : ℕ) → digit_value (legible good c) ≡ if good (digit_value c) 0
unfolding legible
value_there true c = refl
value_there false c = value_if (eqb c lf)

both_ways : (good : Bool) (a : ℕ) → a ≡ if good a a
both_ways true a = refl
both_ways false a = refl

module _ (s : List ℕ) where
  long_zeroed : length (zeroed s) ≡ length s
  unfolding zeroed
  long_zeroed = length_tab (zeroed_at s) (length s)

  at_zeroed : (i : ℕ) → i < length s → get_or (zeroed s) i 0 ≡ zeroed_at s i
  unfolding zeroed
  at_zeroed i h = get_d_tab (zeroed_at s) (length s) i h

  lf_by : (i : ℕ) (b : Bool) → leb (length s) i ≡ b → eqb (get_or (zeroed s) i 0) lf ≡ eqb (get_or s i 0) lf
  unfolding zeroed_at
  lf_by i true e =
      let h : length s ≤ i = leb-true (length s) i e in
      rw (get_or-eq_default s 0 {n = i} h, get_or-eq_default (zeroed s) 0 {n = i} (omega (arith, long_zeroed)))
  lf_by i false e = rw (at_zeroed i (leb-false (length s) i e)) (lf_stays _ (get_or s i 0))

  lf_zeroed : (i : ℕ) → eqb (get_or (zeroed s) i 0) lf ≡ eqb (get_or s i 0) lf
  lf_zeroed i = lf_by i (leb (length s) i) refl

  width_zeroed : width (zeroed s) ≡ width s
  unfolding width
  width_zeroed = rw (lf_zeroed (digits short_size))

  -- line n + 1
  module _ (n : ℕ) where
    abbrev w : ℕ
    w = width s

    abbrev at : ℕ
    at = start w n

    byte_zeroed : (j : ℕ) → at + line_length w ≤ length s → j < line_length w → get_or (zeroed s) (at + j) 0 ≡ legible (good_line w s at) (get_or s (at + j) 0)
    byte_zeroed j h l = at_zeroed (at + j) (omega arith) ∙ zeroed_byte s n j refl l

    digit_zeroed : (j : ℕ) → at + line_length w ≤ length s → j < digits w → digit_at (zeroed s) at j ≡ not (eqb (get_or s (at + j) 0) lf)
    digit_zeroed j h l = ap is_digit (byte_zeroed j h (omega arith)) ∙ digit_there (good_line w s at) (get_or s (at + j) 0) (λ g. good_digit w s at g j l)

    good_zeroed : good_line w (zeroed s) at ≡ right_length w s at
    unfolding good_line right_length
    good_zeroed =
        rw (long_zeroed, lf_zeroed (at + digits w)) (both_when (leb (at + line_length w) (length s)) _ _ (λ h.
        ap (both (eqb (get_or s (at + digits w) 0) lf)) (all_same (digit_at (zeroed s) at) _ (digits w) (λ j l. digit_zeroed j (leb-true (at + line_length w) (length s) h) l))))

    -- past the text's end there are zeros
    value_by : (j : ℕ) (b : Bool) → leb (length s) (at + j) ≡ b → j < line_length w → digit_value (get_or (zeroed s) (at + j) 0) ≡ if (good_line w s at) (digit_value (get_or s (at + j) 0)) 0
    unfolding digit_value digit_of
    value_by j true e l =
        let h : length s ≤ at + j = leb-true (length s) (at + j) e in
        rw (get_or-eq_default s 0 {n = at + j} h, get_or-eq_default (zeroed s) 0 {n = at + j} (omega (arith, long_zeroed))) (both_ways (good_line w s at) 0)
    value_by j false e l = ap digit_value (at_zeroed (at + j) (leb-false (length s) (at + j) e) ∙ zeroed_byte s n j refl l) ∙ value_there (good_line w s at) (get_or s (at + j) 0)

    value_zeroed : (j : ℕ) → j < line_length w → digit_value (get_or (zeroed s) (at + j) 0) ≡ if (good_line w s at) (digit_value (get_or s (at + j) 0)) 0
    value_zeroed j l = value_by j (leb (length s) (at + j)) refl l

pub right_is_good : RightIsGood
right_is_good s n = (width_zeroed s, good_zeroed s n)

-- two digits or none, of a line that is good or not
two_or_zero : (good : Bool) (a b : ℕ) → 16 * if good a 0 + if good b 0 ≡ if good (16 * a + b) 0
two_or_zero true a b = refl
two_or_zero false a b = refl

module _ (s : List ℕ) (i : ℕ) where
  good_or : (b : Bool) → ltb (i % size) (width s) ≡ b
      → byte_at (zeroed s) i ≡ if (good_line (width s) s (start (width s) (i / size))) (byte_at s i) 0
  good_or true e =
      let l : i % size < width s = ltb-true (i % size) (width s) e in
      let p : ℕ = start (width s) (i / size) in
      let k : p + (digits (i % size) + 1) ≡ p + digits (i % size) + 1 = omega arith in
      let upper = value_zeroed s (i / size) (digits (i % size)) (omega arith) in
      let lower = rw k at (value_zeroed s (i / size) (digits (i % size) + 1) (omega arith)) in
      rw (said (zeroed s) i (width s) (sym (width_zeroed s)) l, said s i (width s) refl l, upper, lower) (two_or_zero (good_line (width s) s p) _ _)
  good_or false e =
      let l : width s ≤ i % size = ltb-false (i % size) (width s) e in
      rw (unsaid (zeroed s) i (width s) (sym (width_zeroed s)) l, unsaid s i (width s) refl l) (both_ways (good_line (width s) s _) 0)

pub good_or_zeros : GoodOrZeros
good_or_zeros s i = good_or s i (ltb (i % size) (width s)) refl

-- a text of any length
module _ (s : List ℕ) (bytes : ℕ) where
  right_same : (w at : ℕ) → at + line_length w ≤ bytes → right_length w (take bytes s) at ≡ right_length w s at
  unfolding right_length
  right_same w at h =
      rw (
        fits_same s bytes (at + line_length w) _ h refl,
        get_or-take bytes s (at + digits w) 0 (omega arith),
        all_same (λ j. not (eqb (get_or (take bytes s) (at + j) 0) lf)) (λ j. not (eqb (get_or s (at + j) 0) lf)) (digits w)
            (λ j l. ap (λ (x : ℕ). not (eqb x lf)) (get_or-take bytes s (at + j) 0 (omega arith))),
      )

  zeroed_long : (t : List ℕ) → length (zeroed t) ≡ length t
  unfolding zeroed
  zeroed_long t = length_tab (zeroed_at t) (length t)

  judged_zeroed : (most : ℕ) → 1 ≤ most → line_length size * most < bytes
      → judge_from (width (zeroed (take bytes s))) (zeroed (take bytes s)) most 0 ≡ judge_from (width (zeroed s)) (zeroed s) most 0
  judged_zeroed most some h =
      let t : List ℕ = take bytes s in
      let w : width t ≡ width s = width_same s bytes (omega arith) in
      let lines : (n : ℕ) → start (width s) n + line_length (width s) ≤ bytes → good_line (width s) (zeroed t) (start (width s) n) ≡ good_line (width s) (zeroed s) (start (width s) n) =
      λ n l. (rw w at (right_is_good t n).1) ∙ right_same (width s) (start (width s) n) l ∙ sym (right_is_good s n).1 in
      rw ((right_is_good t 0).0, (right_is_good s 0).0, w)
      (judged_alike (width s) bytes (zeroed t) (zeroed s) (λ at l. rw (zeroed_long t, zeroed_long s) (ends_same s bytes at _ l refl)) lines most (width_within s).1 h)

pub zeroed_first_bytes : ZeroedFirstBytes
unfolding read_of
zeroed_first_bytes s room bytes h = rw (judged_zeroed s bytes most_records (omega arith) h)
