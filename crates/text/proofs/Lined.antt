-- Laws of `specs/Text.antt`'s judging of lines. Assumes nothing.
use Rattle.std.specs.Prelude.{Ok, Err}
use mathlib.Core.Path.{◌≡◌, refl, sym, ap, ◌∙◌}
use mathlib.Core.Bool.{Bool, true, false}
use mathlib.Core.List.{List}
use Prim.Native.Nat.{ℕ, zero, suc, ◌+◌, ◌<◌, ◌≤◌}
use native.Mathlib.Omega.{arith}
use native.Mathlib.Nat.{eq-or-lt_of_le}
use mathlib.Core.Logic.{⊎_elim}
use borrow.Author.Tests.{le-leb, lt-leb, leb-true, eqb-true}
use lib.Dec.{leb, eqb}
use lib.ListN.{length, get_or}
use Rattle.record.specs.Choose.{if, both}
use Rattle.record.specs.Below.{all_below}
use Rattle.record.proofs.Choose.{both_left, both_right}
use Rattle.record.proofs.Below.{all_at}
use Rattle.text.specs.Text.{digits, lf, line_length, start, good_line, digit_at, judge_from, Judged}
use Rattle.text.specs.declared.Fault.TheVariants.{Wrong, Over}
use Rattle.text.proofs.Widths.{start_more, start_below}

-- one step of the judging, by the tests that it makes
module _ (w : ℕ) (s : List ℕ) where
  pub judge_end : (k n : ℕ) {at : ℕ} → at ≡ start w n → length s ≤ at → judge_from w s k n ≡ Ok n
  unfolding judge_from
  judge_end zero n e h = simp (le-leb (length s) (start w n) (omega arith))
  judge_end (suc k) n e h = simp (le-leb (length s) (start w n) (omega arith))

  pub judge_over : (n : ℕ) {at : ℕ} → at ≡ start w n → at < length s → judge_from w s 0 n ≡ (Err Over)
  unfolding judge_from
  judge_over n e h = simp (lt-leb (length s) (start w n) (omega arith))

  pub judge_wrong : (k m n : ℕ) {at : ℕ} → k ≡ suc m → at ≡ start w n → at < length s → good_line w s at ≡ false → judge_from w s k n ≡ Err (Wrong (n + 1))
  unfolding judge_from
  judge_wrong k m n z e h g = rw (z, ← e) (simp (lt-leb (length s) _ h, g))

  pub judge_more : (k m n : ℕ) {at : ℕ} → k ≡ suc m → at ≡ start w n → at < length s → good_line w s at ≡ true → judge_from w s k n ≡ judge_from w s m (n + 1)
  unfolding judge_from
  judge_more k m n z e h g = rw (z, ← e) (simp (lt-leb (length s) _ h, g))

-- a good line is within the text, ends in LF, and has only digits before it
module _ (w : ℕ) (s : List ℕ) (at : ℕ) (g : good_line w s at ≡ true) where
  pub good_within : at + line_length w ≤ length s
  unfolding good_line
  good_within = leb-true (at + line_length w) (length s) (both_left _ (both (eqb (get_or s (at + digits w) 0) lf) (all_below (digit_at s at) (digits w))) g)

  pub good_end : get_or s (at + digits w) 0 ≡ lf
  unfolding good_line
  good_end = eqb-true (get_or s (at + digits w) 0) lf (both_left _ _ (both_right (leb (at + line_length w) (length s)) _ g))

  pub good_digit : (k : ℕ) → k < digits w → digit_at s at k ≡ true
  unfolding good_line
  good_digit k h = all_at (digit_at s at) (digits w) (both_right (eqb (get_or s (at + digits w) 0) lf) _ (both_right (leb (at + line_length w) (length s)) _ g)) k h

-- a text that is judged good from line n + 1 on
pub record Lined (w : ℕ) (s : List ℕ) (k n m : ℕ) : Type 0 where
  pub long : length s ≡ start w m
  pub from : n ≤ m
  pub few : m ≤ n + k
  pub good : (j : ℕ) → n ≤ j → j < m → good_line w s (start w j) ≡ true

lined_end : (w : ℕ) (s : List ℕ) (k n m : ℕ) → start w n ≤ length s → length s ≤ start w n → ◌≡◌ {A = Judged} (Ok n) (Ok m) → Lined w s k n m
lined_end w s k n m at h e =
    let q : n ≡ m = cc in
    record { long = omega (arith, ap (start w) q); from = omega arith; few = omega arith; good = λ j a b. absurd (omega arith) }

lined_zero : (w : ℕ) (s : List ℕ) (n m : ℕ) (b : Bool) → leb (length s) (start w n) ≡ b → start w n ≤ length s → if b (Ok n) (Err Over) ≡ Ok m → Lined w s 0 n m
lined_zero w s n m true t at e = lined_end w s 0 n m at (leb-true (length s) (start w n) t) e
lined_zero w s n m false t at e = let z : ◌≡◌ {A = ℕ} 0 1 = cc in absurd (omega arith)

lined_suc : (w : ℕ) (s : List ℕ) (r : Judged) (k n m : ℕ) (b g : Bool) → leb (length s) (start w n) ≡ b → good_line w s (start w n) ≡ g
    → (start w (n + 1) ≤ length s → r ≡ Ok m → Lined w s k (n + 1) m)
    → start w n ≤ length s → if b (Ok n) (if g r (Err (Wrong (n + 1)))) ≡ Ok m → Lined w s (suc k) n m
lined_suc w s r k n m true g t u ih at e = lined_end w s (suc k) n m at (leb-true (length s) (start w n) t) e
lined_suc w s r k n m false false t u ih at e = let z : ◌≡◌ {A = ℕ} 0 1 = cc in absurd (omega arith)
lined_suc w s r k n m false true t u ih at e =
    let l : Lined w s k (n + 1) m = ih (omega (arith, start_more w n, good_within w s (start w n) u)) e in
    record { long = l.long; from = omega arith; few = omega arith; good = λ j a b. ⊎_elim (λ q. ap (λ (i : ℕ). good_line w s (start w i)) (sym q) ∙ u) (λ a'. l.good j (omega arith) b) (eq-or-lt_of_le a) }

pub judge_lined : (w : ℕ) (s : List ℕ) (k n m : ℕ) → start w n ≤ length s → judge_from w s k n ≡ Ok m → Lined w s k n m
unfolding judge_from
judge_lined w s zero n m at e = lined_zero w s n m (leb (length s) (start w n)) refl at e
judge_lined w s (suc k) n m at e = lined_suc w s (judge_from w s k (n + 1)) k n m (leb (length s) (start w n)) (good_line w s (start w n)) refl refl (judge_lined w s k (n + 1) m) at e

-- a text of good lines is judged good
pub judge_good : (w : ℕ) (s : List ℕ) (k n m : ℕ) → length s ≡ start w m → n ≤ m → m ≤ n + k → ((j : ℕ) → n ≤ j → j < m → good_line w s (start w j) ≡ true) → judge_from w s k n ≡ Ok m
judge_good w s zero n m l a b g = let e : n ≡ m = omega arith in judge_end w s 0 n refl (omega (arith, ap (start w) e)) ∙ ap Ok e
judge_good w s (suc k) n m l a b g =
    ⊎_elim (λ e. judge_end w s (suc k) n refl (omega (arith, ap (start w) e)) ∙ ap Ok e)
    (λ h. judge_more w s (suc k) k n refl refl (omega (arith, start_below w n m h)) (g n (omega arith) h) ∙ judge_good w s k (n + 1) m l (omega arith) (omega arith) (λ j c d. g j (omega arith) d))
    (eq-or-lt_of_le a)

-- the line of a refusal is one that may be there
wrong_suc : (r : Judged) (k n line : ℕ) (b g : Bool) → (r ≡ Err (Wrong line) → line ≤ n + 1 + k)
    → if b (Ok n) (if g r (Err (Wrong (n + 1)))) ≡ Err (Wrong line) → line ≤ n + suc k
wrong_suc r k n line true g ih e = let z : ◌≡◌ {A = ℕ} 0 1 = cc in absurd (omega arith)
wrong_suc r k n line false true ih e = omega (arith, ih e)
wrong_suc r k n line false false ih e = let q : n + 1 ≡ line = cc in omega arith

wrong_zero : (n line : ℕ) (b : Bool) → if b (Ok n) (Err Over) ≡ Err (Wrong line) → line ≤ n + 0
wrong_zero n line true e = let z : ◌≡◌ {A = ℕ} 0 1 = cc in absurd (omega arith)
wrong_zero n line false e = let z : ◌≡◌ {A = ℕ} 0 1 = cc in absurd (omega arith)

pub wrong_within : (w : ℕ) (s : List ℕ) (k n line : ℕ) → judge_from w s k n ≡ Err (Wrong line) → line ≤ n + k
unfolding judge_from
wrong_within w s zero n line e = wrong_zero n line (leb (length s) (start w n)) e
wrong_within w s (suc k) n line e = wrong_suc (judge_from w s k (n + 1)) k n line (leb (length s) (start w n)) (good_line w s (start w n)) (wrong_within w s k (n + 1) line) e
