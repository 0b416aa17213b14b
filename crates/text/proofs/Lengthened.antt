-- A text of short lines, byte by byte against the one that comes back: laws of `specs/RoundTrip.antt`'s `lengthened`. Assumes nothing.
use mathlib.Core.Path.{◌≡◌, refl, sym, ap, ◌∙◌}
use mathlib.Core.List.{List, ◌∷◌, ◌++◌, append-nil}
use Prim.Native.Nat.{ℕ, zero, suc, ◌+◌, ◌-◌, ◌*◌, ◌<◌, ◌≤◌}
use native.Mathlib.Numerals.{add-one}
use native.Mathlib.Nat.{add-zero, le_refl}
use native.Mathlib.Omega.{arith}
use borrow.Author.Tests.{eq-eqb, ne_eqb}
use lib.ListN.{length, get_or, drop}
use lib.Seq.{drop-cons, drop-length, append_snoc}
use Rattle.record.specs.Bytes.{size}
use Rattle.record.specs.Table.{tab}
use Rattle.text.specs.Text.{short_size, digits, lf, line_length}
use Rattle.text.specs.RoundTrip.{zero_digit, lengthened}

-- the zeros that a line lacks
abbrev lacks : ℕ
lacks = digits size - digits short_size

module _ (f : ℕ → ℕ) where
  -- one element more, and some more
  put : (x : ℕ) (rest : List ℕ) (j : ℕ) → f j ≡ x → tab f j ++ (x ∷ rest) ≡ tab f (j + 1) ++ rest
  unfolding tab
  put x rest j e = rw (add-one j, e) (sym (append_snoc (tab f j) x rest))

  pub puts : (g : ℕ → ℕ) (rest : List ℕ) (j n : ℕ) → ((d : ℕ) → d < n → f (j + d) ≡ g d) → tab f j ++ (tab g n ++ rest) ≡ tab f (j + n) ++ rest
  unfolding tab
  puts g rest j zero h = rw (add-zero j)
  puts g rest j (suc n) h =
      let e : j + n + 1 ≡ j + suc n = omega arith in
      ap (λ (l : List ℕ). tab f j ++ l) (append_snoc (tab g n) (g n) rest) ∙ puts g (g n ∷ rest) j n (λ d l. h d (omega arith)) ∙ put (g n) rest (j + n) (h n (omega arith)) ∙ ap (λ (i : ℕ). tab f i ++ rest) e

  module _ (s : List ℕ) where
    -- a digit stays, and so do the digits of a line
    digit_stays : (i j : ℕ) → i < length s → f j ≡ get_or s i 0 → (get_or s i 0 ≡ lf → ⊥) → tab f j ++ lengthened (drop i s) ≡ tab f (j + 1) ++ lengthened (drop (i + 1) s)
    unfolding lengthened
    digit_stays i j h e n = rw (drop-cons s i 0 h, add-one i) (simp (ne_eqb (get_or s i 0) lf n) (put (get_or s i 0) (lengthened (drop (suc i) s)) j e))

    digits_stay : (i j k : ℕ) → i + k ≤ length s → ((d : ℕ) → d < k → f (j + d) ≡ get_or s (i + d) 0) → ((d : ℕ) → d < k → get_or s (i + d) 0 ≡ lf → ⊥)
        → tab f j ++ lengthened (drop i s) ≡ tab f (j + k) ++ lengthened (drop (i + k) s)
    digits_stay i j zero h same inside = rw (add-zero i, add-zero j)
    digits_stay i j (suc k) h same inside =
        let a : i + suc k ≡ i + k + 1 = omega arith in
        let b : j + suc k ≡ j + k + 1 = omega arith in
        rw (a, b) (digits_stay i j k (omega arith) (λ d l. same d (omega arith)) (λ d l. inside d (omega arith)) ∙ digit_stays (i + k) (j + k) (omega arith) (same k (omega arith)) (inside k (omega arith)))

    -- at its end come the zeros
    line_ends : (i j : ℕ) → i < length s → get_or s i 0 ≡ lf → ((d : ℕ) → d < lacks → f (j + d) ≡ zero_digit) → f (j + lacks) ≡ lf
        → tab f j ++ lengthened (drop i s) ≡ tab f (j + lacks + 1) ++ lengthened (drop (i + 1) s)
    unfolding lengthened
    line_ends i j h e z l =
        rw (drop-cons s i 0 h, add-one i) (simp (eq-eqb (get_or s i 0) lf e)
        (puts (λ _. zero_digit) (lf ∷ lengthened (drop (suc i) s)) j lacks z ∙ put lf (lengthened (drop (suc i) s)) (j + lacks) l))

    -- n short lines, and the long ones
    module _ (n : ℕ) (long : length s ≡ line_length short_size * n)
        (same : (q k : ℕ) → q < n → k < digits short_size → f (line_length size * q + k) ≡ get_or s (line_length short_size * q + k) 0)
        (inside : (q k : ℕ) → q < n → k < digits short_size → get_or s (line_length short_size * q + k) 0 ≡ lf → ⊥)
        (ends : (q : ℕ) → q < n → get_or s (line_length short_size * q + digits short_size) 0 ≡ lf)
        (zeros : (q k : ℕ) → q < n → digits short_size ≤ k → k < digits size → f (line_length size * q + k) ≡ zero_digit)
        (end : (q : ℕ) → q < n → f (line_length size * q + digits size) ≡ lf) where
      line_longer : (q : ℕ) → q < n
          → tab f (line_length size * q) ++ lengthened (drop (line_length short_size * q) s) ≡ tab f (line_length size * (q + 1)) ++ lengthened (drop (line_length short_size * (q + 1)) s)
      line_longer q g =
          let i : ℕ = line_length short_size * q in
          let j : ℕ = line_length size * q in
          let a : line_length short_size * (q + 1) ≡ i + digits short_size + 1 = omega arith in
          let b : line_length size * (q + 1) ≡ j + digits short_size + lacks + 1 = omega arith in
          let c : j + digits short_size + lacks ≡ j + digits size = omega arith in
          rw (a, b) (
          digits_stay i j (digits short_size) (omega arith) (λ k h. same q k g h) (λ k h. inside q k g h)
          ∙ line_ends (i + digits short_size) (j + digits short_size) (omega arith) (ends q g)
          (λ d l. let e : j + digits short_size + d ≡ j + (digits short_size + d) = omega arith in rw e (zeros q (digits short_size + d) g (omega arith) (omega arith)))
          (rw c (end q g))
          )

      lines_longer : (q : ℕ) → q ≤ n → lengthened s ≡ tab f (line_length size * q) ++ lengthened (drop (line_length short_size * q) s)
      unfolding tab
      lines_longer zero h = refl
      lines_longer (suc q) h = lines_longer q (omega arith) ∙ line_longer q h ∙ ap (λ (p : ℕ). tab f (line_length size * p) ++ lengthened (drop (line_length short_size * p) s)) (add-one q)

      pub longer : tab f (line_length size * n) ≡ lengthened s
      unfolding lengthened
      longer = sym (lines_longer n (le_refl n) ∙ rw (← long, drop-length s) (append-nil (tab f (line_length size * n))))
