-- Laws of the tests of `specs/First.antt`. Assumes nothing.
use mathlib.Core.Path.{◌≡◌, refl, sym, ap, ◌∙◌}
use mathlib.Core.Bool.{Bool, true, false}
use mathlib.Core.Logic.{⊎_elim}
use Prim.Native.Nat.{ℕ, zero, suc, ◌+◌, ◌-◌, ◌≤◌, ◌<◌}
use native.Mathlib.Nat.{eq-or-lt_of_le, le_of_suc-le-suc, not-suc-le-zero}
use native.Mathlib.Numerals.{add-one}
use native.Mathlib.Omega.{arith}
use Rattle.record.specs.Choose.{if}
use Rattle.fields.specs.First.{count_below, last_below, first_from}

-- a Bool is one of the two
pub by : {A : Type 0} (t : Bool) → (t ≡ true → A) → (t ≡ false → A) → A
by true f g = f refl
by false f g = g refl

-- two tests that agree
pub count_same : (f g : ℕ → Bool) (n : ℕ) → ((j : ℕ) → j < n → f j ≡ g j) → count_below f n ≡ count_below g n
unfolding count_below
count_same f g zero h = refl
count_same f g (suc n) h = rw (h n (omega arith), count_same f g n (λ j l. h j (omega arith)))

module _ (f : ℕ → Bool) where
  pub last_is : (n k : ℕ) → k < n → f k ≡ true → ((j : ℕ) → k < j → j < n → f j ≡ false) → last_below f n ≡ k
  unfolding last_below
  last_is zero k h e g = absurd (not-suc-le-zero h)
  last_is (suc n) k h e g =
      ⊎_elim (λ (q : k ≡ n). rw (← q, e))
      (λ (l : k < n). rw (g n l (omega arith)) (last_is n k l e (λ j a z. g j a (omega arith))))
      (eq-or-lt_of_le (le_of_suc-le-suc h))

  pub last_ge : (n k : ℕ) → k < n → f k ≡ true → k ≤ last_below f n
  unfolding last_below
  last_ge zero k h e = absurd (not-suc-le-zero h)
  last_ge (suc n) k h e =
      ⊎_elim (λ (q : k ≡ n). rw (← q, e) (omega arith))
      (λ (l : k < n). by (f n) (λ t. rw t (omega arith)) (λ t. rw t (last_ge n k l e)))
      (eq-or-lt_of_le (le_of_suc-le-suc h))

  -- where some number passes, the last passes and is below
  pub last_of : (n k : ℕ) → k < n → f k ≡ true → (f (last_below f n) ≡ true) × (last_below f n < n)
  unfolding last_below
  last_of zero k h e = absurd (not-suc-le-zero h)
  last_of (suc n) k h e =
      by (f n) (λ t. rw t (t, omega arith))
      (λ t. ⊎_elim (λ (q : k ≡ n). let z : ◌≡◌ {A = Bool} true false = sym e ∙ ap f q ∙ t in let w : ◌≡◌ {A = ℕ} 0 1 = cc in absurd (omega arith))
      (λ (l : k < n). let w = last_of n k l e in rw t (w.0, omega (arith, w.1)))
      (eq-or-lt_of_le (le_of_suc-le-suc h)))

  -- none passes from k on
  pub count_skip : (n k : ℕ) → k ≤ n → ((j : ℕ) → k ≤ j → j < n → f j ≡ false) → count_below f n ≡ count_below f k
  unfolding count_below
  count_skip zero zero h g = refl
  count_skip zero (suc k) h g = absurd (omega arith)
  count_skip (suc n) k h g =
      ⊎_elim (λ (q : k ≡ suc n). rw q)
      (λ (l : k < suc n). rw (g n (omega arith) (omega arith)) (omega (arith, count_skip n k (omega arith) (λ j a z. g j a (omega arith)))))
      (eq-or-lt_of_le h)

  pub count_one : (n : ℕ) → f n ≡ true → count_below f (n + 1) ≡ count_below f n + 1
  unfolding count_below
  count_one n e = rw (add-one n, e)

  -- one more number
  pub count_more : (n : ℕ) → count_below f (n + 1) ≡ count_below f n + if (f n) 1 0
  unfolding count_below
  count_more n = rw (add-one n)

  pub count_le : (n : ℕ) → count_below f n ≤ n
  unfolding count_below
  count_le zero = omega arith
  count_le (suc n) = by (f n) (λ t. rw t (omega (arith, count_le n))) (λ t. rw t (omega (arith, count_le n)))

  -- how the first that fails is found
  pub first_none : (i k : ℕ) → k ≡ 0 → first_from f i k ≡ i
  unfolding first_from
  first_none i k e = rw e

  pub first_here : (i k : ℕ) → 0 < k → f i ≡ false → first_from f i k ≡ i
  unfolding first_from
  first_here i zero h e = absurd (omega arith)
  first_here i (suc k) h e = rw e

  pub first_next : (i k m : ℕ) → k ≡ m + 1 → f i ≡ true → first_from f i k ≡ first_from f (i + 1) m
  unfolding first_from
  first_next i k m h e = rw (h, add-one m, e)

  pub first_le : (i k : ℕ) → first_from f i k ≤ i + k
  unfolding first_from
  first_le i zero = omega arith
  first_le i (suc k) = by (f i) (λ t. rw t (omega (arith, first_le (i + 1) k))) (λ t. rw t (omega arith))

  -- all pass: the search goes on behind them
  pub first_past : (i k m : ℕ) → k ≤ m → first_from f i k ≡ i + k → first_from f i m ≡ first_from f (i + k) (m - k)
  unfolding first_from
  first_past i zero m h e = let a : i + 0 ≡ i = omega arith in let z : m - 0 ≡ m = omega arith in rw (a, z)
  first_past i (suc k) zero h e = absurd (omega arith)
  first_past i (suc k) (suc m) h e =
      by (f i) (λ t. let u : first_from f (i + 1) k ≡ i + 1 + k = (rw t at e) ∙ omega arith in
      let z : i + 1 + k ≡ i + suc k = omega arith in
      let y : suc m - suc k ≡ m - k = omega arith in
      rw (t, y) (first_past (i + 1) k m (omega arith) u ∙ rw z))
      (λ t. let u : i ≡ i + suc k = rw t at e in absurd (omega arith))

  -- one fails: what stands behind is not looked at
  pub first_in : (i k m : ℕ) → k ≤ m → first_from f i k < i + k → first_from f i m ≡ first_from f i k
  unfolding first_from
  first_in i zero m h e = absurd (omega arith)
  first_in i (suc k) zero h e = absurd (omega arith)
  first_in i (suc k) (suc m) h e =
      by (f i) (λ t. let u : first_from f (i + 1) k < i + suc k = rw t at e in rw t (first_in (i + 1) k m (omega arith) (omega arith)))
      (λ t. rw t)

  -- each before the first that fails passes, and the first that fails does fail
  pub first_before : (i k j : ℕ) → i ≤ j → j < first_from f i k → f j ≡ true
  unfolding first_from
  first_before i zero j a z = absurd (omega arith)
  first_before i (suc k) j a z =
      by (f i) (λ t. ⊎_elim (λ (q : i ≡ j). ap f (sym q) ∙ t) (λ (l : i < j). first_before (i + 1) k j (omega arith) (rw t at z)) (eq-or-lt_of_le a))
      (λ t. let u : j < i = rw t at z in absurd (omega arith))

  pub first_all : (i k : ℕ) → first_from f i k ≡ i + k → (j : ℕ) → i ≤ j → j < i + k → f j ≡ true
  first_all i k e j a z = first_before i k j a (omega arith)

  pub first_fails : (i k : ℕ) → first_from f i k < i + k → f (first_from f i k) ≡ false
  unfolding first_from
  first_fails i zero h = absurd (omega arith)
  first_fails i (suc k) h =
      by (f i) (λ t. let u : first_from f (i + 1) k < i + suc k = rw t at h in rw t (first_fails (i + 1) k (omega arith))) (λ t. rw t t)

  -- where it is
  pub first_is : (i k m : ℕ) → i ≤ m → m < i + k → f m ≡ false → ((j : ℕ) → i ≤ j → j < m → f j ≡ true) → first_from f i k ≡ m
  unfolding first_from
  first_is i zero m l h e g = absurd (omega arith)
  first_is i (suc k) m l h e g =
      ⊎_elim (λ (q : i ≡ m). rw (ap f q ∙ e) q)
      (λ (z : i < m). rw (g i (omega arith) z) (first_is (i + 1) k m (omega arith) (omega arith) e (λ j a v. g j (omega arith) v)))
      (eq-or-lt_of_le l)

  -- each passes: the search runs through
  pub first_reach_all : (i k : ℕ) → ((j : ℕ) → i ≤ j → j < i + k → f j ≡ true) → first_from f i k ≡ i + k
  unfolding first_from
  first_reach_all i zero h = omega arith
  first_reach_all i (suc k) h = rw (h i (omega arith) (omega arith)) (first_reach_all (i + 1) k (λ j a z. h j (omega arith) (omega arith)) ∙ omega arith)

  pub first_reach : (n : ℕ) → ((j : ℕ) → j < n → f j ≡ true) → n ≤ first_from f 0 n
  first_reach n h = omega (arith, first_reach_all 0 n (λ j a z. h j (omega arith)))

-- what a loop needs that looks for the first that fails
pub ruleset search_steps = (first_here, first_next, first_none)
