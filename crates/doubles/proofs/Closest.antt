-- The rounded size is the nearest of all sizes that 53 digits hold, and on a tie the one that it keeps is even. Assumes nothing.
use mathlib.Core.Path.{◌≡◌, sym, ap, ◌∙◌}
use mathlib.Core.Logic.{◌⊎◌, inl, inr}
use Prim.Native.Nat.{ℕ, suc, ◌+◌, ◌-◌, ◌*◌, ◌/◌, ◌%◌, ◌^◌, ◌<◌, ◌≤◌, compare, Ordering}
use native.Mathlib.Nat.{le_trans, le_of_eq, lt_of_lt_of_le, mul-le-mul_right, mul-lt-mul_of_pos_right, mul_assoc, add-mul, div-add-mod', mod-lt, div-mul-le_self, one-mul}
use native.Mathlib.Numerals.{add-one}
use native.Mathlib.Omega.{arith}
use lib.Pow.{pow-add, pow_pos, pow_mono}
use lib.Ieee.{size, nearest}
use Rattle.doubles.specs.Rounds.{dropped, even, nearest_size, dist}
use Rattle.doubles.proofs.Overflow.{Cmp, cmp, either, keeps}

-- ---- m is r past a, and the multiples of u are a, what lies at or below it, and what lies at a + u or above
stay : (m r u a b : ℕ) → a + r ≡ m → r < u → (b ≤ a) ⊎ (a + u ≤ b) → r * 2 ≤ u → dist m a ≤ dist m b
stay m r u a b e l s h = elim s [ inl k ↦ omega arith | inr k ↦ omega arith ]

move : (m r u a b : ℕ) → a + r ≡ m → r < u → (b ≤ a) ⊎ (a + u ≤ b) → u ≤ r * 2 → dist m (a + u) ≤ dist m b
move m r u a b e l s h = elim s [ inl k ↦ omega arith | inr k ↦ omega arith ]

stay_tie : (m r u a b : ℕ) → a + r ≡ m → r < u → (b ≤ a) ⊎ (a + u ≤ b) → r * 2 < u → dist m b ≡ dist m a → b ≡ a
stay_tie m r u a b e l s h t = elim s [ inl k ↦ omega arith | inr k ↦ omega arith ]

move_tie : (m r u a b : ℕ) → a + r ≡ m → r < u → (b ≤ a) ⊎ (a + u ≤ b) → u < r * 2 → dist m b ≡ dist m (a + u) → b ≡ a + u
move_tie m r u a b e l s h t = elim s [ inl k ↦ omega arith | inr k ↦ omega arith ]

module _ (m u p : ℕ) (U : 0 < u) where
  abbrev q : ℕ
  q = m / u

  one_up : (q + 1) * u ≡ q * u + u
  one_up = add-mul q 1 u ∙ ap (λ (z : ℕ). q * u + z) (one-mul u)

  side : (p * u ≤ q * u) ⊎ (q * u + u ≤ p * u)
  side = elim (either q p) [ inl l ↦ inr (le_trans (le_of_eq (sym one_up)) (mul-le-mul_right u (le_trans (le_of_eq (add-one q)) l))) | inr g ↦ inl (mul-le-mul_right u g) ]

  best : (o : Ordering) → Cmp o (m % u * 2) u → dist m (nearest q o * u) ≤ dist m (p * u)
  best Ordering.lt c = stay m (m % u) u (q * u) (p * u) (div-add-mod' m u) (mod-lt m U) side (omega arith)
  best Ordering.eq c = elim (either (q % 2) 1) [
    | inl l ↦ let e : q + q % 2 ≡ q = omega arith in rw e (stay m (m % u) u (q * u) (p * u) (div-add-mod' m u) (mod-lt m U) side (omega arith))
    | inr g ↦ let e : q + q % 2 ≡ q + 1 = omega arith in rw (e, one_up) (move m (m % u) u (q * u) (p * u) (div-add-mod' m u) (mod-lt m U) side (omega arith))
  ]
  best Ordering.gt c = rw (sym (add-one q), one_up) (move m (m % u) u (q * u) (p * u) (div-add-mod' m u) (mod-lt m U) side (omega arith))

  tied : (o : Ordering) → Cmp o (m % u * 2) u → dist m (p * u) ≡ dist m (nearest q o * u) → (p * u ≡ nearest q o * u) ⊎ (nearest q o % 2 ≡ 0)
  tied Ordering.lt c t = inl (stay_tie m (m % u) u (q * u) (p * u) (div-add-mod' m u) (mod-lt m U) side c t)
  tied Ordering.eq c t = inr (omega arith)
  tied Ordering.gt c t =
      let e : suc q * u ≡ q * u + u = ap (λ (z : ℕ). z * u) (sym (add-one q)) ∙ one_up in
      inl (move_tie m (m % u) u (q * u) (p * u) (div-add-mod' m u) (mod-lt m U) side c (t ∙ ap (dist m) e) ∙ sym e)

-- ---- a size that 53 digits hold, finer than the multiples of 2 ^ dropped, lies below them all
fine : (z j : ℕ) → j < z - 53 → 53 + j ≤ 52 + (z - 53)
fine z j h = omega arith

more : (z : ℕ) (j : ℕ) → j < z - 53 → 53 < z
more z j h = omega arith

farther : (m a b c : ℕ) → c < b → b ≤ m → dist m a ≤ dist m b → dist m a < dist m c
farther m a b c h k l = omega arith

module _ (m q j : ℕ) (Q : q < 2 ^ 53) where
  coarse_is : dropped m ≤ j → q * 2 ^ j ≡ q * 2 ^ (j - dropped m) * 2 ^ dropped m
  coarse_is h =
      let e : j ≡ j - dropped m + dropped m = omega arith in
      ap (λ (z : ℕ). q * 2 ^ z) e ∙ ap (λ (z : ℕ). q * z) (pow-add 2 (j - dropped m) (dropped m)) ∙ sym (mul_assoc q (2 ^ (j - dropped m)) (2 ^ dropped m))

  finer : j < dropped m → dist m (nearest_size m) < dist m (q * 2 ^ j)
  finer h =
      farther m (nearest_size m) (2 ^ 52 * 2 ^ dropped m) (q * 2 ^ j)
      (lt_of_lt_of_le (mul-lt-mul_of_pos_right Q (pow_pos j)) (le_trans (le_of_eq (sym (pow-add 2 53 j))) (le_trans (pow_mono (fine (size m) j h)) (le_of_eq (pow-add 2 52 (dropped m))))))
      (le_trans (mul-le-mul_right (2 ^ dropped m) (keeps m (more (size m) j h))) (div-mul-le_self m (2 ^ dropped m)))
      (best m (2 ^ dropped m) (2 ^ 52) (pow_pos (dropped m)) (compare (m % 2 ^ dropped m * 2) (2 ^ dropped m)) (cmp (m % 2 ^ dropped m * 2) (2 ^ dropped m)))

  -- THE LAW: no double is nearer
  pub none_nearer : dist m (nearest_size m) ≤ dist m (q * 2 ^ j)
  none_nearer = elim (either j (dropped m)) [
    | inl l ↦ let g = finer l in omega (arith, g)
    | inr g ↦ rw (coarse_is g) (best m (2 ^ dropped m) (q * 2 ^ (j - dropped m)) (pow_pos (dropped m)) (compare (m % 2 ^ dropped m * 2) (2 ^ dropped m)) (cmp (m % 2 ^ dropped m * 2) (2 ^ dropped m)))
  ]

  -- and one as near is the same, or the digits kept are even
  pub tie_even : dist m (q * 2 ^ j) ≡ dist m (nearest_size m) → (q * 2 ^ j ≡ nearest_size m) ⊎ (even m (dropped m) % 2 ≡ 0)
  tie_even t = elim (either j (dropped m)) [
    | inl l ↦ let g = finer l in absurd (omega (arith, g))
    | inr g ↦ rw (coarse_is g) (tied m (2 ^ dropped m) (q * 2 ^ (j - dropped m)) (pow_pos (dropped m)) (compare (m % 2 ^ dropped m * 2) (2 ^ dropped m)) (cmp (m % 2 ^ dropped m * 2) (2 ^ dropped m)) (rw (coarse_is g) at t))
  ]
