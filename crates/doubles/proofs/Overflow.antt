-- A rounded size reaches 2 ^ 1024, which is 2 ^ 2098 units, exactly from 2 ^ 1024 - 2 ^ 970 on. Assumes nothing.
use mathlib.Core.Path.{◌≡◌, refl, sym, ap, ◌∙◌, subst}
use mathlib.Core.Logic.{◌⊎◌, inl, inr}
use mathlib.Core.Bool.{Bool, true, false, not}
use Prim.Native.Nat.{ℕ, suc, ◌+◌, ◌-◌, ◌*◌, ◌/◌, ◌%◌, ◌^◌, ◌<◌, ◌≤◌, compare, Ordering}
use native.Mathlib.Nat.{le_trans, le_of_eq, lt_of_lt_of_le, lt_of_le_of_lt, le_antisymm, mul-le-mul_right, lt_irrefl, div-add-mod', div-lt_iff_lt-mul, le-div_iff_mul-le, mul-lt-mul_of_pos_right}
use native.Mathlib.Omega.{arith}
use borrow.Author.Tests.{ltb-true, ltb-false}
use lib.Dec.{T, ltb, lit<, lit≤, is_le, compare_is_eq, eqb, leb→le, nleb→lt, eqb→eq, eqb_refl}
use lib.Arith.{lt_of_le-ne}
use lib.Pow.{pow-add, pow_pos, pow_mono}
use lib.Ieee.{size, nearest}
use lib.Ieee.Digits.{size-lt, size-le, size_reaches}
use lib.Ieee.Fits.{nearest-le, kept-lt}
use lib.Ieee.Nearest.{nearest-ge}
use Rattle.doubles.specs.Rounds.{dropped, nearest_size}

-- ---- what `compare` says
abbrev pub Cmp : Ordering → ℕ → ℕ → Type 0
Cmp Ordering.lt a b = a < b
Cmp Ordering.eq a b = a ≡ b
Cmp Ordering.gt a b = b < a

pub cmp : (a b : ℕ) → Cmp (compare a b) a b
cmp a b = go (compare a b) (leb→le a b) (nleb→lt a b) (eqb→eq a b) (λ (e : a ≡ b). subst (λ (x : ℕ). T (eqb a x)) e (eqb_refl a))
  where
    go : (o : Ordering) → (T (is_le o) → a ≤ b) → (T (not (is_le o)) → b < a) → (T (compare_is_eq o) → a ≡ b) → (a ≡ b → T (compare_is_eq o)) → Cmp o a b
    go Ordering.lt h k e n = lt_of_le-ne (h tt) n
    go Ordering.eq h k e n = e tt
    go Ordering.gt h k e n = k tt

pub below_half : (w a b : ℕ) → a < b → nearest w (compare a b) ≡ w
below_half w a b h = go (compare a b) (cmp a b)
  where
    go : (o : Ordering) → Cmp o a b → nearest w o ≡ w
    go Ordering.lt c = refl
    go Ordering.eq c = absurd (omega arith)
    go Ordering.gt c = absurd (omega arith)

half_up : (w a b : ℕ) → b ≤ a → w % 2 ≡ 1 → nearest w (compare a b) ≡ suc w
half_up w a b h e = go (compare a b) (cmp a b)
  where
    go : (o : Ordering) → Cmp o a b → nearest w o ≡ suc w
    go Ordering.lt c = absurd (omega arith)
    go Ordering.eq c = omega arith
    go Ordering.gt c = refl

pub either : (a b : ℕ) → (a < b) ⊎ (b ≤ a)
either a b = go (ltb a b) refl
  where
    go : (t : Bool) → ltb a b ≡ t → (a < b) ⊎ (b ≤ a)
    go true e = inl (ltb-true a b e)
    go false e = inr (ltb-false a b e)

-- ---- the largest numbers of digits
size_above : (m j : ℕ) → 2 ^ j ≤ m → j < size m
size_above m j h = elim (either j (size m)) [
  | inl l ↦ l
  | inr g ↦ absurd (lt_irrefl m (lt_of_lt_of_le (size-lt m) (le_trans (pow_mono g) h)))
]

top_size : (m : ℕ) → 2 ^ 2097 ≤ m → m < 2 ^ 2098 → size m ≡ 2098
top_size m h k = le_antisymm (size-le m 2098 k) (size_above m 2097 h)

-- ---- in the top binade: m / P rounds to 2 ^ 53 exactly from half of P below that on. `omega` reads no number of more than 38 digits, so P and its half H are variables
module _ (m p h : ℕ) (P : 0 < p) (H : h * 2 ≡ p) where
  abbrev near : ℕ
  near = nearest (m / p) (compare (m % p * 2) p)

  rest : m / p ≡ 9007199254740991 → 9007199254740991 * p + m % p ≡ m
  rest q = rw q at (div-add-mod' m p)

  half_under : m + h < 9007199254740992 * p → near < 9007199254740992
  half_under l =
      let u : m / p < 9007199254740992 = (div-lt_iff_lt-mul P).1 (omega arith) in
      elim (either (m / p) 9007199254740991) [
        | inl k ↦ lt_of_le_of_lt (nearest-le (m / p) (compare (m % p * 2) p)) (omega arith)
        | inr k ↦
            let q : m / p ≡ 9007199254740991 = omega arith in
            let r : m % p * 2 < p = omega (arith, rest q) in
            rw (below_half (m / p) (m % p * 2) p r) u
      ]

  half_over : m < 9007199254740992 * p → 9007199254740992 * p ≤ m + h → near ≡ 9007199254740992
  half_over l k =
      let u : m / p < 9007199254740992 = (div-lt_iff_lt-mul P).1 l in
      let v : 9007199254740991 ≤ m / p = (le-div_iff_mul-le P).1 (omega arith) in
      let q : m / p ≡ 9007199254740991 = omega arith in
      let r : p ≤ m % p * 2 = omega (arith, rest q) in
      let o : m / p % 2 ≡ 1 = rw q in
      half_up (m / p) (m % p * 2) p r o ∙ ap suc q

plus_lt : (m a b : ℕ) → m < a - b → m + b < a
plus_lt m a b h = omega arith

plus_le : (m a b : ℕ) → a - b ≤ m → a ≤ m + b
plus_le m a b h = omega arith

-- ---- how far a rounding goes
width : (z j : ℕ) → 53 ≤ j → z ≤ j → 53 + (z - 53) ≤ j
width z j h k = omega arith

narrow : (m j : ℕ) → 53 ≤ j → m < 2 ^ j → nearest_size m ≤ 2 ^ j
narrow m j h l =
    le_trans (mul-le-mul_right (2 ^ dropped m) (le_trans (nearest-le (m / 2 ^ dropped m) (compare (m % 2 ^ dropped m * 2) (2 ^ dropped m))) (kept-lt 53 m)))
    (le_trans (le_of_eq (sym (pow-add 2 53 (dropped m)))) (pow_mono (width (size m) j h (size-le m j l))))

shape : (z : ℕ) → 53 < z → 52 + (z - 53) ≡ z - 1
shape z h = omega arith

pub keeps : (m : ℕ) → 53 < size m → 2 ^ 52 ≤ m / 2 ^ dropped m
keeps m h =
    (le-div_iff_mul-le (pow_pos (dropped m))).1
    (le_trans (le_of_eq (sym (pow-add 2 52 (dropped m)) ∙ ap (λ (z : ℕ). 2 ^ z) (shape (size m) h))) (size_reaches m (size m - 1) (omega arith)))

wide : (m j : ℕ) → 53 ≤ j → 2 ^ j ≤ m → 2 ^ j ≤ nearest_size m
wide m j h l =
    let g : j < size m = size_above m j l in
    le_trans (pow_mono (low_enough (size m) j h g))
    (le_trans (le_of_eq (pow-add 2 52 (dropped m)))
    (mul-le-mul_right (2 ^ dropped m) (le_trans (keeps m (lt_of_le_of_lt h g)) (nearest-ge (m / 2 ^ dropped m) (compare (m % 2 ^ dropped m * 2) (2 ^ dropped m))))))
  where
    low_enough : (z i : ℕ) → 53 ≤ i → i < z → i ≤ 52 + (z - 53)
    low_enough z i a b = omega arith

-- THE LAW
pub fits_below : (m : ℕ) → m < 2 ^ 2098 - 2 ^ 2044 → nearest_size m < 2 ^ 2098
fits_below m h = elim (either m (2 ^ 2097)) [
  | inl l ↦ lt_of_le_of_lt (narrow m 2097 (omega arith) l) (lit< tt)
  | inr g ↦
      rw (top_size m g (lt_of_lt_of_le h (lit≤ tt)))
      (mul-lt-mul_of_pos_right (half_under m (2 ^ 2045) (2 ^ 2044) (pow_pos 2045) refl (plus_lt m (2 ^ 2098) (2 ^ 2044) h)) (pow_pos 2045))
]

pub fails_from : (m : ℕ) → 2 ^ 2098 - 2 ^ 2044 ≤ m → 2 ^ 2098 ≤ nearest_size m
fails_from m h = elim (either m (2 ^ 2098)) [
  | inl l ↦
      rw (top_size m (le_trans (lit≤ tt) h) l, half_over m (2 ^ 2045) (2 ^ 2044) (pow_pos 2045) refl l (plus_le m (2 ^ 2098) (2 ^ 2044) h)) (lit≤ tt)
  | inr g ↦ wide m 2098 (omega arith) g
]
