-- Laws of the field rules: the bytes that a record does not use, as numbers, and the obligation records of a book, counted one by one. Assumes nothing.
use mathlib.Core.Path.{◌≡◌, refl, ap, ◌∙◌}
use mathlib.Core.Bool.{Bool}
use mathlib.Core.List.{List}
use Prim.Native.Nat.{ℕ, zero, suc, ◌+◌, ◌-◌, ◌*◌, ◌≤◌}
use native.Mathlib.Omega.{arith}
use lib.Dec.{eqb}
use lib.ListN.{get_or}
use borrow.Author.Tests.{ne_eqb}
use Rattle.record.specs.Choose.{if, both}
use Rattle.record.specs.Bytes.{size, byte_of, big_of}
use Rattle.record.specs.Below.{all_below}
use Rattle.record.proofs.Below.{all_same, all_split}
use Rattle.fields.specs.First.{count_below}
use Rattle.fields.specs.Fields.{zeros, obligations_of}
use Rattle.fields.proofs.First.{count_more, count_le}

-- bytes are zero where their number is
same_byte : (b : List ℕ) (m n : ℕ) → m ≡ n → eqb (get_or b m 0) 0 ≡ eqb (get_or b n 0) 0
same_byte b m n e = rw e

sum_zero : (x y : ℕ) → eqb (x * 256 + y) 0 ≡ both (eqb x 0) (eqb y 0)
sum_zero zero y = let e : 0 * 256 + y ≡ y = omega arith in rw e
sum_zero (suc x) y = rw (ne_eqb (suc x * 256 + y) 0 (λ e. omega arith), ne_eqb (suc x) 0 (λ e. omega arith))

all_big : (b : List ℕ) (at n : ℕ) → all_below (λ (j : ℕ). eqb (get_or b (at + j) 0) 0) n ≡ eqb (big_of b at n) 0
unfolding all_below big_of
all_big b at zero = refl
all_big b at (suc n) = rw (all_big b at n, sum_zero (big_of b at n) (get_or b (at + n) 0))

pub zeros_big : (b : List ℕ) (i a z : ℕ) → zeros b i a z ≡ eqb (big_of b (i * size + a) (z - a)) 0
unfolding zeros
zeros_big b i a z = all_same _ _ (z - a) (λ j l. same_byte b (i * size + (a + j)) (i * size + a + j) (omega arith)) ∙ all_big b (i * size + a) (z - a)

zeros_split : (b : List ℕ) (i a m n : ℕ) → zeros b i a (a + m + n) ≡ both (zeros b i a (a + m)) (zeros b i (a + m) (a + m + n))
unfolding zeros
zeros_split b i a m n =
    let x : a + m + n - a ≡ m + n = omega arith in
    let y : a + m - a ≡ m = omega arith in
    let z : a + m + n - (a + m) ≡ n = omega arith in
    let F : ℕ → Bool = λ (j : ℕ). eqb (byte_of b i (a + j)) 0 in
    let s : all_below (λ (j : ℕ). F (m + j)) n ≡ all_below (λ (j : ℕ). eqb (byte_of b i (a + m + j)) 0) n =
    all_same _ _ n (λ j l. same_byte b (i * size + (a + (m + j))) (i * size + (a + m + j)) (omega arith)) in
    rw (x, y, z) (all_split F m n ∙ ap (both (all_below F m)) s)

pub zeros_one : (b : List ℕ) (i a : ℕ) → zeros b i a (a + 1) ≡ eqb (byte_of b i a) 0
unfolding zeros all_below
zeros_one b i a =
    let e : a + 1 - a ≡ 1 = omega arith in
    let z : a + 0 ≡ a = omega arith in
    rw (e, z)

-- the bytes from 8 on, those from 16 on, and those behind the issuer, as numbers
module _ (b : List ℕ) (i : ℕ) where
  pub from_8 : zeros b i 8 size ≡ both (eqb (big_of b (i * size + 8) 8) 0) (zeros b i 16 size)
  from_8 = rw (zeros_split b i 8 8 (size - 16), zeros_big b i 8 16)

  pub from_4 : zeros b i 4 size ≡ both (eqb (big_of b (i * size + 4) 4) 0) (zeros b i 8 size)
  from_4 = rw (zeros_split b i 4 4 (size - 8), zeros_big b i 4 8)

  pub from_5 : zeros b i 5 size ≡ both (eqb (byte_of b i 5) 0) (both (eqb (big_of b (i * size + 6) 2) 0) (zeros b i 8 size))
  from_5 = rw (zeros_split b i 5 1 (size - 6), zeros_one b i 5, zeros_split b i 6 2 (size - 8), zeros_big b i 6 8)

-- obligation records, counted one by one
pub obligations_none : (b : List ℕ) → 0 ≡ obligations_of b 0
unfolding obligations_of count_below
obligations_none b = refl

pub obligations_more : (b : List ℕ) (i : ℕ) {m k d : ℕ} → m ≡ obligations_of b i → k ≡ byte_of b i 0 → d ≡ if (eqb k 8) 1 0 → m + d ≡ obligations_of b (i + 1)
unfolding obligations_of
obligations_more b i em ek ed = rw (count_more (λ (j : ℕ). eqb (byte_of b j 0) 8) i, ← em, ← ek, ← ed)

pub obligations_le : (b : List ℕ) (n : ℕ) → obligations_of b n ≤ n
unfolding obligations_of
obligations_le b n = count_le (λ (j : ℕ). eqb (byte_of b j 0) 8) n
