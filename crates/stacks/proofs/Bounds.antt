-- Laws of `specs/Machine.antt`: a stack stays within its places, no array changes its length, and what places hold that were brought down. Assumes nothing.
use Prim.Native.Nat.{ℕ, zero, suc, ◌+◌, ◌-◌, ◌≤◌, ◌<◌}
use mathlib.Core.Path.{◌≡◌, refl, ◌∙◌}
use mathlib.Core.Bool.{Bool, true, false}
use mathlib.Core.List.{List}
use mathlib.Core.Logic.{⊎_elim}
use native.Mathlib.Nat.{eq-or-lt_of_le}
use lib.Dec.{ltb}
use lib.ListN.{length, get_or, set, length-set}
use lib.Seq.{get_or-set_same, get_or-set_other}
use native.Mathlib.Omega.{arith}
use borrow.Author.Tests.{ltb-true}
use Rattle.record.specs.Choose.{if}
use Rattle.moves.specs.declared.Placing.{Placing}
use Rattle.moves.specs.declared.Placing.TheVariants.{Rest, AddPermit, AddDeny, FallPermit, FallDeny, FallBoth, Cut, Down}
use Rattle.moves.specs.Core.{Changing, keep, push, swap, below, back}
use Rattle.stacks.specs.Machine.{height_after, stack_after, copies, places_after}

pub height_fits : {A : Type 0} (room : ℕ) (z : Changing A) (k : ℕ) → k < room → height_after room z k < room
height_fits room keep k l = l
height_fits room (push x) k l = go (ltb (suc k) room) refl
  where
    go : (b : Bool) → ltb (suc k) room ≡ b → if b (suc k) k < room
    go true e = ltb-true (suc k) room e
    go false e = l
height_fits room (swap x) k l = l
height_fits room (below x) k l = l
height_fits room (back x) k l = omega (arith, l)

-- a store that is made or not
length_if : {A : Type 0} (b : Bool) (xs : List A) (i : ℕ) (x : A) → length (if b (set xs i x) xs) ≡ length xs
length_if true xs i x = length-set xs i x
length_if false xs i x = refl

pub stack_length : {A : Type 0} (room : ℕ) (z : Changing A) (k : ℕ) (xs : List A) → length (stack_after room z k xs) ≡ length xs
stack_length room keep k xs = refl
stack_length room (push x) k xs = length_if (ltb (suc k) room) xs (suc k) x
stack_length room (swap x) k xs = length-set xs k x
stack_length room (below x) k xs = length-set xs (k - 1) x
stack_length room (back x) k xs = length-set xs (k - 1) x

-- n places from m on that are brought down by c
pub copies_length : (n c m : ℕ) (xs : List ℕ) → length (copies n c m xs) ≡ length xs
unfolding copies
copies_length zero c m xs = refl
copies_length (suc n) c m xs = copies_length n c (suc m) (set xs m (get_or xs (c + m) 0)) ∙ length-set xs m (get_or xs (c + m) 0)

pub copies_before : (n c m : ℕ) (xs : List ℕ) (k : ℕ) → k < m → get_or (copies n c m xs) k 0 ≡ get_or xs k 0
unfolding copies
copies_before zero c m xs k h = refl
copies_before (suc n) c m xs k h =
    copies_before n c (suc m) (set xs m (get_or xs (c + m) 0)) k (omega arith) ∙ get_or-set_other xs m k (get_or xs (c + m) 0) 0 (λ e. omega arith)

pub copies_behind : (n c m : ℕ) (xs : List ℕ) (k : ℕ) → m + n ≤ k → get_or (copies n c m xs) k 0 ≡ get_or xs k 0
unfolding copies
copies_behind zero c m xs k h = refl
copies_behind (suc n) c m xs k h =
    copies_behind n c (suc m) (set xs m (get_or xs (c + m) 0)) k (omega arith) ∙ get_or-set_other xs m k (get_or xs (c + m) 0) 0 (λ e. omega arith)

pub copies_at : (n c m : ℕ) (xs : List ℕ) (k : ℕ) → m ≤ k → k < m + n → k < length xs → get_or (copies n c m xs) k 0 ≡ get_or xs (c + k) 0
unfolding copies
copies_at zero c m xs k h g l = absurd (omega arith)
copies_at (suc n) c m xs k h g l =
    ⊎_elim (λ e. rw (← e) (copies_before n c (suc m) y m (omega arith) ∙ get_or-set_same xs m (get_or xs (c + m) 0) 0 (omega arith)))
    (λ e. copies_at n c (suc m) y k e (omega arith) (omega (arith, length-set xs m (get_or xs (c + m) 0))) ∙ get_or-set_other xs m (c + k) (get_or xs (c + m) 0) 0 (λ z. omega arith))
    (eq-or-lt_of_le h)
  where
    y : List ℕ
    y = set xs m (get_or xs (c + m) 0)

pub places_length : (z : Placing) (c p d : ℕ) (xs : List ℕ) → length (places_after z c p d xs) ≡ length xs
places_length Rest c p d xs = refl
places_length (AddPermit n) c p d xs = length_if (ltb p c) xs p n
places_length (AddDeny n) c p d xs = length_if (ltb (c + d) (length xs)) xs (c + d) n
places_length (FallPermit h) c p d xs = refl
places_length (FallDeny h) c p d xs = refl
places_length (FallBoth h k) c p d xs = refl
places_length (Cut n) c p d xs = refl
places_length (Down n) c p d xs = copies_length n c p xs
