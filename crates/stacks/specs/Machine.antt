-- How a step is carried out on stacks that are arrays with a height, and on the row of obligation places. Assumes nothing.
use Rattle.std.specs.Prelude.{ℕ, zero, suc, ◌+◌, ◌-◌, min, List, ltb, length, get_or, set}
use Rattle.record.specs.Choose.{if}
use Rattle.moves.specs.declared.Placing.{Placing}
use Rattle.moves.specs.declared.Placing.TheVariants.{Rest, AddPermit, AddDeny, FallPermit, FallDeny, FallBoth, Cut, Down}
use Rattle.moves.specs.Core.{Changing, keep, push, swap, below, back}

-- the place of the top of a stack with `room` places; there is always a bottom, and a stack that is full takes no more
abbrev pub height_after : {A : Type 0} → ℕ → Changing A → ℕ → ℕ
height_after room keep k = k
height_after room (push x) k = if (ltb (suc k) room) (suc k) k
height_after room (swap x) k = k
height_after room (below x) k = k
height_after room (back x) k = k - 1

abbrev pub stack_after : {A : Type 0} → ℕ → Changing A → ℕ → List A → List A
stack_after room keep k xs = xs
stack_after room (push x) k xs = if (ltb (suc k) room) (set xs (suc k) x) xs
stack_after room (swap x) k xs = set xs k x
stack_after room (below x) k xs = set xs (k - 1) x
stack_after room (back x) k xs = set xs (k - 1) x

-- the obligations: Permit's stack stands below the cut, Deny's from the cut on
abbrev pub cut_after : Placing → ℕ → ℕ
cut_after Rest c = c
cut_after (AddPermit n) c = c
cut_after (AddDeny n) c = c
cut_after (FallPermit h) c = c
cut_after (FallDeny h) c = c
cut_after (FallBoth h k) c = c
cut_after (Cut n) c = n
cut_after (Down n) c = c

abbrev pub permits_after : Placing → ℕ → ℕ → ℕ
permits_after Rest c p = p
permits_after (AddPermit n) c p = if (ltb p c) (suc p) p
permits_after (AddDeny n) c p = p
permits_after (FallPermit h) c p = min h p
permits_after (FallDeny h) c p = p
permits_after (FallBoth h k) c p = min h p
permits_after (Cut n) c p = 0
permits_after (Down n) c p = p + n

abbrev pub denies_after : Placing → ℕ → ℕ → ℕ → ℕ
denies_after Rest c long d = d
denies_after (AddPermit n) c long d = d
denies_after (AddDeny n) c long d = if (ltb (c + d) long) (suc d) d
denies_after (FallPermit h) c long d = d
denies_after (FallDeny h) c long d = min h d
denies_after (FallBoth h k) c long d = min k d
denies_after (Cut n) c long d = 0
denies_after (Down n) c long d = d

-- n places from m on get what stands c further on
unfoldable pub copies : ℕ → ℕ → ℕ → List ℕ → List ℕ
copies zero c m xs = xs
copies (suc n) c m xs = copies n c (suc m) (set xs m (get_or xs (c + m) 0))

abbrev pub places_after : Placing → ℕ → ℕ → ℕ → List ℕ → List ℕ
places_after Rest c p d xs = xs
places_after (AddPermit n) c p d xs = if (ltb p c) (set xs p n) xs
places_after (AddDeny n) c p d xs = if (ltb (c + d) (length xs)) (set xs (c + d) n) xs
places_after (FallPermit h) c p d xs = xs
places_after (FallDeny h) c p d xs = xs
places_after (FallBoth h k) c p d xs = xs
places_after (Cut n) c p d xs = xs
places_after (Down n) c p d xs = copies n c p xs
