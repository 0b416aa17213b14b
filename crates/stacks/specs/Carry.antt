-- What carrying a move out asks of it, and the first number after it. Assumes nothing.
use Rattle.std.specs.Prelude.{ℕ, ◌+◌, ◌<◌, ◌≤◌, suc, Bool}
use Rattle.layout.specs.declared.Head.{Head}
use Rattle.moves.specs.declared.Change.{Change}
use Rattle.moves.specs.declared.Move.{Move}
use Rattle.moves.specs.declared.Next.{Next}
use Rattle.moves.specs.declared.Placing.{Placing}
use Rattle.moves.specs.declared.Placing.TheVariants.{Rest, AddPermit, AddDeny, FallPermit, FallDeny, FallBoth, Cut, Down}
use Rattle.moves.specs.Core.{Changing, keep, push, swap, below, back}
use Rattle.layout.specs.Room.{room_f, room_l, room_p}
use Rattle.stacks.specs.Machine.{height_after, cut_after, permits_after, denies_after}
use Rattle.moves.specs.declared.Change.TheVariants.{Keep, Push, Swap, Under, Back}
use Rattle.moves.specs.Moves.{change_of}

-- a change of a stack in numbers, as it is carried out: of what the code passes on, and of what the core says
abbrev pub changing_of : Change → Changing ℕ
changing_of Keep = keep
changing_of (Push n) = push n
changing_of (Swap n) = swap n
changing_of (Under n) = below n
changing_of (Back n) = back n

abbrev pub in_words : {A : Type 0} → (A → ℕ) → Changing A → Changing ℕ
in_words f z = changing_of (change_of f z)

-- the first number after a step past so many further entries, with so many policies and sets and so many conditions open
abbrev pub head_to : Head → ℕ → ℕ → ℕ → Next → Bool → Placing → Head
head_to h further depth nest n over z = record {
  at = h.at + suc (further + n.jump);
  depth = depth;
  nest = nest;
  permits = permits_after z h.cut h.permits;
  denies = denies_after z h.cut room_p h.denies;
  cut = cut_after z h.cut;
  found = n.found;
  over = over;
}

-- what becomes of the obligations is within reach, where so many stand on each stack: a number fits its place, a cut the places, and no more are
-- brought down than there are
abbrev pub Placed : Placing → ℕ → ℕ → Type 0
Placed Rest p d = Unit
Placed (AddPermit n) p d = n < 65536
Placed (AddDeny n) p d = n < 65536
Placed (FallPermit h) p d = Unit
Placed (FallDeny h) p d = Unit
Placed (FallBoth h k) p d = Unit
Placed (Cut n) p d = n ≤ room_p
Placed (Down n) p d = p + n ≤ d

-- the first number after a move past so many further entries
unfoldable pub head_with : Head → ℕ → Move → Head
head_with h further m =
    head_to h further (height_after room_f (changing_of m.frames) h.depth) (height_after room_l (changing_of m.levels) h.nest) m.next m.over m.placing
