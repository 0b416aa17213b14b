-- What the code passes on: the outcome of the core in numbers. Assumes nothing.
use Rattle.std.specs.Prelude.{ℕ, false}
use Rattle.moves.specs.declared.Change.{Change}
use Rattle.moves.specs.declared.Move.{Move}
use Rattle.moves.specs.declared.Next.{Next}
use Rattle.moves.specs.declared.Placing.{Placing}
use Rattle.moves.specs.Core.{Out, Changing, keep, push, swap, below, back}
use Rattle.layout.specs.Layout.{frame_word}
use Rattle.moves.specs.declared.Change.TheVariants.{Keep, Push, Swap, Under, Back}

-- a change of a stack in numbers, as the code passes it on
abbrev pub change_of : {A : Type 0} → (A → ℕ) → Changing A → Change
change_of f keep = Keep
change_of f (push x) = Push (f x)
change_of f (swap x) = Swap (f x)
change_of f (below x) = Under (f x)
change_of f (back x) = Back (f x)

-- the outcome of the core, in numbers; levels are numbers as they are
abbrev pub move_of : Out → Move
move_of x = record {
  next = x.next;
  over = x.over;
  levels = change_of (λ (n : ℕ). n) x.levels;
  frames = change_of frame_word x.frames;
  placing = x.placing;
}

-- the same of a step that is not the last
abbrev pub moved : Next → Change → Change → Placing → Move
moved n ls fs z = record { next = n; over = false; levels = ls; frames = fs; placing = z }
