-- What is claimed of the run of a programme that is to give the decision and code d and the obligations os. Assumes nothing.
use Rattle.std.specs.Prelude.{ℕ, ◌≤◌, ◌<◌, ◌≡◌, true, List, length}
use Rattle.meaning.specs.Meaning.{Bags}
use Rattle.meaning.specs.declared.Verdict.{Verdict}
use Rattle.layout.specs.declared.State.{State}
use Rattle.layout.specs.Layout.{unpack_of}
use Rattle.programme.specs.Step.{is_over, fresh_of}
use Rattle.run.specs.Tick.{count_of, first_places}
use Rattle.promises.specs.Steps.{after_steps, Left}

-- a finished state, with its answer
pub record Answered (s : State) (d : Verdict) (os : List ℕ) : Type 0 where
  pub over : is_over s ≡ true
  pub decision : (unpack_of s.head).found.reg ≡ d
  pub obligations : first_places s ≡ os
  pub count : count_of s ≡ length os

-- from the fresh state `steps` single steps are left: at least one, and no more than there are entries. None of them meets entries outside their layout, and the
-- state that they lead to gives the answer.
pub record Course (p : List ℕ) (g : Bags) (d : Verdict) (os : List ℕ) : Type 0 where
  pub steps : ℕ
  pub begun : 0 < steps
  pub few : steps ≤ length p
  pub left : Left p g fresh_of steps
  pub answer : Answered (after_steps p g steps fresh_of) d os
