-- A run, in single steps. Assumes nothing.
use Rattle.std.specs.Prelude.{ℕ, zero, suc, ◌+◌, ◌≡◌, Bool, true, false, List, Option}
use Rattle.meaning.specs.Meaning.{Bags}
use Rattle.layout.specs.declared.Head.{Head}
use Rattle.layout.specs.declared.State.{State}
use Rattle.layout.specs.Layout.{pack_of}
use Rattle.programme.specs.Step.{may_step, step_of, is_over}
use Rattle.std.specs.Bool.{then_some}

-- what a run leads to: whether each step that it would take met entries in their layout, the state, and the steps taken
pub record Ran : Type 0 where
  pub ok : Bool
  pub state : State
  pub steps : ℕ

-- a run of at most so many steps: no further than a finished state, and not ok where a step that it would take meets entries outside their layout
abbrev pub stay : Bool → State → Ran
stay ok s = record { ok = ok; state = s; steps = 0 }

abbrev pub one_more : Ran → Ran
one_more r = record { ok = r.ok; state = r.state; steps = 1 + r.steps }

-- is the run over, may a step be taken; the rest of the run after that step
abbrev pub go_on : Bool → Bool → State → Ran → Ran
go_on true may s r = stay true s
go_on false false s r = stay false s
go_on false true s r = one_more r

unfoldable pub run_of : List ℕ → Bags → ℕ → State → Ran
run_of p g zero s = stay true s
run_of p g (suc n) s = go_on (is_over s) (may_step p s) s (run_of p g n (step_of p g s))

-- the first number after k steps that led from the one given to these fields: the one given, if there was no step
abbrev pub number_after : ℕ → ℕ → Head → ℕ
number_after zero start h = start
number_after (suc k) start h = pack_of h

-- a function that has run a lent state leaves the state that the run led to, and gives the steps, or none where a step met entries outside their layout
abbrev pub Ended : Ran → Option ℕ → State → Type 0
Ended r steps s = (steps ≡ then_some r.ok r.steps) × (s ≡ r.state)
