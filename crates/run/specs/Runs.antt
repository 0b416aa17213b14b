-- What is claimed of runs, of any programme from any state that the layout allows. `proofs/Runs.antt` proves it. Assumes nothing.
use Rattle.std.specs.Prelude.{ℕ, ◌+◌, ◌≤◌, min, ◌≡◌, Bool, true, false, List, length}
use Rattle.meaning.specs.Meaning.{Bags}
use Rattle.layout.specs.declared.State.{State}
use Rattle.layout.specs.Layout.{allowed}
use Rattle.programme.specs.Step.{is_over}
use Rattle.run.specs.Run.{run_of, stay, Ran}

-- go on from a run's end with b more, unless a step met entries outside their layout
abbrev pub and_then : List ℕ → Bags → Bool → Ran → ℕ → Ran
and_then p g true r b = record { ok = (run_of p g b r.state).ok; state = (run_of p g b r.state).state; steps = r.steps + (run_of p g b r.state).steps }
and_then p g false r b = r

-- a run of a + b steps is a run of a, and then one of b
abbrev pub RunsAdd : Type 0
RunsAdd = (p : List ℕ) (g : Bags) (a b : ℕ) (s : State) → run_of p g (a + b) s ≡ and_then p g (run_of p g a s).ok (run_of p g a s) b

-- the steps left: those of a run with as much budget as there are entries, since a run takes no more
abbrev pub steps_left : List ℕ → Bags → State → ℕ
steps_left p g s = (run_of p g (length p) s).steps

abbrev pub NoMoreThanEntries : Type 0
NoMoreThanEntries = (p : List ℕ) (g : Bags) (n : ℕ) (s : State) → length p ≤ 8008 → allowed s.head ≡ true → (run_of p g n s).steps ≤ length p

-- exactly the smaller of the budget and the steps left
abbrev pub TheSmaller : Type 0
TheSmaller = (p : List ℕ) (g : Bags) (n : ℕ) (s : State) → length p ≤ 8008 → allowed s.head ≡ true → (run_of p g n s).steps ≡ min n (steps_left p g s)

-- a finished run stays as it is, with no step
abbrev pub FinishedStays : Type 0
FinishedStays = (p : List ℕ) (g : Bags) (n : ℕ) (s : State) → is_over s ≡ true → run_of p g n s ≡ stay true s

-- a run leads to a state that the layout allows
abbrev pub RunsStayAllowed : Type 0
RunsStayAllowed = (p : List ℕ) (g : Bags) (n : ℕ) (s : State) → length p ≤ 8008 → allowed s.head ≡ true → allowed (run_of p g n s).state.head ≡ true
