-- What is claimed of ticks, of any programme, request, state and output. `proofs/Ticks.antt` proves it. Assumes nothing.
use Rattle.std.specs.Prelude.{ℕ, ◌-◌, ◌≤◌, min, ◌≡◌, true, List, ◌++◌, leb, length, take, replicate, Ok}
use Rattle.record.specs.Choose.{if, either}
use Rattle.record.specs.Refusals.{bad_run}
use Rattle.meaning.specs.Reading.{bags_of}
use Rattle.meaning.specs.declared.Verdict.{Verdict}
use Rattle.judge.specs.Request.{judge_request_of}
use Rattle.layout.specs.declared.Head.{Head}
use Rattle.layout.specs.declared.State.{State}
use Rattle.programme.specs.Step.{is_over, count_by}
use Rattle.run.specs.Runs.{steps_left}
use Rattle.run.specs.Tick.{Ticked, admitted, refused, first_places, answered, tick_of}
use Rattle.run.specs.declared.kinds.Answer.{Answer}
use Rattle.run.specs.declared.kinds.Answer.TheVariants.{Running, Finished, Refused}
use Rattle.promises.specs.Place.{head_of, Sized}
use Rattle.promises.specs.Steps.{after_steps}
use Rattle.layout.specs.Room.{room_p}

-- nothing is refused before the first step: the request is one, the output has room, and the layout allows programme and state
pub record Sound (p q : List ℕ) (s : State) (out : List ℕ) : Type 0 where
  pub entries : ℕ
  pub request : judge_request_of q ≡ Ok entries
  pub room : room_p ≤ length out
  pub layout : admitted (length p) s.head ≡ true

-- a tick, where k steps are left: 8, exactly where the budget is larger and the state there is not a finished one; else the smaller of budget and k, taken
-- and reported
abbrev pub tick_with : List ℕ → List ℕ → State → ℕ → List ℕ → ℕ → Ticked
tick_with p q s budget out k =
    if (either (leb budget k) (is_over (after_steps p (bags_of q) k s)))
    (answered (is_over (after_steps p (bags_of q) (min budget k) s)) (after_steps p (bags_of q) (min budget k) s) (min budget k) out)
    (refused bad_run s out)

abbrev pub TicksAre : Type 0
TicksAre = (p q : List ℕ) (s : State) (budget : ℕ) (out : List ℕ) → Sound p q s out → tick_of p q s budget out ≡ tick_with p q s budget out (steps_left p (bags_of q) s)

-- a tick that is not refused takes exactly the smaller of its budget and the steps left, and reports that number
abbrev pub NotRefused : Answer → Type 0
NotRefused Running = Unit
NotRefused (Finished v count) = Unit
NotRefused (Refused r) = ⊥

abbrev pub TakesTheSmaller : Type 0
TakesTheSmaller =
    (p q : List ℕ) (s : State) (budget : ℕ) (out : List ℕ) → NotRefused (tick_of p q s budget out).tick.answer
    → ((tick_of p q s budget out).tick.steps ≡ min budget (steps_left p (bags_of q) s))
    × ((tick_of p q s budget out).tick.state ≡ after_steps p (bags_of q) (min budget (steps_left p (bags_of q) s)) s)

-- its answer is read off the first number that it leaves: running, or finished, with which decision and code and how many obligations; these are the first
-- places, in order, and the output gets them
abbrev pub answer_by : Head → Answer
answer_by h = if h.over (Finished h.found.reg (count_by h.found.reg h)) Running

abbrev pub out_by : Head → List ℕ → List ℕ → List ℕ
out_by h places out = if h.over (take (count_by h.found.reg h) places ++ replicate (length out - count_by h.found.reg h) 0) out

abbrev pub FirstNumberSays : Type 0
FirstNumberSays =
    (p q : List ℕ) (s : State) (budget : ℕ) (out : List ℕ) → NotRefused (tick_of p q s budget out).tick.answer
    → ((tick_of p q s budget out).tick.answer ≡ answer_by (head_of (tick_of p q s budget out).tick.state))
    × ((tick_of p q s budget out).out ≡ out_by (head_of (tick_of p q s budget out).tick.state) (tick_of p q s budget out).tick.state.places out)

-- a tick that is refused leaves the state as it was, and takes no step
abbrev pub RefusedStays : Type 0
RefusedStays =
    (p q : List ℕ) (s : State) (budget : ℕ) (out : List ℕ) → (NotRefused (tick_of p q s budget out).tick.answer → ⊥)
    → ((tick_of p q s budget out).tick.steps ≡ 0) × ((tick_of p q s budget out).tick.state ≡ s) × ((tick_of p q s budget out).out ≡ out)

-- a finished run answers the same again with 0 steps, whatever budget and request, and leaves the same obligations in any output with room
abbrev pub again : State → Verdict → ℕ → List ℕ → Ticked
again s v count out = record {
  tick = record { state = s; steps = 0; answer = Finished v count };
  out = first_places s ++ replicate (length out - count) 0;
}

abbrev pub AnswersAgain : Type 0
AnswersAgain =
    (p q : List ℕ) (s : State) (budget : ℕ) (out : List ℕ) (v : Verdict) (count : ℕ) → (tick_of p q s budget out).tick.answer ≡ Finished v count
    → ((tick_of p q s budget out).out ≡ first_places (tick_of p q s budget out).tick.state ++ replicate (length out - count) 0)
    × ((r : List ℕ) (m more : ℕ) (lent : List ℕ) → judge_request_of r ≡ Ok m → room_p ≤ length lent
    → tick_of p r (tick_of p q s budget out).tick.state more lent ≡ again (tick_of p q s budget out).tick.state v count lent)

-- a tick keeps how many numbers a state has
abbrev pub TicksStaySized : Type 0
TicksStaySized = (p q : List ℕ) (s : State) (budget : ℕ) (out : List ℕ) → Sized s → Sized (tick_of p q s budget out).tick.state
