-- A tick: document 01, "The programme and its ticks". Assumes nothing.
use Rattle.std.specs.Prelude.{ℕ, ◌-◌, Bool, true, false, List, ◌++◌, ltb, leb, length, take, replicate, Err, Ok}
use Rattle.record.specs.Choose.{if, both}
use Rattle.record.specs.Refusals.{no_room, bad_run}
use Rattle.record.specs.declared.Refusal.{Refusal}
use Rattle.meaning.specs.Meaning.{Bags}
use Rattle.meaning.specs.Reading.{bags_of}
use Rattle.judge.specs.Request.{judge_request_of, JudgedRequest}
use Rattle.layout.specs.declared.State.{State}
use Rattle.layout.specs.Layout.{unpack_of, allowed}
use Rattle.programme.specs.Step.{is_over, count_by}
use Rattle.run.specs.declared.kinds.Answer.TheVariants.{Running, Finished, Refused}
use Rattle.run.specs.Run.{run_of, Ran}
use Rattle.run.specs.declared.kinds.Tick.{Tick}
use Rattle.layout.specs.Room.{room_p}

-- the programme has an entry and not over 8,008, and the state is one that its layout allows
unfoldable pub admitted : ℕ → ℕ → Bool
admitted long head = both (ltb 0 long) (both (leb long 8008) (allowed head))

-- a tick gives the state, the steps taken and the answer, and leaves the lent places so
pub record Ticked : Type 0 where
  pub tick : Tick
  pub out : List ℕ

abbrev pub refused : Refusal → State → List ℕ → Ticked
refused r s out = record { tick = record { state = s; steps = 0; answer = Refused r }; out = out }

-- the obligations of a finished state are its first places
unfoldable pub count_of : State → ℕ
count_of s = let h = unpack_of s.head in count_by h.found.reg h

unfoldable pub first_places : State → List ℕ
first_places s = take (count_of s) s.places

-- the answer after a run: running; or finished, with the obligations first and zero in every other place
unfoldable pub answered : Bool → State → ℕ → List ℕ → Ticked
answered false s n out = record { tick = record { state = s; steps = n; answer = Running }; out = out }
answered true s n out = record {
  tick = record { state = s; steps = n; answer = Finished (unpack_of s.head).found.reg (count_of s) };
  out = first_places s ++ replicate (length out - count_of s) 0;
}

unfoldable pub ran_of : Bool → Ran → State → List ℕ → Ticked
ran_of true r s out = answered (is_over r.state) r.state r.steps out
ran_of false r s out = refused bad_run s out

-- a tick judges request, output, programme and state
abbrev pub judged_tick : List ℕ → Bags → JudgedRequest → State → ℕ → List ℕ → Ticked
judged_tick p g (Err r) s budget out = refused r s out
judged_tick p g (Ok n) s budget out =
    if (ltb (length out) room_p) (refused no_room s out)
    (if (admitted (length p) s.head) (ran_of (run_of p g budget s).ok (run_of p g budget s) s out)
    (refused bad_run s out))

unfoldable pub tick_of : List ℕ → List ℕ → State → ℕ → List ℕ → Ticked
tick_of p q s budget out = judged_tick p (bags_of q) (judge_request_of q) s budget out
