-- Demand 3 as the C caller sees it: a state goes out into lent numbers and places and comes back from them, and a row of calls, each with a budget and an
-- output of its own, gives the decision, its code and the obligations. `proofs/Loop.antt` proves it. Assumes nothing.
use Rattle.std.specs.Prelude.{ℕ, ◌+◌, ◌-◌, ◌/◌, ◌≤◌, ◌<◌, ◌≡◌, List, [], ◌∷◌, ◌++◌, ltb, length, take, replicate, Ok}
use Rattle.record.specs.Bytes.{Bytes}
use Rattle.record.specs.Choose.{if}
use Rattle.meaning.specs.Meaning.{decides, obliges}
use Rattle.meaning.specs.Reading.{book_of, bags_of}
use Rattle.meaning.specs.declared.Verdict.{Verdict}
use Rattle.judge.specs.Judge.{judge_of, accepted_with}
use Rattle.judge.specs.Request.{judge_request_of}
use Rattle.layout.specs.declared.State.{State}
use Rattle.programme.specs.Step.{fresh_of}
use Rattle.run.specs.Tick.{Ticked}
use Rattle.promises.specs.Place.{Sized}
use Rattle.translator.specs.Translate.{programme_of, room_for, translate_of, leaves}
use Rattle.demand.specs.Demand.{Turn, after_turns, dealt_out}
use Rattle.rig.specs.Rig.{Call, numbers_of, state_in, over, fresh_call, tick_in, tick_call, running_number, finished_number, translated_number}
use Rattle.layout.specs.Room.{room_p}

-- a state that was put into lent numbers and places is the state that they hold
abbrev pub HoldsState : Type 0
HoldsState =
    (s : State) (numbers places : List ℕ) → Sized s → 33 ≤ length numbers → room_p ≤ length places
    → state_in (over (numbers_of s) numbers) (over s.places places) ≡ s

-- the number of a translation is 256 times the entries, and the first entries of the lent buffer are the programme
abbrev pub programme_in : List ℕ → List ℕ → List ℕ
programme_in b buffer = take (translated_number (translate_of b (length buffer)) / 256) (leaves (translate_of b (length buffer)) b buffer)

abbrev pub Translates : Type 0
Translates = (b buffer : List ℕ) (n o : ℕ) → judge_of b ≡ accepted_with n o → room_for n ≤ length buffer → programme_in b buffer ≡ programme_of b

-- a call with the numbers and places that the one before left, and what it leaves in its own output
abbrev pub ticks : List ℕ → List ℕ → Call → Turn → Ticked
ticks p q c t = tick_in p q c.numbers c.places t.budget t.out

abbrev pub next : List ℕ → List ℕ → Call → Turn → Call
next p q c t = tick_call (ticks p q c t).tick c.numbers c.places

unfoldable pub row : List ℕ → List ℕ → List Turn → Call → Call
row p q [] c = c
row p q (t ∷ ts) c = row p q ts (next p q c t)

-- a row of calls is a row of ticks, of any programme and request: what they leave in the lent numbers and places is the state that the ticks lead to
pub record Holds (c : Call) (s : State) : Type 0 where
  pub numbers : 33 ≤ length c.numbers
  pub places : room_p ≤ length c.places
  pub state : state_in c.numbers c.places ≡ s

abbrev pub RowsAreTicks : Type 0
RowsAreTicks =
    (p q numbers places : List ℕ) → 33 ≤ length numbers → room_p ≤ length places → (ts : List Turn)
    → Holds (row p q ts (fresh_call numbers places)) (after_turns p q ts fresh_of)

-- the number and the output of a call after `before` steps dealt out, where the run takes k
abbrev pub number_at : ℕ → ℕ → ℕ → Verdict → List ℕ → ℕ
number_at k before budget d os = if (ltb (before + budget) k) (running_number budget) (finished_number d (length os) (k - before))

abbrev pub out_at : ℕ → ℕ → ℕ → List ℕ → List ℕ → List ℕ
out_at k before budget os out = if (ltb (before + budget) k) out (os ++ replicate (length out - length os) 0)

-- there is a number of steps, at least one and at most the entries, by which every call of every row gives its number and fills its output
pub record Answers (p q : List ℕ) (c : Call) (d : Verdict) (os : List ℕ) : Type 0 where
  pub steps : ℕ
  pub begun : 0 < steps
  pub few : steps ≤ length p
  pub number : (ts : List Turn) (t : Turn) → room_p ≤ length t.out → (next p q (row p q ts c) t).number ≡ number_at steps (dealt_out ts) t.budget d os
  pub out : (ts : List Turn) (t : Turn) → room_p ≤ length t.out → (ticks p q (row p q ts c) t).out ≡ out_at steps (dealt_out ts) t.budget os t.out

-- for every accepted book and request, and all lent buffers with room: with the programme as translating left it, from the fresh state
abbrev pub EveryRow : Type 0
EveryRow =
    (b q : List ℕ) (n o m : ℕ) → Bytes b → judge_of b ≡ accepted_with n o → judge_request_of q ≡ Ok m
    → (buffer numbers places : List ℕ) → room_for n ≤ length buffer → 33 ≤ length numbers → room_p ≤ length places
    → ((fresh_call numbers places).number ≡ 0)
    × Answers (programme_in b buffer) q (fresh_call numbers places) (decides (bags_of q) (book_of b)) (obliges (bags_of q) (book_of b))
