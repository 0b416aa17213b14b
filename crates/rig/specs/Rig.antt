-- The calls of the rig's loop: a state as lent numbers and places, and each answer as one number. Assumes nothing.
use Rattle.std.specs.Prelude.{ℕ, ◌+◌, ◌*◌, Bool, List, ◌∷◌, ◌++◌, ltb, length, take, drop, get_or, replicate, Err, Ok}
use Rattle.translator.specs.Translate.{Translated}
use Rattle.record.specs.Choose.{if, either}
use Rattle.record.specs.Refusals.{no_room, refusal_number}
use Rattle.record.specs.declared.Refusal.{Refusal}
use Rattle.meaning.specs.Meaning.{decision_in}
use Rattle.meaning.specs.Numbers.{number_of, code_number}
use Rattle.meaning.specs.declared.Verdict.{Verdict}
use Rattle.layout.specs.declared.State.{State}
use Rattle.programme.specs.Step.{state_of, fresh_of}
use Rattle.run.specs.Tick.{Ticked, tick_of}
use Rattle.run.specs.declared.kinds.Answer.{Answer}
use Rattle.run.specs.declared.kinds.Answer.TheVariants.{Running, Finished, Refused}
use Rattle.run.specs.declared.kinds.Tick.{Tick}
use Rattle.layout.specs.Room.{room_p}

-- the numbers of a state: the first number, 17 frames, 15 levels
abbrev pub numbers_of : State → List ℕ
numbers_of s = s.head ∷ (s.frames ++ s.levels)

-- a state takes 33 numbers and 1,000 places
abbrev pub too_short : List ℕ → List ℕ → Bool
too_short numbers places = either (ltb (length numbers) 33) (ltb (length places) room_p)

-- a state that no layout allows: its first number is too large
unfoldable pub no_state : State
no_state = state_of 18446744073709551615 (replicate 17 0) (replicate 15 0) (replicate room_p 0)

-- the state that lent numbers and places hold; where they are too short for one, none that the layout allows
unfoldable pub state_in : List ℕ → List ℕ → State
state_in numbers places =
    if (too_short numbers places) no_state
    (state_of (get_or numbers 0 0) (take 17 (drop 1 numbers)) (take 15 (drop 18 numbers)) (take room_p places))

-- a lent buffer after xs were put into its first places
abbrev pub over : List ℕ → List ℕ → List ℕ
over xs buffer = xs ++ drop (length xs) buffer

-- what a call gives: its number, and the lent numbers and places after it
pub record Call : Type 0 where
  pub number : ℕ
  pub numbers : List ℕ
  pub places : List ℕ

abbrev pub call : ℕ → List ℕ → List ℕ → Call
call number numbers places = record { number = number; numbers = numbers; places = places }

-- a refusal leaves all as it was; otherwise a state is put into the first numbers and places
abbrev pub refused : Refusal → List ℕ → List ℕ → Call
refused r numbers places = call (refusal_number r) numbers places

abbrev pub put : ℕ → State → List ℕ → List ℕ → Call
put number s numbers places = call number (over (numbers_of s) numbers) (over s.places places)

-- the fresh state, or 7
unfoldable pub fresh_call : List ℕ → List ℕ → Call
fresh_call numbers places = if (too_short numbers places) (refused no_room numbers places) (put 0 fresh_of numbers places)

-- the steps from bit 32 on; the code in bits 24 to 31, the count of obligations from bit 8 on; in the low byte 0 for running, and the decision's number for
-- finished
abbrev pub running_number : ℕ → ℕ
running_number steps = 4294967296 * steps

abbrev pub finished_number : Verdict → ℕ → ℕ → ℕ
finished_number v count steps = number_of (decision_in v) + 256 * count + 16777216 * code_number v + 4294967296 * steps

-- a tick of the state that lent numbers and places hold
unfoldable pub tick_in : List ℕ → List ℕ → List ℕ → List ℕ → ℕ → List ℕ → Ticked
tick_in p q numbers places budget out = tick_of p q (state_in numbers places) budget out

-- what a tick's answer makes of the call
abbrev pub answered : Answer → Tick → List ℕ → List ℕ → Call
answered Running t numbers places = put (running_number t.steps) t.state numbers places
answered (Finished d count) t numbers places = put (finished_number d count t.steps) t.state numbers places
answered (Refused r) t numbers places = refused r numbers places

unfoldable pub tick_call : Tick → List ℕ → List ℕ → Call
tick_call t numbers places = answered t.answer t numbers places

-- translating: 256 times the entries, or the refusal
abbrev pub translated_number : Translated → ℕ
translated_number (Ok n) = 256 * n
translated_number (Err r) = refusal_number r
