-- Demand 3: every accepted book translates into a programme that runs without the book, its steps dealt out over ticks in any amounts. `proofs/Demand.antt`
-- proves it. Assumes nothing.
use Rattle.std.specs.Prelude.{ℕ, ◌+◌, ◌-◌, ◌*◌, ◌≤◌, ◌<◌, ◌≡◌, List, [], ◌∷◌, ◌++◌, ltb, length, replicate, Ok}
use Rattle.record.specs.Bytes.{Bytes}
use Rattle.record.specs.Choose.{if}
use Rattle.meaning.specs.Meaning.{Bags, decides, obliges}
use Rattle.meaning.specs.Reading.{book_of, bags_of}
use Rattle.meaning.specs.declared.Verdict.{Verdict}
use Rattle.judge.specs.Judge.{judge_of, accepted_with}
use Rattle.judge.specs.Request.{judge_request_of}
use Rattle.layout.specs.declared.State.{State}
use Rattle.programme.specs.Step.{fresh_of}
use Rattle.run.specs.Tick.{Ticked, tick_of}
use Rattle.run.specs.declared.kinds.Answer.TheVariants.{Running, Finished}
use Rattle.promises.specs.Steps.{after_steps}
use Rattle.translator.specs.Translate.{programme_of}
use Rattle.layout.specs.Room.{room_p}

-- it has at most 4n entries
abbrev pub FewEntries : Type 0
FewEntries = (b : List ℕ) (n o : ℕ) → Bytes b → judge_of b ≡ accepted_with n o → length (programme_of b) ≤ 4 * n

-- a turn: a budget, and an output to fill
pub record Turn : Type 0 where
  pub budget : ℕ
  pub out : List ℕ

abbrev pub ticked : List ℕ → List ℕ → State → Turn → Ticked
ticked p q s t = tick_of p q s t.budget t.out

-- the state after these ticks, one after another
unfoldable pub after_turns : List ℕ → List ℕ → List Turn → State → State
after_turns p q [] s = s
after_turns p q (t ∷ ts) s = after_turns p q ts (ticked p q s t).tick.state

-- the steps that they deal out: a tick whose output has no room is refused, and deals out none
abbrev pub deals : Turn → ℕ
deals t = if (ltb (length t.out) room_p) 0 t.budget

unfoldable pub dealt_out : List Turn → ℕ
dealt_out [] = 0
dealt_out (t ∷ ts) = deals t + dealt_out ts

-- what a tick gives after `before` steps were dealt out, where the run takes k: running, with all its steps taken, and the output as it was; once k are dealt
-- out, finished, with the steps that were left, the decision and its code, and the obligations in the output
abbrev pub running : State → Turn → Ticked
running s t = record { tick = record { state = s; steps = t.budget; answer = Running }; out = t.out }

abbrev pub finished : State → Turn → ℕ → Verdict → List ℕ → Ticked
finished s t steps d os = record {
  tick = record { state = s; steps = steps; answer = Finished d (length os) };
  out = os ++ replicate (length t.out - length os) 0;
}

abbrev pub answer_at : List ℕ → Bags → ℕ → ℕ → Turn → Verdict → List ℕ → Ticked
answer_at p g k before t d os =
    if (ltb (before + t.budget) k)
    (running (after_steps p g (before + t.budget) fresh_of) t)
    (finished (after_steps p g k fresh_of) t (k - before) d os)

-- there is a number of steps, at least one and at most the entries, by which every tick of every row of ticks answers
pub record Runs (p q : List ℕ) (d : Verdict) (os : List ℕ) : Type 0 where
  pub steps : ℕ
  pub begun : 0 < steps
  pub few : steps ≤ length p
  pub gives : (ts : List Turn) (t : Turn) → room_p ≤ length t.out
      → ticked p q (after_turns p q ts fresh_of) t ≡ answer_at p (bags_of q) steps (dealt_out ts) t d os

-- for every accepted book and every accepted request, with the decision, code and obligations of the meaning
abbrev pub RunsRight : Type 0
RunsRight =
    (b q : List ℕ) (n o m : ℕ) → Bytes b → judge_of b ≡ accepted_with n o → judge_request_of q ≡ Ok m
    → Runs (programme_of b) q (decides (bags_of q) (book_of b)) (obliges (bags_of q) (book_of b))
