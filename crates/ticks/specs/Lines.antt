-- What a tick prints: the steps taken, a space, and its answer; and what it leaves to the next. Assumes nothing.
use Rattle.std.specs.Prelude.{ℕ, ◌≡◌, Bool, true, false, List, [], ◌∷◌, ◌++◌, length, take, drop, replicate, Option}
use Rattle.std.specs.Bool.{then_some}
use Rattle.record.specs.Bytes.{most_records}
use Rattle.text.specs.Text.{lf}
use Rattle.line.specs.Line.{hex_of, decision_line, refusal_line}
use Rattle.meaning.specs.Meaning.{decision_in}
use Rattle.meaning.specs.Numbers.{number_of}
use Rattle.layout.specs.declared.State.{State}
use Rattle.run.specs.Tick.{tick_of}
use Rattle.run.specs.declared.kinds.Answer.{Answer}
use Rattle.run.specs.declared.kinds.Answer.TheVariants.{Running, Finished, Refused}

-- steps taken: 4 digits (a run takes no more steps than there are entries, so they are enough), and a space
unfoldable pub steps_of : ℕ → List ℕ
steps_of steps = hex_of 4 steps ++ (32 ∷ [])

-- 00 while running; else the line that `decide` prints
unfoldable pub answer_line : Answer → List ℕ → List ℕ
answer_line Running places = hex_of 2 0 ++ (lf ∷ [])
answer_line (Finished d n) places = decision_line (number_of (decision_in d)) (take n places)
answer_line (Refused r) places = refusal_line r

-- a line stands first in a lent output: n is its length, and what stands behind it stays
pub record Leads (line before after : List ℕ) (n : ℕ) : Type 0 where
  pub taken : n ≡ length line
  pub leaves : after ≡ line ++ drop n before

-- the run goes on after an answer
abbrev pub is_running : Answer → Bool
is_running Running = true
is_running (Finished d n) = false
is_running (Refused r) = false

-- what a tick leaves whose places were all zero: the state, if the run goes on
unfoldable pub after_of : List ℕ → List ℕ → State → ℕ → Option State
after_of p q s budget =
    let t = (tick_of p q s budget (replicate most_records 0)).tick in
    then_some (is_running t.answer) t.state
