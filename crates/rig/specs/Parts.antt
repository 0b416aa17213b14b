-- What a caller reads off a tick's number: running is told from every decision and from a refusal by the low byte, and no part is lost. `proofs/Parts.antt`
-- proves it. Assumes nothing.
use Rattle.std.specs.Prelude.{ℕ, ◌/◌, ◌%◌, ◌<◌, ◌≡◌, List}
use Rattle.meaning.specs.Meaning.{decision_in}
use Rattle.meaning.specs.Numbers.{number_of, code_number}
use Rattle.meaning.specs.declared.Verdict.{Verdict}
use Rattle.run.specs.declared.kinds.Answer.{Answer}
use Rattle.run.specs.declared.kinds.Answer.TheVariants.{Running, Finished, Refused}
use Rattle.run.specs.declared.kinds.Tick.{Tick}
use Rattle.rig.specs.Rig.{running_number, finished_number, tick_call}

-- running 0, finished the decision's number, refused 255
abbrev pub low_byte : Answer → ℕ
low_byte Running = 0
low_byte (Finished v count) = number_of (decision_in v)
low_byte (Refused r) = 255

abbrev pub LowByte : Type 0
LowByte = (t : Tick) (numbers places : List ℕ) → (tick_call t numbers places).number % 256 ≡ low_byte t.answer

-- bits 8 to 23 the count, 24 to 31 the code, bits 32 on the steps
abbrev pub RunningParts : Type 0
RunningParts = (steps : ℕ) → (running_number steps / 16777216 % 256 ≡ 0) × (running_number steps / 4294967296 ≡ steps)

abbrev pub FinishedParts : Type 0
FinishedParts =
    (v : Verdict) (count steps : ℕ) → count < 65536
    → let n = finished_number v count steps in
    (n / 256 % 65536 ≡ count) × (n / 16777216 % 256 ≡ code_number v) × (n / 4294967296 ≡ steps)
