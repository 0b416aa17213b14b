-- The claims of specs/Parts.antt. Assumes nothing.
use Prim.Native.Nat.{◌+◌, ◌*◌, ◌/◌, ◌%◌}
use mathlib.Core.Path.{◌≡◌}
use native.Mathlib.Omega.{arith}
use Rattle.meaning.proofs.Small.{number_small, code_small}
use Rattle.meaning.specs.Meaning.{decision_in}
use Rattle.meaning.specs.Numbers.{code_number}
use Rattle.run.specs.declared.kinds.Answer.{Answer}
use Rattle.run.specs.declared.kinds.Answer.TheVariants.{Running, Finished, Refused}
use Rattle.rig.specs.Rig.{finished_number, answered, tick_call}
use Rattle.rig.specs.Parts.{low_byte, LowByte, RunningParts, FinishedParts}

pub low_byte_lem : LowByte
unfolding tick_call
low_byte_lem t numbers places = go t.answer
  where
    go : (a : Answer) → (answered a t numbers places).number % 256 ≡ low_byte a
    go Running = omega arith
    go (Finished v count) = omega (arith, number_small (decision_in v))
    go (Refused r) = omega arith

pub running_parts : RunningParts
running_parts steps = (omega arith, omega arith)

pub finished_parts : FinishedParts
finished_parts v count steps few =
    let h = number_small (decision_in v) in
    let k = code_small v in
    let e : finished_number v count steps / 256 ≡ count + 65536 * code_number v + 16777216 * steps = omega (arith, h) in
    let f : finished_number v count steps / 16777216 ≡ code_number v + 256 * steps = omega (arith, h, few) in
    (rw e (omega (arith, few)), rw f (omega (arith, k)), omega (arith, h, k, few))
