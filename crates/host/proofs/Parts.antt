-- The claim of specs/Parts.antt. Assumes nothing.
use Prim.Native.Nat.{◌+◌, ◌*◌, ◌/◌}
use mathlib.Core.Path.{◌≡◌}
use Rattle.decider.specs.Outcome.{decided_with}
use native.Mathlib.Omega.{arith}
use Rattle.meaning.proofs.Small.{number_small}
use Rattle.meaning.specs.Meaning.{decision_in}
use Rattle.meaning.specs.Numbers.{code_number}
use Rattle.host.specs.Host.{host_number}
use Rattle.host.specs.Parts.{NumberParts}

pub number_parts : NumberParts
number_parts v count few =
    let h = number_small (decision_in v) in
    let e : host_number (decided_with v count) / 256 ≡ count + 4294967296 * code_number v = omega (arith, h) in
    (omega (arith, h), rw e (omega (arith, few)), omega (arith, h, few))
