use mathlib.Core.Path.{refl}
use native.Mathlib.Omega.{arith}
use Rattle.emission.proofs.Emit.{nothing, finished}
use Rattle.emission.proofs.Turns.{one_more, all_ends}
use Rattle.emission.proofs.dues.ends.Goals as goal

pub loop-init : goal.loop-init
loop-init c = nothing refl

pub loop-preserved : goal.loop-preserved
loop-preserved c = one_more _ c.loop.invariant (finished c.single-start.ensures)

pub returns : goal.returns
returns c =
    all_ends _ _ c.loop.invariant (omega (arith, c.loop-test.false, c.loop.auto.counter-end, c.div_ceil-end.ensures, c.max.ensures))
