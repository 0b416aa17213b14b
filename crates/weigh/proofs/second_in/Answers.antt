use Rattle.record.proofs.Forests.{span_le}
use Rattle.weigh.specs.Two.{second_in}
use Prim.Native.Nat.{◌+◌, ◌-◌}
use native.Mathlib.Omega.{arith}
use Rattle.weigh.proofs.second_in.Goals as goal

pub returns-then-first-stop : goal.returns-then-first-stop
unfolding second_in
returns-then-first-stop c =
    let a = c.args in
    let z = span_le a.book.now (a.i + 1) (a.stop - (a.i + 1)) in
    (omega (arith, z, c.if-first-stop.true), omega arith, omega arith)

pub returns-else-first-stop : goal.returns-else-first-stop
unfolding second_in
returns-else-first-stop c = (omega (arith, c.span_in.ensures.0), omega arith, omega (arith, c.span_in.ensures.1))
