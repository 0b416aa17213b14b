use native.Mathlib.Omega.{arith}
use Rattle.record.specs.Bytes.{turned}
use Rattle.record.proofs.turn.Goals as goal

pub returns : goal.returns
unfolding turned
returns c = omega (arith, c.swap_bytes.ensures)
