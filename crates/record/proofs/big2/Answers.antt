use native.Mathlib.Omega.{arith}
use Rattle.record.proofs.Laws.{big_two}
use Rattle.record.proofs.big2.Goals as goal

pub returns : goal.returns
returns c = rw (big_two _ _) (omega (arith, c.from_be_bytes.ensures))
