use native.Mathlib.Omega.{arith}
use Rattle.record.proofs.Laws.{big_eight}
use Rattle.record.proofs.big8.Goals as goal

pub returns : goal.returns
returns c = rw (big_eight _ _) (omega arith)
