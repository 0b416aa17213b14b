use native.Mathlib.Omega.{arith}
use Rattle.run.proofs.Laws.{number_made}
use Rattle.run.proofs.number.Goals as goal

pub returns : goal.returns
returns c = number_made c.args.steps _ _ _ (omega arith) c.pack.ensures
