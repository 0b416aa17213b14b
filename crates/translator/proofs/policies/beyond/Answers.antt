use native.Mathlib.Omega.{arith}
use Rattle.translator.proofs.policies.beyond.Goals as goal

pub returns : goal.returns
returns c = omega arith
