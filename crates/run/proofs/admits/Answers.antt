use native.Mathlib.Omega.{arith}
use Rattle.run.proofs.Laws.{stacks_small}
use Rattle.run.proofs.admits.Goals as goal

pub overflow_add-result : goal.overflow_add-result
overflow_add-result c = omega (arith, stacks_small _ _ c.unpack-h.ensures)
