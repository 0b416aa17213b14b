use lib.ListN.{length-take}
use native.Mathlib.Omega.{arith}
use Rattle.ticks.proofs.Printed.{leads_within}
use Rattle.ticks.proofs.show.Goals as goal

pub slice_bounds-out-end : goal.slice_bounds-out-end
slice_bounds-out-end g c = omega (arith, leads_within c.answer_line-n.ensures)

pub slice_bounds-write_all-end-2 : goal.slice_bounds-write_all-end-2
slice_bounds-write_all-end-2 g c = simp length-take (omega (arith, leads_within c.answer_line-n.ensures))
