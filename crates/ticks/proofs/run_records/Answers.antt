use lib.ListN.{length-take}
use native.Mathlib.Omega.{arith}
use Rattle.ticks.proofs.Fits.{entries_fit}
use Rattle.ticks.proofs.run_records.Goals as goal

pub slice_bounds-programme-end : goal.slice_bounds-programme-end
slice_bounds-programme-end g c = omega (arith, entries_fit _ _ _ c.translate.ensures.0 c.translate.ensures.1 c.translate.auto.out c.in-Ok.is)

pub slice_bounds-deal-end : goal.slice_bounds-deal-end
slice_bounds-deal-end g c = simp length-take (omega (arith, entries_fit _ _ _ c.translate.ensures.0 c.translate.ensures.1 c.translate.auto.out c.in-Ok.is))
