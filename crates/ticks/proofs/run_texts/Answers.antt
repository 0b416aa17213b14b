use lib.ListN.{length-take}
use native.Mathlib.Omega.{arith}
use Rattle.text.proofs.Accepted.{read_fits}
use Rattle.ticks.proofs.run_texts.Goals as goal

pub slice_bounds-records-end : goal.slice_bounds-records-end
slice_bounds-records-end g c =
    omega (arith, read_fits _ _ _ _ c.read_book.ensures.0 c.in-Ok.is)

pub slice_bounds-run_records-end : goal.slice_bounds-run_records-end
slice_bounds-run_records-end g c =
    simp length-take (omega (arith, read_fits _ _ _ _ c.read_book.ensures.0 c.in-Ok.is))

pub slice_bounds-entries-end : goal.slice_bounds-entries-end
slice_bounds-entries-end g c = omega (arith, read_fits _ _ _ _ c.read_request.ensures.0 c.in-Ok-read_request.is)

pub slice_bounds-run_records-end-in-Ok-read_request : goal.slice_bounds-run_records-end-in-Ok-read_request
slice_bounds-run_records-end-in-Ok-read_request g c = simp length-take (omega (arith, read_fits _ _ _ _ c.read_request.ensures.0 c.in-Ok-read_request.is))
