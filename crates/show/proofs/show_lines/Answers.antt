use Rattle.text.proofs.Accepted.{read_fits}
use native.Mathlib.Omega.{arith}
use lib.ListN.{length-take}
use Rattle.show.proofs.show_lines.Goals as goal

pub slice_bounds-show_kept-end : goal.slice_bounds-show_kept-end
slice_bounds-show_kept-end g c = omega (arith, read_fits _ _ _ _ c.read_book.ensures.0 c.in-Ok.is)

pub slice_bounds-show_kept-end-in-Ok : goal.slice_bounds-show_kept-end-in-Ok
slice_bounds-show_kept-end-in-Ok g c = simp length-take (omega (arith, read_fits _ _ _ _ c.read_book.ensures.0 c.in-Ok.is))
