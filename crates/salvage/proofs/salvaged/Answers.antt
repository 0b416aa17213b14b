use lib.ListN.{length-take}
use native.Mathlib.Omega.{arith}
use Rattle.text.proofs.Accepted.{read_fits}
use Rattle.salvage.specs.Salvage.{said}
use Rattle.salvage.proofs.Laws.{read_by_lem, text_read, refused_says}
use Rattle.salvage.proofs.salvaged.Goals as goal

pub slice_bounds-mend-end : goal.slice_bounds-mend-end
slice_bounds-mend-end c = omega (arith, read_fits _ _ _ _ c.read_book.ensures.0 c.in-Ok.is)

pub slice_bounds-mend-end-in-Ok : goal.slice_bounds-mend-end-in-Ok
slice_bounds-mend-end-in-Ok c = simp length-take (omega (arith, read_fits _ _ _ _ c.read_book.ensures.0 c.in-Ok.is))

pub returns-in-Ok : goal.returns-in-Ok
returns-in-Ok c =
    let z = c.read_book.ensures in
    rw (text_read c.args.text.now c.args.records.now c.requires.0 c.zero_wrong.ensures z.0 _ z.1 c.in-Ok.is) c.mend.ensures

pub returns-in-Err : goal.returns-in-Err
returns-in-Err c =
    let a = c.args in
    refused_says c.in-Err.refusal (said a.text.now) (read_by_lem a.text.now a.records.now c.requires.0 c.zero_wrong.ensures c.read_book.ensures.0 c.in-Err.is)
    c.refused.ensures.0 c.refused.ensures.1
