use lib.ListN.{length-take}
use native.Mathlib.Omega.{arith}
use Rattle.salvage.proofs.Laws.{text_first}
use Rattle.salvage.proofs.put_text.Goals as goal

pub slice_bounds-write_book-end : goal.slice_bounds-write_book-end
slice_bounds-write_book-end c = simp length-take (omega arith)

pub returns : goal.returns
returns c =
    let a = c.args in
    text_first a.records.now a.out.now a.n c.requires.0 c.requires.1 c.requires.2 c.requires.3 c.write_book.ensures.0 c.write_book.ensures.1 c.unwrap_or.ensures
