use Rattle.std.specs.Prelude.{Err}
use Rattle.std.proofs.lemmas.Grind.{common_steps}
use lib.ListN.{length-take}
use mathlib.Core.Path.{◌≡◌, refl}
use native.Mathlib.Omega.{arith}
use Rattle.text.proofs.Accepted.{read_fits}
use Rattle.rewrite.proofs.Laws.{printed_refusal, shown}
use Rattle.rewrite.proofs.again.Goals as goal

pub returns-in_err-m : goal.returns-in_err-m
returns-in_err-m c =
    let r = c.in_err-m.field-0.0 in
    let e : c.read_book.result ≡ Err r = grind (arith, common_steps) in
    let f : c.from_residual.result ≡ Err r = grind (arith, common_steps) in
    rw f (refl, printed_refusal _ _ _ c.requires.0 c.read_book.ensures.0 e)

pub slice_bounds-write_book-end : goal.slice_bounds-write_book-end
slice_bounds-write_book-end c = omega (arith, read_fits _ _ _ _ c.read_book.ensures.0 c.in_ok-m.was, c.read_book.auto.out)

pub slice_bounds-write_book-end-2 : goal.slice_bounds-write_book-end-2
slice_bounds-write_book-end-2 c = simp length-take (omega (arith, read_fits _ _ _ _ c.read_book.ensures.0 c.in_ok-m.was, c.read_book.auto.out))

pub returns : goal.returns
returns c =
    let read = c.read_book.ensures in
    let write = c.write_book.ensures in
    shown c.args.text.now _ c.args.out.now _ (λ i. (c.type_inv.text i).fits) c.requires.1 read.0 read.1 c.in_ok-m.was write.0 c.requires.0 c.write_book.auto.out write.1
