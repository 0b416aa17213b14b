use Rattle.std.specs.Prelude.{Err}
use Rattle.std.proofs.lemmas.Grind.{common_steps}
use lib.ListN.{length-take}
use mathlib.Core.Path.{◌≡◌, refl, ap, ◌∙◌}
use native.Mathlib.Omega.{arith}
use Rattle.meaning.specs.Numbers.{number_of}
use Rattle.text.proofs.Accepted.{read_fits}
use Rattle.decide.proofs.Laws.{printed_book, printed_request, printed_decided, decided_stands, decided_refused}
use Rattle.decide.proofs.put_ruling.Goals as goal

pub slice_bounds-decide-end : goal.slice_bounds-decide-end
slice_bounds-decide-end c = omega (arith, read_fits _ _ _ _ c.read_book.ensures.0 c.in_ok-n.was)

pub slice_bounds-decide-end-2 : goal.slice_bounds-decide-end-2
slice_bounds-decide-end-2 c = simp length-take (omega (arith, read_fits _ _ _ _ c.read_book.ensures.0 c.in_ok-n.was))

pub slice_bounds-decide-end-3 : goal.slice_bounds-decide-end-3
slice_bounds-decide-end-3 c = omega (arith, read_fits _ _ _ _ c.read_request.ensures.0 c.in_ok-m.was)

pub slice_bounds-decide-end-4 : goal.slice_bounds-decide-end-4
slice_bounds-decide-end-4 c = simp length-take (omega (arith, read_fits _ _ _ _ c.read_request.ensures.0 c.in_ok-m.was))

pub returns : goal.returns
returns c =
    let a = c.args in
    let s = decided_stands _ _ a.places.now c.requires.2 c.decide.ensures.0 c.decide.ensures.1 _ _ a.out.now c.in_ok-ruling.was
    (c.number-number.ensures.0 ∙ ap number_of c.decision_in.ensures) c.decide.auto.out c.requires.3 c.decision_line.ensures.0 c.decision_line.ensures.1 in (
      s.0,
      s.1 ∙ printed_decided a.book.now a.request.now a.records.now a.entries.now c.requires.0 c.read_book.ensures.0 _ c.in_ok-n.was c.read_book.ensures.1
          c.requires.1 c.read_request.ensures.0 _ c.in_ok-m.was c.read_request.ensures.1,
    )

pub returns-in_err-n : goal.returns-in_err-n
returns-in_err-n c =
    let a = c.args in
    let e : c.from_residual.result ≡ Err c.in_err-n.field-0.0 = grind (arith, common_steps) in
    rw e (printed_book a.book.now a.request.now a.records.now a.entries.now c.requires.0 c.read_book.ensures.0 _ c.in_err-n.was, refl)

pub returns-in_err-m : goal.returns-in_err-m
returns-in_err-m c =
    let a = c.args in
    let e : c.from_residual-in_err-m.result ≡ Err c.in_err-m.field-0.0 = grind (arith, common_steps) in
    rw e (
      printed_request a.book.now a.request.now a.records.now a.entries.now c.requires.0 c.read_book.ensures.0 _ c.in_ok-n.was c.read_book.ensures.1
          c.requires.1 c.read_request.ensures.0 _ c.in_err-m.was,
      refl,
    )

pub returns-in_err-ruling : goal.returns-in_err-ruling
returns-in_err-ruling c =
    let a = c.args in
    let e : c.from_residual-in_err-ruling.result ≡ Err c.in_err-ruling.field-0.0 = grind (arith, common_steps) in
    rw e (
      decided_refused _ _ a.places.now c.requires.2 c.decide.ensures.0 c.decide.ensures.1 _ c.in_err-ruling.was
          ∙ printed_decided a.book.now a.request.now a.records.now a.entries.now c.requires.0 c.read_book.ensures.0 _ c.in_ok-n.was c.read_book.ensures.1
          c.requires.1 c.read_request.ensures.0 _ c.in_ok-m.was c.read_request.ensures.1,
      refl,
    )
