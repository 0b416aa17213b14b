use mathlib.Core.Path.{ap, sym, ◌∙◌}
use native.Mathlib.Omega.{arith}
use Rattle.rig.specs.Rig.{translated_number}
use Rattle.rig.proofs.Laws.{entries_few, refused_translating, translates}
use Rattle.rig.proofs.bachumoi_translate.Goals as goal

pub overflow_mul-result : goal.overflow_mul-result
overflow_mul-result c =
    let a = c.args in
    omega (arith, entries_few a.book.now a.programme.now c.translate.ensures.0 c.in-Ok.is)

pub refusal_number-requires : goal.refusal_number-requires
refusal_number-requires c =
    let a = c.args in
    refused_translating a.book.now a.programme.now c.translate.ensures.0 c.in-Err.is

pub returns-in-Ok : goal.returns-in-Ok
returns-in-Ok c =
    let a = c.args in
    let w = c.translate.ensures in
    translates a.book.now a.programme.now w.0 (sym (ap translated_number c.in-Ok.is)) w.1

pub returns-in-Err : goal.returns-in-Err
returns-in-Err c =
    let a = c.args in
    let w = c.translate.ensures in
    translates a.book.now a.programme.now w.0 (c.refusal_number.ensures ∙ sym (ap translated_number c.in-Err.is)) w.1
