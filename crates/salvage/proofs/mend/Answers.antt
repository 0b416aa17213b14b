use mathlib.Core.Path.{sym, ◌∙◌}
use Rattle.salvage.specs.Salvage.{said_of}
use Rattle.salvage.proofs.Laws.{was_mended, said_by_lem, text_fits, lines_fit, mended_says, refused_says}
use Rattle.salvage.proofs.mend.Goals as goal

pub put_text-file-requires : goal.put_text-file-requires
put_text-file-requires c =
    let a = c.args in
    let z = c.salvage.ensures in
    let w = was_mended a.book.now a.mended.now a.replaced.now _ _ z.0 z.1 z.2 c.in-Ok.is in
    ((text_fits w).0, (text_fits w).1, (text_fits w).2, c.requires.2)

pub put_lines-lines-requires : goal.put_lines-lines-requires
put_lines-lines-requires c =
    let a = c.args in
    let z = c.salvage.ensures in
    let w = was_mended a.book.now a.mended.now a.replaced.now _ _ z.0 z.1 z.2 c.in-Ok.is in
    lines_fit w c.requires.1 c.salvage.auto.replaced a.printed.now c.requires.3

pub returns-in-Ok : goal.returns-in-Ok
returns-in-Ok c =
    let a = c.args in
    let z = c.salvage.ensures in
    let w = was_mended a.book.now a.mended.now a.replaced.now _ _ z.0 z.1 z.2 c.in-Ok.is in
    mended_says w c.requires.1 c.salvage.auto.replaced a.printed.now c.requires.3 c.requires.0 c.put_text-file.ensures c.put_lines-lines.ensures.0 c.put_lines-lines.ensures.1

pub returns-in-Err : goal.returns-in-Err
returns-in-Err c =
    let a = c.args in
    refused_says c.in-Err.refusal (said_of a.book.now) (said_by_lem a.book.now a.mended.now a.replaced.now c.requires.0 c.requires.1 (sym c.salvage.ensures.0 ∙ c.in-Err.is))
    c.refused.ensures.0 c.refused.ensures.1
