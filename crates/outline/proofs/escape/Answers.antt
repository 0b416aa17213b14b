use mathlib.Core.Path.{sym, ◌∙◌}
use Rattle.outline.proofs.Laws.{as_is, escape_plain, escape_other}
use borrow.Author.Rules.{rules}
use Rattle.outline.proofs.escape.Goals as goal

pub returns-then-is_plain : goal.returns-then-is_plain
returns-then-is_plain c = as_is (escape_plain _ (sym c.is_plain.ensures ∙ c.if-is_plain.true)) c.put.ensures

pub returns : goal.returns
returns c =
    let no = sym c.is_plain.ensures ∙ c.if-is_plain.false in
    as_is (escape_other _ no c.from-byte.ensures c.letter.ensures c.letter-2.ensures (search rules)) c.words.ensures
