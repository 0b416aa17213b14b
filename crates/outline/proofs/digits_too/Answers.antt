use Rattle.outline.proofs.Laws.{then, as_is, too_none, too_some}
use mathlib.Core.Path.{sym, ◌∙◌}
use Rattle.outline.proofs.digits_too.Goals as goal

pub returns-in_default : goal.returns-in_default
returns-in_default c = as_is (too_none _ (sym c.whole.ensures ∙ c.in_default.is)) c.none.ensures

pub returns : goal.returns
returns c =
    as_is (too_some _ (sym c.whole.ensures ∙ c.in-Some.is) c.sign.ensures)
    (then c.words-at.ensures (then c.words-at-2.ensures (then c.decimal-at.ensures c.put.ensures)))
