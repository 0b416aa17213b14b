use Rattle.outline.proofs.Laws.{as_is, decimal_same}
use mathlib.Core.Path.{◌∙◌}
use borrow.Author.Rules.{rules}
use Rattle.outline.proofs.decimal.Goals as goal

pub returns : goal.returns
returns c = as_is (c.decimal-k.ensures.digits ∙ decimal_same c.args.n c.decimal-k.result (search rules) c.decimal-k.ensures.len) c.words.ensures
