use Rattle.outline.proofs.Laws.{says_same}
use borrow.Author.Rules.{rules}
use Rattle.outline.proofs.repeat.Goals as goal

pub returns : goal.returns
returns c = says_same _ _ _ _ _ c.min-from.ensures c.min-n.ensures (search rules)
