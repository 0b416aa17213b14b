use Rattle.outline.proofs.Laws.{says_part}
use borrow.Author.Rules.{rules}
use Rattle.outline.proofs.words.Goals as goal

pub returns : goal.returns
returns c = says_part _ _ _ _ c.min-from.ensures c.min-n.ensures (search rules)
