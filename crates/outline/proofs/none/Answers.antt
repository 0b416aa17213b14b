use Rattle.outline.proofs.Laws.{says_none}
use Rattle.outline.proofs.none.Goals as goal

pub returns : goal.returns
returns c = says_none _ _ c.min.ensures
