use Rattle.outline.proofs.Laws.{then, as_is, double_parts}
use Rattle.outline.proofs.double.Goals as goal

pub returns : goal.returns
returns c = as_is (double_parts _) (then c.hex-at.ensures c.digits_too.ensures)
