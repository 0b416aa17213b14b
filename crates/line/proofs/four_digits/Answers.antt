use Rattle.line.proofs.Laws.{stored_four}
use Rattle.line.proofs.four_digits.Goals as goal

pub returns : goal.returns
returns c = rw (c.two_digits-2.ensures, c.two_digits.ensures) (stored_four _ _ _)
