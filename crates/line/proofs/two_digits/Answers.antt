use Rattle.line.proofs.Laws.{stored_two}
use Rattle.line.proofs.two_digits.Goals as goal

pub returns : goal.returns
returns c = rw (c.letter.ensures, c.letter-2.ensures) (stored_two _ _ _)
