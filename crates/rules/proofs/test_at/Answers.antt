use Rattle.meaning.specs.Reading.{test_at}
use Rattle.rules.proofs.test_at.Goals as goal

pub returns : goal.returns
unfolding test_at
returns c = rw (c.function_of.ensures, c.byte.ensures.0, c.key_at.ensures.0, c.big8.ensures)
