use Rattle.meaning.specs.Reading.{match_at}
use Rattle.rules.proofs.match_at.Goals as goal

pub returns : goal.returns
unfolding match_at
returns c = rw (← c.byte.ensures.0) c.test_at.ensures
