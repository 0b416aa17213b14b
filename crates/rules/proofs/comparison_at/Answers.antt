use Rattle.meaning.specs.Reading.{comparison_at}
use Rattle.rules.proofs.comparison_at.Goals as goal

pub returns : goal.returns
unfolding comparison_at
returns c = rw (← c.byte.ensures.0, ← c.saturating_sub.ensures) c.test_at.ensures
