use Rattle.outline.proofs.Laws.{then, as_is, power_minus, power_plus}
use Rattle.outline.proofs.power.Goals as goal

pub returns-then-e-lt-BIAS : goal.returns-then-e-lt-BIAS
returns-then-e-lt-BIAS c = as_is (power_minus _ c.if-e-lt-BIAS.true) (then c.words-at.ensures c.decimal.ensures)

pub returns : goal.returns
returns c = as_is (power_plus _ c.if-e-lt-BIAS.false) (then c.words-at-2.ensures c.decimal-2.ensures)
