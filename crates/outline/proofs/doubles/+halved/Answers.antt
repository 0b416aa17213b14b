use Rattle.outline.proofs.Laws.{halved_none, halved_odd, halved_even}
use Rattle.outline.proofs.doubles.+halved.Goals as goal

pub returns-then-k-eq0 : goal.returns-then-k-eq0
returns-then-k-eq0 t c = halved_none _ _ c.if-k-eq0.true c.requires

pub returns-then-m-ne0 : goal.returns-then-m-ne0
returns-then-m-ne0 t c = halved_odd _ _ c.if-k-eq0.false c.if-m-ne0.true

pub returns : goal.returns
returns t c = halved_even _ _ c.if-k-eq0.false c.if-m-ne0.false c.halved.ensures
