use Rattle.spoilt.proofs.Lines.{type_none, type_first}
use Rattle.spoilt.proofs.first_type.Goals as goal

pub returns-then-from-top : goal.returns-then-from-top
returns-then-from-top c = type_first _ _ _ c.if-from-top.true c.value_type.ensures

pub returns-else-from-top : goal.returns-else-from-top
returns-else-from-top c = type_none _ _ _ c.if-from-top.false
