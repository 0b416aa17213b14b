use Rattle.request.proofs.Laws.{bag_empty, bag_several, bag_one}
use Rattle.request.proofs.lookup.Goals as goal

pub returns-in_default : goal.returns-in_default
returns-in_default c = bag_empty _ _ c.in_default.ensures

pub returns-in-None : goal.returns-in-None
returns-in-None c = bag_one _ _ c.in-Some.ensures c.in-None.ensures c.value_at.ensures

pub returns-in-Some-next : goal.returns-in-Some-next
returns-in-Some-next c = bag_several _ _ c.in-Some.ensures c.in-Some-next.ensures
