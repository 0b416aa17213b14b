use Rattle.outline.proofs.Laws.{then, as_is, point_none, point_some}
use Rattle.outline.proofs.point.Goals as goal

pub returns-then-f-eq0 : goal.returns-then-f-eq0
returns-then-f-eq0 c = as_is (point_none _ c.if-f-eq0.true) c.none.ensures

pub returns : goal.returns
returns c = as_is (point_some _ c.if-f-eq0.false) (then c.put-at.ensures c.hexes.ensures)
