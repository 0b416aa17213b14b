use Rattle.request.proofs.Laws.{match_empty, match_begins}
use Rattle.request.proofs.matches.Goals as goal

pub returns-in_default : goal.returns-in_default
returns-in_default c = match_empty _ _ c.in_default.ensures c.absent.ensures

pub loop-at-init : goal.loop-at-init
loop-at-init c = (c.in-Some.ensures.place.1, match_begins _ _ c.in-Some.ensures)
