use Rattle.moves.proofs.Outcome.{section_false}
use Rattle.moves.proofs.targets.section_done.Goals as goal

pub returns-in-False : goal.returns-in-False
returns-in-False c = let a = c.args in section_false _ _ _ a.s.ends_target a.s.section a.s.out a.t a.d c.in-False.is c.target3.ensures c.section_held-in-False.ensures
