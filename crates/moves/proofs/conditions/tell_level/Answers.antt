use Rattle.moves.proofs.Outcome.{tell_open}
use Rattle.moves.proofs.conditions.tell_level.Goals as goal

pub returns : goal.returns
returns c = let a = c.args in tell_open _ a.n a.nest a.l a.d _ _ _ _ c.settled_by.ensures c.past_if-on.ensures c.level_word.ensures a.v c.if-nest-eq0.false c.level_of.ensures c.told_to-t.ensures c.moving-2.ensures
