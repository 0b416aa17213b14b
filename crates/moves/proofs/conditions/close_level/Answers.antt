use Rattle.moves.proofs.Outcome.{close_under}
use Rattle.moves.specs.Core.{value_in}
use Rattle.moves.proofs.conditions.close_level.Goals as goal

pub returns-then-nest-eq1 : goal.returns-then-nest-eq1
unfolding value_in
returns-then-nest-eq1 c = rw (c.if-nest-eq1.true, c.moving-then-nest-eq1.ensures, c.cleared-first.ensures, c.in_register.ensures, c.level_of-v.ensures)

pub returns : goal.returns
returns c =
    let a = c.args in
    close_under _ a.n a.nest a.l a.d _ _ _ _ c.settled_by.ensures c.past_if-on.ensures c.level_word.ensures a.m c.if-nest-eq0.false c.if-nest-eq1.false c.level_of-v.ensures c.level_of.ensures c.told_to-t.ensures c.moving-2.ensures
