use Rattle.record.proofs.Walks.{still, next_left, none_left}
use Rattle.rules.proofs.Laws.{when_here, when_later, when_none}
use Rattle.rules.proofs.when.Goals as goal

pub returns-then-byte-eq-CONDITION : goal.returns-then-byte-eq-CONDITION
returns-then-byte-eq-CONDITION c =
    let kept = c.loop-i.invariant in
    when_here _ (next_left kept.0 c.in-Some.ensures.steps) _ c.byte.ensures.0 c.if-byte-eq-CONDITION.true c.condition.ensures kept.1

pub loop-i-preserved : goal.loop-i-preserved
loop-i-preserved c =
    let kept = c.loop-i.invariant in
    (still kept.0 c.in-Some.ensures.steps, when_later _ (next_left kept.0 c.in-Some.ensures.steps) _ c.byte.ensures.0 c.if-byte-eq-CONDITION.false kept.1)

pub returns : goal.returns
returns c = when_none (none_left c.loop-i.i-iterator c.in-None.ensures.steps) _ _ c.loop-i.invariant.1
