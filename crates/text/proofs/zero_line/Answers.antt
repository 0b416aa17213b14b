use Rattle.text.proofs.Lists.{map_next}
use Rattle.text.proofs.zero_line.Goals as goal

pub loop-c-preserved : goal.loop-c-preserved
loop-c-preserved c = map_next _ c.args.line.now c.loop-c.invariant c.loop-c-test.true c.legible.ensures
