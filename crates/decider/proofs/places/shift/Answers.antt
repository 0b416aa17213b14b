use Rattle.decider.proofs.Stack.{shifted}
use Rattle.decider.proofs.places.shift.Goals as goal

pub returns : goal.returns
returns c = shifted c.args.out.now c.args.at c.args.m c.args.e c.requires.1 c.requires.2 c.copy_within.ensures.after
