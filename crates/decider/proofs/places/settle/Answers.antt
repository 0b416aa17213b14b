use Rattle.decider.proofs.Stack.{keep_both}
use Rattle.decider.proofs.places.settle.Goals as goal

pub returns-in-true-true : goal.returns-in-true-true
returns-in-true-true c = rw (c.in-true-true.is-0, c.in-true-true.is-1) (keep_both _ _ _ c.requires.1 c.requires.2)
