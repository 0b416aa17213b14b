use native.Mathlib.Omega.{arith}
use borrow.Author.Rules.{rules}
use Rattle.ticks.specs.Lines.{after_of}
use Rattle.run.proofs.Bounds.{few_steps}
use Rattle.ticks.proofs.turn.Goals as goal

pub show-requires : goal.show-requires
show-requires g c = (omega (arith, few_steps _ _ _ _ _ c.tick-ticked.ensures.0), search rules)

pub returns : goal.returns
unfolding after_of
returns g c = rw (c.then_some.ensures, c.is_running.ensures, c.tick-ticked.ensures.0)
