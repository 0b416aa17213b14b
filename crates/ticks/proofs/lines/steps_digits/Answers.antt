use Rattle.ticks.proofs.Printed.{steps_are}
use Rattle.ticks.proofs.lines.steps_digits.Goals as goal

pub returns : goal.returns
returns c = rw (c.letter.ensures, c.letter-2.ensures, c.letter-3.ensures, c.letter-4.ensures) (steps_are c.args.steps)
