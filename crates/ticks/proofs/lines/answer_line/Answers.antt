use mathlib.Core.Path.{ap, ◌∙◌}
use Rattle.meaning.specs.Numbers.{number_of}
use Rattle.ticks.proofs.Printed.{running_put, finished_put, refused_put}
use Rattle.ticks.proofs.lines.answer_line.Goals as goal

pub returns-in-Running : goal.returns-in-Running
returns-in-Running c = running_put c.args.out.now c.args.places.now c.copy_from_slice.ensures.after c.in-Running.is

pub returns-in-Finished : goal.returns-in-Finished
returns-in-Finished c =
    finished_put c.args.out.now c.args.places.now c.requires.1 c.requires.0 _ _ c.in-Finished.is (c.number.ensures.0 ∙ ap number_of c.decision_in.ensures)
    c.decision_line.ensures.0 c.decision_line.ensures.1

pub returns-in-Refused : goal.returns-in-Refused
returns-in-Refused c =
    refused_put c.args.out.now c.args.places.now c.requires.1 c.requires.0 _ c.in-Refused.is c.refusal_line.ensures.0 c.refusal_line.ensures.1
