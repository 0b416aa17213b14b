use mathlib.Core.Path.{◌≡◌}
use Rattle.decide.proofs.Laws.{refusal_stands}
use Rattle.decide.proofs.decided.Goals as goal

pub returns-in-Ok : goal.returns-in-Ok
returns-in-Ok c = c.in-Ok.ensures

pub returns-in-Err : goal.returns-in-Err
returns-in-Err c =
    let l : c.put_ruling.new.out ≡ c.args.out.now = c.in-Err.ensures.1 in
    refusal_stands _ _ (rw l c.requires.3) c.refusal_line.ensures.0 c.refusal_line.ensures.1 c.in-Err.ensures.0
