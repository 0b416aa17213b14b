use Rattle.rules.proofs.Laws.{weighs_few, weighs_two}
use mathlib.Core.Path.{refl}
use Rattle.rules.proofs.weighed.Goals as goal

pub returns-then-second-stop : goal.returns-then-second-stop
returns-then-second-stop c =
    let r = c.requires in
    weighs_few _ _ _ _ refl r.2 r.0 c.second_in-second.ensures.0 c.if-second-stop.true c.compared.ensures

pub returns : goal.returns
returns c = weighs_two _ _ _ _ refl c.requires.2 c.compared-2.ensures
