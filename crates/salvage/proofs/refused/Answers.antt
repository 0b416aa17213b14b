use mathlib.Core.Path.{refl}
use Rattle.salvage.proofs.Laws.{refusal_first}
use Rattle.salvage.proofs.refused.Goals as goal

pub returns : goal.returns
returns c =
    (refl, refusal_first c.args.refusal c.args.out.now c.requires c.refusal_line.ensures.0 c.refusal_line.ensures.1)
