use mathlib.Core.Path.{ap, ◌∙◌}
use Rattle.mending.proofs.Caller.{answers_within}
use Rattle.mender.specs.Mender.{salvaged_number}
use Rattle.mender.proofs.bachumoi_salvage.Goals as goal

pub number-requires : goal.number-requires
number-requires c = rw c.salvage.ensures.0 (answers_within _ _ _)

pub returns : goal.returns
returns c =
    let z = c.salvage.ensures in
    (c.number.ensures ∙ ap salvaged_number z.0, rw (← z.0) z.1, rw (← z.0) z.2)
