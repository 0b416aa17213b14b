use borrow.Author.Rules.{rules}
use mathlib.Core.Path.{refl}
use Rattle.emission.proofs.Turns.{seek_on, seek_found, when_here, when_stop}
use Rattle.emission.proofs.Emit.{nothing, fits_as, same_as, differs}
use Rattle.emission.proofs.conditions.when.Goals as goal

pub condition-requires : goal.condition-requires
condition-requires c =
    (fits_as _ (when_here c.in-Some.ensures.first (same_as c.kind.ensures.0 c.if-kind-eq-CONDITION.true)) (fits_as _ c.loop-child.invariant.same c.requires.0), search rules)

pub returns-then-kind-eq-CONDITION : goal.returns-then-kind-eq-CONDITION
returns-then-kind-eq-CONDITION c =
    seek_found c.loop-child.invariant (when_here c.in-Some.ensures.first (same_as c.kind.ensures.0 c.if-kind-eq-CONDITION.true)) c.condition.ensures

pub loop-child-preserved : goal.loop-child-preserved
loop-child-preserved c =
    seek_on c.loop-child.invariant c.in-Some.ensures.first (differs 7 c.kind.ensures.0 c.if-kind-eq-CONDITION.false)

pub returns : goal.returns
returns c = seek_found c.loop-child.invariant (when_stop _ _ _ c.in_default.ensures.none) (nothing refl)
