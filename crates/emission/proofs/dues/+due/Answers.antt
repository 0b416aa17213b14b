use mathlib.Core.Path.{sym, ◌∙◌}
use Rattle.emission.proofs.Turns.{count_begin, count_own, count_flat, count_party, count_other, count_end}
use Rattle.emission.proofs.Emit.{same_as, differs, effect_at}
use Rattle.emission.proofs.dues.+due.Goals.{else-set-via-then-set+else-is_party, else-set-via-else-set}
use Rattle.emission.proofs.dues.+due.Goals as goal

pub loop-at-init : goal.loop-at-init
loop-at-init t c =
    let new = c.new-at-items.ensures in
    count_begin c.into_iter-at-iterator.ensures.into_iter_gives new.book new.at new.left c.requires.0

pub loop-at-preserved-then-kind-eq-OBLIGATION : goal.loop-at-preserved-then-kind-eq-OBLIGATION
loop-at-preserved-then-kind-eq-OBLIGATION t c =
    count_own c.loop-at.invariant c.in-Some.ensures.steps (same_as c.byte-kind.ensures.0 c.if-kind-eq-OBLIGATION.true)
    (effect_at c.byte.ensures.0 c.effect_code.ensures.0) c.effect_code-then-kind-eq-OBLIGATION.ensures.0 c.from-n.ensures

pub loop-at-preserved-then-is_party : goal.loop-at-preserved-then-is_party
loop-at-preserved-then-is_party t c =
    count_party c.loop-at.invariant c.in-Some.ensures.steps c.byte-kind.ensures.0 c.if-kind-eq-OBLIGATION.false (sym c.is_party.ensures ∙ c.if-is_party.true)
    c.if-set.true c.due-n.ensures.0 c.due-n.ensures.1

pub loop-at-preserved : goal.loop-at-preserved
loop-at-preserved t c =
    let own = differs 8 c.byte-kind.ensures.0 c.if-kind-eq-OBLIGATION.false in
    elim c.else-set.branch [
      | else-set-via-then-set+else-is_party w ↦ count_other c.loop-at.invariant c.in-Some.ensures.steps own (sym w.is_party.ensures ∙ w.if-is_party.false)
      | else-set-via-else-set w ↦ count_flat c.loop-at.invariant c.in-Some.ensures.steps own w.if-set.false
    ]

pub returns : goal.returns
returns t c = count_end c.loop-at.invariant c.in-None.ensures.steps
