use mathlib.Core.Path.{◌∙◌}
use borrow.Author.Rules.{rules}
use Rattle.emission.proofs.Turns.{go_begin, go_room, go_again, go_skip, go_end, obligations_to, obligations_stop, obligations_turn, obligations_skip, obligations_grow}
use Rattle.emission.proofs.Emit.{same_as, differs, effect_at, obliged}
use Rattle.translator.proofs.policies.obligations.Goals as goal

pub loop-child-init : goal.loop-child-init
loop-child-init c = go_begin (obligations_to _ _) _ _ (obligations_stop _ _) c.children-row.ensures

pub single-start-requires : goal.single-start-requires
single-start-requires c = (
  go_room (obligations_to _ _) c.loop-child.invariant c.in-Some.ensures.child (obligations_grow _ _) c.requires
      (λ p k. obligations_turn _ _ p (same_as c.kind.ensures.0 c.if-kind-eq-OBLIGATION.true)),
  search rules,
  search rules,
)

pub loop-child-preserved-then-kind-eq-OBLIGATION : goal.loop-child-preserved-then-kind-eq-OBLIGATION
loop-child-preserved-then-kind-eq-OBLIGATION c =
    go_again (obligations_to _ _) c.loop-child.invariant c.in-Some.ensures.child c.take_last.ensures.parent
    (λ p k. obligations_turn _ _ p (same_as c.kind.ensures.0 c.if-kind-eq-OBLIGATION.true))
    (obliged _ _ (effect_at c.choice.ensures.0 c.effect_code-effect.ensures.0) (c.from.ensures ∙ c.big2-n.ensures) c.single-start.ensures)

pub loop-child-preserved : goal.loop-child-preserved
loop-child-preserved c =
    go_skip (obligations_to _ _) c.loop-child.invariant c.in-Some.ensures.child c.take_last.ensures.parent (λ p. obligations_skip _ _ p (differs 8 c.kind.ensures.0 c.if-kind-eq-OBLIGATION.false))

pub returns : goal.returns
returns c = go_end (obligations_to _ _) c.loop-child.invariant c.in_default.ensures.none
