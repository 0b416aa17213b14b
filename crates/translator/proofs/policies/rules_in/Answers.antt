use native.Mathlib.Omega.{arith}
use Rattle.emission.proofs.Turns.{go_begin, go_room, go_again, go_skip, go_end, rules_to, rules_stop, rules_turn, rules_skip, rules_grow}
use Rattle.emission.proofs.Emit.{same_as, differs}
use Rattle.translator.proofs.policies.rules_in.Goals as goal

pub loop-child-init : goal.loop-child-init
loop-child-init c = go_begin (rules_to _ _) _ _ (rules_stop _ _) c.children-row.ensures

pub rule-start-requires : goal.rule-start-requires
rule-start-requires c = (
  go_room (rules_to _ _) c.loop-child.invariant c.in-Some.ensures.child (rules_grow _ _) c.requires.0
      (λ p k. rules_turn _ _ p _ (same_as c.kind.ensures.0 c.if-kind-eq-RULE.true) k),
  omega (arith, c.loop-child.invariant.done.starts, c.requires.1),
)

pub loop-child-preserved-then-kind-eq-RULE : goal.loop-child-preserved-then-kind-eq-RULE
loop-child-preserved-then-kind-eq-RULE c =
    go_again (rules_to _ _) c.loop-child.invariant c.in-Some.ensures.child c.take_last.ensures.parent
    (λ p k. rules_turn _ _ p _ (same_as c.kind.ensures.0 c.if-kind-eq-RULE.true) k) c.rule-start.ensures

pub loop-child-preserved : goal.loop-child-preserved
loop-child-preserved c =
    go_skip (rules_to _ _) c.loop-child.invariant c.in-Some.ensures.child c.take_last.ensures.parent (λ p. rules_skip _ _ p (differs 3 c.kind.ensures.0 c.if-kind-eq-RULE.false))

pub returns : goal.returns
returns c = go_end (rules_to _ _) c.loop-child.invariant c.in_default.ensures.none
