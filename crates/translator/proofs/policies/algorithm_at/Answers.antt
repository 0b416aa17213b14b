use Rattle.emission.proofs.Emit.{set_algorithm, policy_algorithm}
use Rattle.translator.proofs.policies.algorithm_at.Goals as goal

pub returns-then-byte-eq-SET : goal.returns-then-byte-eq-SET
returns-then-byte-eq-SET c =
    set_algorithm c.args.book.now c.args.i c.byte.ensures.0 c.byte-choice.ensures.0 c.if-byte-eq-SET.true c.over_policies.ensures

pub returns-else-byte-eq-SET : goal.returns-else-byte-eq-SET
returns-else-byte-eq-SET c =
    policy_algorithm c.args.book.now c.args.i c.byte.ensures.0 c.byte-choice.ensures.0 c.if-byte-eq-SET.false c.over_rules.ensures
