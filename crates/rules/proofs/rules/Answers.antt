use Rattle.record.proofs.Walks.{all_left, still, next_left, none_left}
use Rattle.meaning.specs.Reading.{rules_by}
use Rattle.rules.proofs.Laws.{rules_all, rules_end, not_only, rules_skip, rules_stop, rules_turn}
use Rattle.rules.proofs.rules.Goals as goal

pub loop-i-init : goal.loop-i-init
loop-i-init c =
    let new = c.new-i-items.ensures in
    let begun = all_left c.into_iter-i-iterator.ensures.into_iter_gives new.book new.at new.left in
    (begun.0, rw begun.1 (rules_all _ _ _ _ (rules_by c.args.choice) c.over_rules-a.ensures c.begin-acc.ensures))

pub loop-i-preserved-then-byte-ne-RULE : goal.loop-i-preserved-then-byte-ne-RULE
loop-i-preserved-then-byte-ne-RULE c =
    let kept = c.loop-i.invariant in
    (still kept.0 c.in-Some.ensures.steps, rules_skip _ _ _ _ _ (next_left kept.0 c.in-Some.ensures.steps) c.byte.ensures.0 kept.1 c.if-byte-ne-RULE.true)

pub returns-then-settles : goal.returns-then-settles
returns-then-settles c =
    let kept = c.loop-i.invariant in
    rules_stop _ _ _ _ _ (next_left kept.0 c.in-Some.ensures.steps) c.byte.ensures.0 kept.1 c.if-byte-ne-RULE.false
    (not_only _ (rules_by c.args.choice) c.over_rules-a.ensures) c.byte-in-loop-i.ensures.0 c.effect_of-e.ensures c.rule-v.ensures
    c.decision_in.ensures c.take_in-acc.ensures c.cause_in.ensures c.or_else-cause.ensures c.settles.ensures
    c.if-settles.true c.outcome.ensures c.coded.ensures

pub loop-i-preserved : goal.loop-i-preserved
loop-i-preserved c =
    let kept = c.loop-i.invariant in (
      still kept.0 c.in-Some.ensures.steps,
      rules_turn _ _ _ _ _ (next_left kept.0 c.in-Some.ensures.steps) c.byte.ensures.0 kept.1 c.if-byte-ne-RULE.false
          (not_only _ (rules_by c.args.choice) c.over_rules-a.ensures) c.byte-in-loop-i.ensures.0 c.effect_of-e.ensures c.rule-v.ensures
          c.decision_in.ensures c.take_in-acc.ensures c.cause_in.ensures c.or_else-cause.ensures c.settles.ensures
          c.if-settles.false,
    )

pub returns : goal.returns
returns c = rules_end _ _ _ _ _ (none_left c.loop-i.i-iterator c.in-None.ensures.steps) c.outcome-2.ensures c.coded-2.ensures c.loop-i.invariant.1
