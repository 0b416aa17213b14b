use Rattle.rules.proofs.Laws.{rule_no, rule_lost, rule_yes}
use Rattle.rules.proofs.rule.Goals as goal

pub returns-in-False : goal.returns-in-False
returns-in-False c = rule_no _ _ _ _ c.target.ensures c.in-False.is

pub returns-in-Unknown : goal.returns-in-Unknown
returns-in-Unknown c = rule_lost _ _ _ _ c.target.ensures c.in-Unknown.is

pub returns-in-True : goal.returns-in-True
returns-in-True c = rule_yes _ _ _ _ c.target.ensures c.in-True.is c.byte.ensures.0 c.effect_of.ensures c.when.ensures c.effected.ensures c.under.ensures
