use Rattle.grammar.proofs.Parts.{without_condition, with_condition}
use mathlib.Core.Path.{sym, ◌∙◌}
use Rattle.grammar.proofs.rule_parts.Goals as goal

pub returns-then-at-end : goal.returns-then-at-end
returns-then-at-end c _ gc pc = without_condition _ c.in-Some.ensures gc pc c.if-at-end.true

pub returns-else-at-end : goal.returns-else-at-end
returns-else-at-end c y gc pc = with_condition _ c.in-Some.ensures gc pc _ c.condition.ensures (sym c.eq.ensures ∙ y)
