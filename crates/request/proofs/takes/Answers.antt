use mathlib.Core.Path.{◌∙◌}
use borrow.Author.Rules.{rules}
use Rattle.request.proofs.Laws.{takes_apart, takes_by}
use Rattle.request.proofs.takes.Goals as goal

pub returns-then-is4 : goal.returns-then-is4
returns-then-is4 c = takes_by _ (λ i. search rules) _ _ c.is4.ensures c.if-is4.true (c.from.ensures ∙ c.big2.ensures) c.takes_issuer.ensures

pub returns-else-is4 : goal.returns-else-is4
returns-else-is4 c = c.if-is4.false ∙ takes_apart _ (λ i. search rules) _ _ c.is4.ensures c.if-is4.false
