use mathlib.Core.Path.{ap₂, ◌∙◌}
use Rattle.meaning.specs.Numbers.{key_number}
use Rattle.meaning.specs.Reading.{key_at}
use borrow.Author.Rules.{rules}
use Rattle.weigh.proofs.key_at.Goals as goal

pub returns : goal.returns
unfolding key_at
returns c = (ap₂ key_number (c.from.ensures ∙ c.bare_at.ensures) (c.from-2.ensures ∙ c.big2-issuer.ensures), search rules)
