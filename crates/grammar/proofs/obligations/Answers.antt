use Rattle.std.proofs.lemmas.Option.{IfSome_then}
use Rattle.grammar.proofs.Parties.{row_clean}
use mathlib.Core.Path.{sym, ◌∙◌}
use Rattle.grammar.proofs.obligations.Goals as goal

pub returns : goal.returns
returns c = IfSome_then _ c.party.ensures (λ due x. row_clean _ c.requires.0 c.requires.1 (sym c.span.ensures.0 ∙ c.if-span-n.false) x)
