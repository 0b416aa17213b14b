use Rattle.std.proofs.lemmas.Option.{IfSome_then}
use Rattle.grammar.proofs.Parts.{policy_parts_are}
use Rattle.grammar.proofs.policy_parts.Goals as goal

pub returns : goal.returns
returns c = IfSome_then _ c.own.ensures (λ due x. policy_parts_are _ c.in_ok-first.ensures c.in_ok-last.ensures x)
