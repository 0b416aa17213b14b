use Rattle.std.proofs.lemmas.Option.{IfSome_then}
use Rattle.grammar.proofs.Fits.{fits}
use Rattle.grammar.proofs.Values.{is_weighing_lem}
use mathlib.Core.Path.{sym}
use native.Mathlib.Omega.{arith}
use Rattle.grammar.proofs.weighing.Goals as goal

pub returns : goal.returns
returns c =
    IfSome_then _ c.operands.ensures
    (λ to x. is_weighing_lem _ (omega arith) x (fits c.if-not-is_fit.ensures) c.value_type-sort.ensures c.byte.ensures.0 (sym c.if-not-comparable.ensures))
