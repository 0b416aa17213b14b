use Rattle.grammar.proofs.Fits.{fits}
use Rattle.grammar.proofs.Parts.{rule_more}
use mathlib.Core.Path.{refl}
use native.Mathlib.Omega.{arith}
use Rattle.grammar.proofs.rules.Goals as goal

pub loop-i-preserved : goal.loop-i-preserved
loop-i-preserved c =
    let f = fits c.if-is_fit.ensures in
    let parts = c.if-not-rule_parts.ensures refl in
    record { upto = omega arith; row = λ gc pc. rule_more _ (c.loop-i.invariant.row gc pc) f (omega arith) (omega arith) (omega arith) parts }
