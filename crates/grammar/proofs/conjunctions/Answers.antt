use Rattle.grammar.proofs.Children.{conjunction_more}
use Rattle.grammar.proofs.Fits.{fits}
use Rattle.grammar.proofs.Rows.{row_to}
use mathlib.Core.Path.{refl}
use native.Mathlib.Omega.{arith}
use Rattle.grammar.proofs.conjunctions.Goals as goal

pub loop-i-preserved : goal.loop-i-preserved
loop-i-preserved c =
    let f = fits c.if-not-is_fit.ensures in
    (omega arith, omega arith, conjunction_more _ c.span.ensures.0 refl c.if-end-next.false c.loop-i.invariant.2 f (c.if-not-matches.ensures refl))

pub returns : goal.returns
returns c e d gc l = row_to _ (omega arith) refl (c.loop-i.invariant.2 d gc l)
