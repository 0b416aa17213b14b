use Rattle.grammar.proofs.Children.{match_more}
use Rattle.grammar.proofs.Fits.{fits}
use Rattle.grammar.proofs.Rows.{row_to}
use mathlib.Core.Path.{refl}
use native.Mathlib.Omega.{arith}
use Rattle.grammar.proofs.matches.Goals as goal

pub loop-i-preserved : goal.loop-i-preserved
loop-i-preserved c = match_more _ c.loop-i.invariant (fits c.if-not-is_fit.ensures) c.loop-i-test.true c.byte.ensures.0 c.if-byte-category.false

pub returns : goal.returns
returns c e d pc l = row_to _ (omega arith) refl (c.loop-i.invariant d pc l)
