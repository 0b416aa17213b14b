use Rattle.grammar.proofs.Children.{own_more}
use Rattle.grammar.proofs.Fits.{fits}
use Rattle.grammar.proofs.Rows.{row_to}
use native.Mathlib.Omega.{arith}
use Rattle.grammar.proofs.own.Goals as goal

pub loop-i-preserved : goal.loop-i-preserved
loop-i-preserved c pn gc pc l = own_more _ (c.loop-i.invariant pn gc pc l) (fits c.if-not-is_fit.ensures) c.loop-i-test.true l c.if-depth-ge-MOST_DEPTH.false

pub returns : goal.returns
returns c = record { row = λ pn gc pc l. row_to _ (omega arith) (omega arith) (c.loop-i.invariant pn gc pc l) }
