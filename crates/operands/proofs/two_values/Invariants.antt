use Rattle.operands.proofs.Lookahead.{Seen}
use Rattle.operands.proofs.two_values.Given as goal

abbrev pub invariant-loop-j : goal.invariant-loop-j
invariant-loop-j l = Seen l.book l.i l.t l.j l.reach l.children l.operands
