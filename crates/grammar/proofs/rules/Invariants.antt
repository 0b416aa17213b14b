use Rattle.grammar.specs.Row.{Rules}
use Prim.Native.Nat.{◌-◌}
use Rattle.grammar.proofs.rules.Given as goal

abbrev pub invariant-loop-i : goal.invariant-loop-i
invariant-loop-i l = Rules l.book l.from l.i l.end l.depth

abbrev pub decreases-loop-i : goal.decreases-loop-i
decreases-loop-i l = l.end - l.i
