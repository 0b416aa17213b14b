use Rattle.grammar.specs.Row.{Row}
use Rattle.placement.specs.Place.{most_depth}
use Prim.Native.Nat.{ℕ, ◌<◌}
use Rattle.grammar.proofs.matches.Given as goal

abbrev pub invariant-loop-i : goal.invariant-loop-i
invariant-loop-i l = (d pc : ℕ) → d < most_depth → Row l.book l.from l.i l.end d 5 l.category pc 5 5 0
