use Rattle.grammar.specs.Row.{Row}
use Rattle.record.specs.Choose.{among}
use Prim.Native.Nat.{ℕ, ◌-◌}
use mathlib.Core.Bool.{true}
use mathlib.Core.Path.{◌≡◌}
use Rattle.grammar.proofs.own.Given as goal

abbrev pub invariant-loop-i : goal.invariant-loop-i
invariant-loop-i l = (pn gc pc : ℕ) → among 1 2 pn ≡ true → Row l.book l.from l.i l.end l.depth pn gc pc 6 6 (l.i - l.from)
