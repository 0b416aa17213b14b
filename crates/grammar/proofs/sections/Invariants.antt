use Rattle.grammar.specs.Row.{Row}
use Rattle.record.specs.Choose.{among}
use Prim.Native.Nat.{ℕ, ◌≤◌, ◌-◌}
use mathlib.Core.Bool.{true}
use mathlib.Core.Path.{◌≡◌}
use Rattle.grammar.proofs.sections.Given as goal

abbrev pub invariant-loop-i : goal.invariant-loop-i
invariant-loop-i l =
    (l.from ≤ l.i) × (l.i ≤ l.end) × (l.last ≤ 4) × ((pn gc pc : ℕ) → among 1 3 pn ≡ true → Row l.book l.from l.i l.end l.depth pn gc pc 0 l.last 0)

abbrev pub decreases-loop-i : goal.decreases-loop-i
decreases-loop-i l = l.end - l.i
