use mathlib.Core.Path.{◌≡◌}
use Prim.Native.Nat.{◌<◌}
use Rattle.std.specs.Prelude.{IfSome}
use Rattle.meaning.specs.Meaning.{match_of}
use Rattle.meaning.specs.Reading.{bags_of}
use Rattle.request.specs.Bag.{entries_of}
use Rattle.request.proofs.Laws.{still_of, left_of}
use Rattle.request.proofs.matches.Given as goal

abbrev pub invariant-loop-at : goal.invariant-loop-at
invariant-loop-at l = (IfSome l.at (λ k. k < entries_of l.request)) × (still_of l.request l.t l.at ≡ match_of (bags_of l.request) l.t)

abbrev pub decreases-loop-at : goal.decreases-loop-at
decreases-loop-at l = left_of l.request l.at
