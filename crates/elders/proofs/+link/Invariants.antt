use Prim.Native.Nat.{◌-◌}
use Rattle.elders.proofs.Links.{Linking}
use Rattle.elders.proofs.+link.Given as goal

abbrev pub invariant-loop-i : goal.invariant-loop-i
invariant-loop-i l = Linking l.book l.from l.stop l.initial.elders l.elders l.i l.last

abbrev pub decreases-loop-i : goal.decreases-loop-i
decreases-loop-i l = l.stop - l.i

abbrev pub decreases-link : goal.decreases-link
decreases-link l = l.stop - l.from
