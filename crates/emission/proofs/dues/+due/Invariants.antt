use Prim.Native.Nat.{◌-◌}
use Rattle.emission.proofs.Turns.{Counting}
use Rattle.meaning.specs.Reading.{effect_of}
use Rattle.emission.proofs.dues.+due.Given as goal

abbrev pub invariant-loop-at : goal.invariant-loop-at
invariant-loop-at l = Counting l.book l.i l.stop (effect_of l.e) l.set l.at-iterator l.n

abbrev pub decreases-due : goal.decreases-due
decreases-due l = l.stop - l.i
