use Prim.Native.Nat.{◌-◌}
use Rattle.emission.specs.Emit.{in_rest, when_code}
use Rattle.emission.proofs.Turns.{Seeking}
use Rattle.emission.proofs.conditions.when.Given as goal

abbrev pub invariant-loop-child : goal.invariant-loop-child
invariant-loop-child l = Seeking (in_rest when_code l.row) l.left l.initial.out l.out

abbrev pub decreases-loop-child : goal.decreases-loop-child
decreases-loop-child l = l.left.stop - l.left.from
