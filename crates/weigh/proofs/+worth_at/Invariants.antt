use Prim.Native.Nat.{◌-◌}
use Rattle.weigh.proofs.+worth_at.Given as goal

abbrev pub decreases-worth_at : goal.decreases-worth_at
decreases-worth_at l = l.stop - l.i
