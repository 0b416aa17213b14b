use Prim.Native.Nat.{◌-◌}
use Rattle.emission.proofs.targets.+target.Given as goal

abbrev pub decreases-target : goal.decreases-target
decreases-target l = l.row.stop - l.row.from
