use Prim.Native.Nat.{◌-◌, ◌*◌}
use Rattle.emission.proofs.values.+expr_operands.Given as goal

abbrev pub decreases-expr : goal.decreases-expr
decreases-expr l = 2 * (l.stop - l.i)

abbrev pub decreases-operands : goal.decreases-operands
decreases-operands l = 2 * (l.stop - l.i) - 1
