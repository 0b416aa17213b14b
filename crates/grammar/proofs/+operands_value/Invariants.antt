use Prim.Native.Nat.{◌+◌, ◌-◌, ◌*◌}
use Rattle.grammar.proofs.+operands_value.Given as goal

abbrev pub decreases-operands : goal.decreases-operands
decreases-operands l = 2 * (l.end - l.i)

abbrev pub decreases-value : goal.decreases-value
decreases-value l = 2 * (l.end - l.i) + 1
