use native.Mathlib.Omega.{arith}
use Rattle.elders.proofs.Links.{linked_below}
use Rattle.elders.proofs.Node.rest.Goals as goal

pub invariant_of-result : goal.invariant_of-result
invariant_of-result c = record {
  low = omega (arith, c.args.self.some);
  most = c.args.self.most;
  bytes = c.args.self.bytes;
  below = linked_below _ _ _ _ c.args.self.linked;
}
