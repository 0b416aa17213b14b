use mathlib.Core.Path.{◌∙◌}
use native.Mathlib.Omega.{arith}
use Rattle.elders.proofs.Links.{row_of, row_empty}
use Rattle.elders.proofs.Node.children.Goals.{then-first-self, else-first-self}
use Rattle.elders.proofs.Node.children.Goals as goal

pub invariant_of-result : goal.invariant_of-result
invariant_of-result c = record {
  low = omega arith;
  walked =
      elim c.if-first-self.branch [
        | then-first-self w ↦ row_of _ _ _ _ w.if-first-self.true c.args.self.linked (w.last-is ∙ w.elder-last.ensures)
        | else-first-self w ↦ row_empty _ _ _ _ _ (omega (arith, c.args.self.some, w.if-first-self.false))
      ];
}
