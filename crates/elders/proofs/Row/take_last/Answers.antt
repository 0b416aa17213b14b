use mathlib.Core.Path.{refl}
use Prim.Native.Nat.{◌+◌, ◌<◌}
use native.Mathlib.Omega.{arith}
use Rattle.elders.proofs.Links.{piece_in, turned, linked_at}
use Rattle.elders.proofs.Row.take_last.Goals as goal

pub invariant_of-self : goal.invariant_of-self
invariant_of-self c =
    let w = c.args.self.now.walked in
    let h : c.args.self.now.parent.at + 1 < c.args.self.now.next = omega (arith, c.if-next-parent.false) in
    let p = piece_in w h in
    record { low = omega (arith, p.upto, p.inside); walked = turned w h c.elder.ensures }

pub invariant_of-result : goal.invariant_of-result
invariant_of-result c =
    let p = piece_in c.args.self.now.walked (omega (arith, c.if-next-parent.false)) in
    record {
      some = p.upto;
      most = omega (arith, p.inside, c.args.self.now.parent.most);
      bytes = omega (arith, p.inside, c.args.self.now.parent.bytes);
      linked = linked_at p;
    }

pub returns-clause-child : goal.returns-clause-child
returns-clause-child c =
    let w = c.args.self.now.walked in
    let h : c.args.self.now.parent.at + 1 < c.args.self.now.next = omega (arith, c.if-next-parent.false) in
    record { piece = piece_in w h; rest = turned w h refl; same_book = refl; same_elders = refl; same_place = refl; same_end = refl }
