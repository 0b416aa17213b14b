use Prim.Native.Nat.{◌<◌}
use mathlib.Core.Path.{refl}
use native.Mathlib.Omega.{arith}
use Rattle.elders.proofs.Links.{below_first, below_rest, first_some, first_upto}
use Rattle.elders.proofs.Rest.take_first.Goals as goal

pub invariant_of-self : goal.invariant_of-self
invariant_of-self c =
    let h : c.args.self.now.from < c.args.self.now.stop = omega (arith, c.args.self.now.low, c.if-from-stop.false) in
    record {
      low = first_upto _ _ _ h c.span_in.ensures.0;
      most = c.args.self.now.most;
      bytes = c.args.self.now.bytes;
      below = below_rest _ _ _ _ _ h c.span_in.ensures.0 c.args.self.now.below;
    }

pub invariant_of-result : goal.invariant_of-result
invariant_of-result c =
    let h : c.args.self.now.from < c.args.self.now.stop = omega (arith, c.args.self.now.low, c.if-from-stop.false) in
    let l = first_upto _ _ _ h c.span_in.ensures.0 in
    record {
      some = first_some _ _ _ h c.span_in.ensures.0;
      most = omega (arith, l, c.args.self.now.most);
      bytes = omega (arith, l, c.args.self.now.bytes);
      linked = below_first _ _ _ _ _ h c.span_in.ensures.0 c.args.self.now.below;
    }

pub returns-clause-first : goal.returns-clause-first
returns-clause-first c = record {
  some = omega (arith, c.args.self.now.low, c.if-from-stop.false);
  spans = omega (arith, c.span_in.ensures.0);
  same_book = refl;
  same_elders = refl;
  same_place = refl;
  on_book = refl;
  on_elders = refl;
  on_from = refl;
  on_upto = refl;
}
