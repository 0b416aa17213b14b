use native.Mathlib.Omega.{arith}
use mathlib.Core.Path.{◌≡◌, refl}
use lib.ListN.{get_or, length-set}
use Prim.Native.Nat.{◌/◌, ◌%◌}
use Rattle.host.proofs.Laws.{pairs_none, pairs_more}
use Rattle.host.proofs.put_pairs.Goals as goal

pub loop-k-init : goal.loop-k-init
loop-k-init c = (refl, pairs_none c.args.places.now c.args.out.now)

pub bounds-out-k-in-loop-k : goal.bounds-out-k-in-loop-k
bounds-out-k-in-loop-k c = simp length-set (omega (arith, c.loop-k.invariant.0, c.requires.1))

pub loop-k-preserved : goal.loop-k-preserved
loop-k-preserved c =
    let high : get_or c.to_be_bytes.result 0 0 ≡ get_or c.args.places.now c.loop-k.k 0 / 256 = rw c.to_be_bytes.ensures (omega arith) in
    let low : get_or c.to_be_bytes.result 1 0 ≡ get_or c.args.places.now c.loop-k.k 0 % 256 = rw c.to_be_bytes.ensures (omega arith) in
    rw (high, low) (simp length-set c.loop-k.invariant.0, pairs_more c.args.places.now c.args.out.now c.loop-k.out c.loop-k.k refl (omega arith) (omega (arith, c.requires.1)) c.loop-k.invariant.1)

pub shape_of-out : goal.shape_of-out
shape_of-out c = c.loop-k.invariant.0

pub returns : goal.returns
returns c = let e : c.loop-k.k ≡ c.args.n = omega arith in rw (← e) c.loop-k.invariant.1
