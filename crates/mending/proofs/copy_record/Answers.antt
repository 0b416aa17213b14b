use Prim.Native.Nat.{◌*◌}
use lib.ListN.{take, drop, length-take, length-drop}
use lib.Seq.{sets-eq}
use native.Mathlib.Omega.{arith}
use Rattle.std.proofs.lemmas.Grind.{common_steps}
use Rattle.record.specs.Bytes.{size}
use Rattle.record.specs.Stored.{stored}
use Rattle.structure.specs.Subtrees.{slice_of}
use Rattle.mending.proofs.copy_record.Goals as goal

pub returns : goal.returns
unfolding stored slice_of
returns c =
    let b = c.args.book.now in
    let l = length-take (1 * size) (drop (c.args.i * size) b) in
    let m = length-drop (c.args.i * size) b in
    rw (sets-eq (take (1 * size) (drop (c.args.i * size) b)) c.args.out.now (c.args.k * size) (omega arith)) (grind (arith, common_steps))
