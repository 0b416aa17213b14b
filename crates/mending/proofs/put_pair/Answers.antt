use Prim.Native.Nat.{◌/◌, ◌%◌}
use mathlib.Core.List.{◌∷◌, []}
use mathlib.Core.Path.{◌≡◌}
use lib.Seq.{sets-eq}
use native.Mathlib.Omega.{arith}
use Rattle.std.proofs.lemmas.Grind.{common_steps}
use Rattle.record.specs.Stored.{stored}
use Rattle.mending.proofs.put_pair.Goals as goal

pub returns : goal.returns
unfolding stored
returns c =
    let e : c.args.n / 256 % 256 ≡ c.args.n / 256 = omega (arith, c.requires.1) in
    let pair = rw e at c.to_be_bytes.ensures in
    rw (sets-eq (c.args.n / 256 ∷ c.args.n % 256 ∷ []) c.args.out.now c.args.at (omega arith)) (grind (arith, common_steps, pair))
