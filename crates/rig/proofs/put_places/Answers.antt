use mathlib.Core.Path.{◌≡◌, ◌∙◌}
use lib.ListN.{length}
use lib.Seq.{length-take-le}
use native.Mathlib.Omega.{arith}
use Rattle.rig.proofs.put_places.Goals as goal

pub copy_from_slice-requires : goal.copy_from_slice-requires
copy_from_slice-requires c =
    let long : 1000 ≡ length c.args.held.now = omega arith in
    length-take-le 1000 c.args.places.now (omega arith) ∙ long
