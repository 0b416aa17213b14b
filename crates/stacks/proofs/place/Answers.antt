use Rattle.stacks.proofs.Carried.{copied_down, enough_above}
use native.Mathlib.Omega.{arith}
use mathlib.Core.Path.{◌∙◌, refl}
use Rattle.stacks.proofs.place.Goals as goal

pub returns-in-Down : goal.returns-in-Down
returns-in-Down c =
    let a = c.args in
    rw c.in-Down.is (refl, c.copy_within.ensures.after ∙ copied_down c.in-Down.n a.s.cut a.s.permits a.places.now (omega (arith, enough_above _ _ c.requires.3 c.in-Down.is)))
