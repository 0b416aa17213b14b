use mathlib.Core.Path.{refl}
use native.Mathlib.Omega.{arith}
use Rattle.emission.proofs.Turns.{due_by, from_first}
use Rattle.translator.proofs.write.Goals as goal

pub count-many-requires : goal.count-many-requires
count-many-requires c =
    ((refl, c.requires.2), (omega (arith, c.due-permits.ensures.1, c.requires.1), due_by _ _ _ c.byte-set.ensures.0 c.due-permits.ensures.0, due_by _ _ _ c.byte-set.ensures.0 c.due-denies.ensures.0))

pub programme-requires : goal.programme-requires
programme-requires c =
    let e = c.count-many.ensures in (
      (refl, c.requires.2),
      omega (arith, e),
      omega (arith, e, c.requires.1),
      (
        omega (arith, c.due-permits.ensures.1, c.requires.1),
        due_by _ _ _ c.byte-set.ensures.0 c.due-permits.ensures.0,
        due_by _ _ _ c.byte-set.ensures.0 c.due-denies.ensures.0,
      ),
    )

pub returns : goal.returns
returns c =
    (c.count-many.ensures.0, c.count-many.ensures.1, from_first c.count-many.ensures.0 c.programme.ensures)
