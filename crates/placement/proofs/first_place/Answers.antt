use Rattle.placement.proofs.Laws.{top_broken, top_parts, top_walk, top_rest}
use mathlib.Core.Path.{refl}
use native.Mathlib.Omega.{arith}
use Rattle.placement.proofs.first_place.Goals as goal

pub returns-then-not-top_ok : goal.returns-then-not-top_ok
returns-then-not-top_ok c = top_broken _ c.requires.0 c.if-not-top_ok.ensures

pub walk-requires : goal.walk-requires
walk-requires c =
    let z = top_parts _ c.requires.1 c.if-not-top_ok.ensures in
    (omega arith, omega arith, omega arith, top_walk _ c.requires.0 c.requires.1 c.kind_at.ensures c.number.ensures refl (rw (c.number.ensures, c.kind_at.ensures) z.0) refl z.1 c.requires.2 c.byte-c.ensures.0)

pub returns : goal.returns
returns c = top_rest _ c.requires.0 c.if-not-top_ok.ensures _ c.walk.ensures
