use Rattle.stacks.proofs.Carried.{at_with, made_is, same_room}
use lib.ListN.{length}
use native.Mathlib.Omega.{arith}
use Rattle.stacks.proofs.carry_out.Goals as goal

pub overflow_add-result-2 : goal.overflow_add-result-2
overflow_add-result-2 c = omega (arith, at_with _ _ _ c.requires.1)

pub overflow_add-result-3 : goal.overflow_add-result-3
overflow_add-result-3 c = omega (arith, at_with _ _ _ c.requires.1)

pub returns : goal.returns
returns c =
    let places = c.place-s.ensures in
    let levels = c.alter-nest.ensures in
    let frames = c.alter-depth.ensures in
    let a = c.args in
    (made_is a.h a.further a.m (length a.frames.now) (length a.levels.now) _ _ _ (omega arith) (omega arith) frames.0 levels.0 places.0, same_room 17 (length a.frames.now) a.h.depth a.m.frames a.frames.now _ (omega arith) frames.1, same_room 15 (length a.levels.now) a.h.nest a.m.levels a.levels.now _ (omega arith) levels.1, places.1)
