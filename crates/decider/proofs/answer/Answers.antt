use native.Mathlib.Omega.{arith}
use Rattle.decider.proofs.Whole.{room_all, answered}
use Rattle.decider.proofs.answer.Goals as goal

pub child-r-requires : goal.child-r-requires
child-r-requires c =
    (c.requires.0, omega (arith, c.requires.1), omega (arith, c.requires.2, room_all c.args.book.now c.args.records c.requires.0), c.requires.3, c.target-t.ensures)

pub clear-requires : goal.clear-requires
clear-requires c =
    omega (arith, c.child-r.ensures.puts.within, c.child-r.auto.out, c.requires.2, room_all c.args.book.now c.args.records c.requires.0)

pub returns : goal.returns
returns c =
    answered _ _ _ c.requires.1 c.child-r.ensures c.child-r.auto.out c.clear.ensures
