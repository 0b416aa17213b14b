use Rattle.outline.specs.Outline.{Says, name_of}
use lib.ListN.{take}
use Rattle.outline.proofs.name.Given as goal

abbrev pub invariant-loop-x : goal.invariant-loop-x
invariant-loop-x l = Says l.initial.out l.at (name_of (take l.x-index l.w)) l.out l.n
