use Rattle.std.specs.Prelude.{◌≡◌, ◌++◌, map, take, drop}
use Rattle.text.specs.Wrong.{legible}
use Rattle.text.proofs.zero_line.Given as goal

abbrev pub invariant-loop-c : goal.invariant-loop-c
invariant-loop-c l = l.c-items ≡ map (legible l.good) (take l.c-index l.initial.c-items) ++ drop l.c-index l.initial.c-items
