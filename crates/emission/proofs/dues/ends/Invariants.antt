use Rattle.std.specs.Prelude.{replicate}
use Rattle.layout.specs.Entry.{finish}
use Rattle.emission.specs.Emit.{Emitted}
use Rattle.emission.proofs.dues.ends.Given as goal

abbrev pub invariant-loop : goal.invariant-loop
invariant-loop l = Emitted (replicate l.counter finish) l.fn.end l.initial.out l.out l.start
