use Rattle.std.specs.Prelude.{◌≡◌, ◌++◌, drop}
use Rattle.record.specs.Table.{tab}
use Rattle.text.specs.Text.{text_at}
use Rattle.text.proofs.encode.Given as goal

abbrev pub invariant-loop-j : goal.invariant-loop-j
invariant-loop-j l = l.out ≡ tab (text_at l.records) l.j ++ drop l.j l.initial.out
