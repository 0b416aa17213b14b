use Rattle.std.specs.Prelude.{◌≡◌, ◌++◌, drop}
use Rattle.record.specs.Table.{tab}
use Rattle.text.specs.Text.{byte_at}
use Rattle.text.proofs.Lines.decode.Given as goal

abbrev pub invariant-loop-i : goal.invariant-loop-i
invariant-loop-i l = l.out ≡ tab (byte_at l.self.text.now) l.i ++ drop l.i l.initial.out
