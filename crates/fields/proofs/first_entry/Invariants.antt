use mathlib.Core.Path.{◌≡◌}
use Prim.Native.Nat.{◌-◌}
use Rattle.fields.specs.First.{first_from}
use Rattle.fields.specs.Entries.{entry_ok}
use Rattle.fields.proofs.first_entry.Given as goal

abbrev pub invariant-loop-i : goal.invariant-loop-i
invariant-loop-i l = first_from (entry_ok l.request) 0 l.n ≡ first_from (entry_ok l.request) l.i (l.n - l.i)
