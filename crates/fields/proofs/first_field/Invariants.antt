use mathlib.Core.Path.{◌≡◌}
use Prim.Native.Nat.{◌≤◌, ◌-◌}
use Rattle.fields.specs.First.{first_from}
use Rattle.fields.specs.Fields.{field_ok, obligations_of}
use Rattle.fields.proofs.first_field.Given as goal

abbrev pub invariant-loop-records : goal.invariant-loop-records
invariant-loop-records l =
    (l.obligations ≤ l.records) × (first_from (field_ok l.book) 0 l.n ≡ first_from (field_ok l.book) l.records (l.n - l.records)) × (l.obligations ≡ obligations_of l.book l.records)
