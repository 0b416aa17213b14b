-- The numbers that the outline is made by. Assumes nothing.
use Rattle.std.specs.Prelude.{ℕ, ◌-◌, List, eqb, ltb}
use Rattle.record.specs.Choose.{if}
use Rattle.record.specs.Bytes.{most_records}
use Rattle.record.specs.Refusals.{number_of, line_of}
use Rattle.record.specs.declared.Refusal.{Refusal}
use Rattle.fields.specs.Fields.{kind_at, field_ok}
use Rattle.fields.specs.declared.Kind.{Kind}
use Rattle.fields.specs.declared.Kind.TheVariants.{Nothing}

-- the blanks before a line number that is to have four places
unfoldable pub blanks_of : ℕ → ℕ
blanks_of n = if (ltb n 10) 3 (if (ltb n 100) 2 (if (ltb n 1000) 1 0))

-- what record i is told as: its kind, and nothing, so its bytes, where it breaks a field rule
unfoldable pub told_of : List ℕ → ℕ → Kind
told_of b i = if (field_ok b i) (kind_at b i) Nothing

-- the lines before the one at which a text is refused; all that a book may have where there are too many
unfoldable pub lines_before : Refusal → ℕ
lines_before r = if (eqb (number_of r) 2) most_records (line_of r - 1)
