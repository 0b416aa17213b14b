-- The record that a whole book stands below, and what is due below it. Assumes nothing.
use Rattle.std.specs.Prelude.{ℕ, ◌*◌, ◌≤◌, ◌≡◌, length}
use Rattle.record.specs.Bytes.{size, most_records}
use Rattle.meaning.specs.Reading.{is_kind}
use Rattle.meaning.specs.declared.Effect.TheVariants.{Permits, Denies}
use Rattle.elders.specs.declared.Node.{Node}
use Rattle.emission.specs.Emit.{due_in, in_node}

-- it is record 0, and the book has no more than what is below it
abbrev pub IsTop : Node → Type 0
IsTop r = (r.at ≡ 0) × (length r.book.now ≡ r.stop * size)

-- so many obligations are due
abbrev pub IsDue : Node → ℕ → ℕ → Type 0
IsDue r permits denies = (permits ≤ most_records) × (permits ≡ in_node due_in r Permits (is_kind r.book.now r.at 1)) × (denies ≡ in_node due_in r Denies (is_kind r.book.now r.at 1))
