-- What the C caller of `bachumoi_salvage` gets: one number. Assumes nothing.
use Rattle.std.specs.Prelude.{ℕ, ◌+◌, ◌*◌, Err, Ok}
use Rattle.mending.specs.Salvaged.{Salvaged}
use Rattle.record.specs.Refusals.{refusal_number}

-- 256 times the records and 16,777,216 times the replacements, or a refusal as one number
abbrev pub salvaged_number : Salvaged → ℕ
salvaged_number (Ok m) = 256 * m.records + 16777216 * m.replacements
salvaged_number (Err r) = refusal_number r
