-- An answer as one number: a refusal as document 01 packs it for the C host, and otherwise 256 times the places. Assumes nothing.
use Rattle.std.specs.Prelude.{ℕ, ◌*◌, Err, Ok}
use Rattle.text.specs.Text.{Filled}
use Rattle.record.specs.Refusals.{refusal_number}

unfoldable pub packed_of : Filled → ℕ
packed_of (Ok m) = 256 * m
packed_of (Err r) = refusal_number r
