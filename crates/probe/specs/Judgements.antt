-- A judgement of a book as one number: 256 times the records and 16,777,216 times the obligation records; a refusal as `packed_of` has it. Assumes nothing.
use Rattle.std.specs.Prelude.{ℕ, ◌+◌, ◌*◌, Err, Ok}
use Rattle.judge.specs.Judge.{Judged}
use Rattle.probe.specs.Packed.{packed_of}

unfoldable pub book_packed : Judged → ℕ
book_packed (Ok a) = 256 * a.records + 16777216 * a.obligations
book_packed (Err r) = packed_of (Err r)
