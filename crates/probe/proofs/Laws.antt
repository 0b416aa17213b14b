-- What reading and writing answer fits where it is packed. Assumes nothing.
use Rattle.std.specs.Prelude.{Err, Ok}
use Rattle.std.specs.Result.{MatchResult}
use mathlib.Core.Path.{◌≡◌}
use Prim.Native.Nat.{ℕ, ◌<◌, ◌≤◌, ◌^◌}
use mathlib.Core.List.{List}
use native.Mathlib.Omega.{arith}
use Rattle.record.specs.Bytes.{most_records}
use Rattle.record.specs.Refusals.{line_of}
use Rattle.text.specs.Text.{read_of, write_of, Filled}
use Rattle.text.specs.declared.Kind.{Kind}
use Rattle.text.proofs.Bounds.{Within, read_within, write_within}

fits : (k : Kind) → k.most ≤ most_records → (answer : Filled) → Within k answer → MatchResult answer (λ m. m < 2 ^ 56) (λ r. line_of r ≤ most_records)
fits k few (Ok m) w = omega arith
fits k few (Err r) w = omega arith

pub read_fits : {a : Filled} (k : Kind) (s : List ℕ) (room : ℕ) → a ≡ read_of k s room → k.most ≤ most_records → MatchResult a (λ m. m < 2 ^ 56) (λ r. line_of r ≤ most_records)
read_fits k s room e few = rw e (fits k few (read_of k s room) (read_within k s room))

pub write_fits : {a : Filled} (k : Kind) (s : List ℕ) (room : ℕ) → a ≡ write_of k s room → k.most ≤ most_records → MatchResult a (λ m. m < 2 ^ 56) (λ r. line_of r ≤ most_records)
write_fits k s room e few = rw e (fits k few (write_of k s room) (write_within k s room))
