-- A file of any length is judged by the bytes that are read: `specs/Salvage.antt`'s claim. Assumes nothing.
use Rattle.std.specs.Prelude.{Err, Ok}
use mathlib.Core.Path.{◌≡◌, refl}
use mathlib.Core.List.{List}
use Prim.Native.Nat.{ℕ, ◌+◌, ◌*◌}
use native.Mathlib.Omega.{arith}
use lib.ListN.{length, take}
use lib.Seq.{take_all}
use Rattle.record.specs.Bytes.{size, most_records}
use Rattle.record.proofs.Table.{length_tab}
use Rattle.text.specs.Text.{book, line_length, read_of, Filled}
use Rattle.text.specs.Wrong.{zeroed_at, zeroed}
use Rattle.text.proofs.FirstBytes.{read_whole}
use Rattle.text.proofs.Wrong.{zeroed_first_bytes}
use Rattle.salvage.specs.Salvage.{read_by, said, AnyLength}

abbrev bytes : ℕ
bytes = line_length size * most_records + 1

-- a text that is read is no longer than that, and of one that is refused nothing else is said
cut : (text : List ℕ) (a : Filled) → read_of book (zeroed text) (size * most_records) ≡ a → read_by (zeroed (take bytes text)) a ≡ read_by (zeroed text) a
unfolding zeroed
cut text (Ok m) e =
    let long = read_whole book (zeroed text) (size * most_records) m bytes (omega arith) e in
    rw (take_all bytes text (omega (arith, long, length_tab (zeroed_at text) (length text)))) refl
cut text (Err r) e = refl

pub any_length : AnyLength
unfolding said
any_length text = rw (zeroed_first_bytes text (size * most_records) bytes (omega arith)) (cut text (read_of book (zeroed text) (size * most_records)) refl)
