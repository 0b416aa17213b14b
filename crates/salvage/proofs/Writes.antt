-- A refusal writes no file, and everything else has one: `specs/Salvage.antt`'s claim. Assumes nothing.
use Rattle.std.specs.Prelude.{Err, Ok}
use mathlib.Core.Path.{refl, ap}
use mathlib.Core.List.{List}
use Prim.Native.Nat.{ℕ, ◌*◌, ◌/◌}
use native.Mathlib.Omega.{arith}
use lib.ListN.{length}
use Rattle.record.specs.Bytes.{size, most_records}
use Rattle.record.specs.Refusals.{spoilt}
use Rattle.record.specs.Table.{tab}
use Rattle.record.proofs.Table.{length_tab}
use Rattle.text.specs.Text.{book, line_length, read_of, byte_at, text_at, Filled}
use Rattle.text.specs.Wrong.{zeroed}
use Rattle.structure.specs.Subtrees.{record_count}
use Rattle.mending.specs.Mending.{salvage_of}
use Rattle.mending.specs.Salvaged.{answer_of, records_in}
use Rattle.mending.proofs.Kept.{mended_is_kept}
use Rattle.mending.proofs.Caller.{Told, told_other, told_line, told_mended, told}
use Rattle.salvage.specs.Salvage.{said_by, said_of, read_by, said, Says, refusing, writing, WritesOrRefuses}

-- of records: a mended book has one at least, and so its text a line
of_records : (b : List ℕ) → Says (said_of b)
unfolding said_of
of_records b = go (told b (size * most_records) (2 * most_records))
  where
    go : Told b (length b / size) (answer_of b (size * most_records) (2 * most_records)) → Says (said_by b (answer_of b (size * most_records) (2 * most_records)))
    go (told_other r e n p z) = refusing r (ap (said_by b) e)
    go (told_line line e sized is) = refusing (spoilt line) (ap (said_by b) e)
    go (told_mended x xs e sized is) =
        let some = (mended_is_kept b (length b / size) sized x xs is).0.sized.some in
        let long = length_tab (text_at (records_in (salvage_of b (length b / size)))) (line_length size * record_count x) in
        rw e (writing (omega (arith, some, long)))

pub writes_or_refuses : WritesOrRefuses
unfolding said
writes_or_refuses text = go (read_of book (zeroed text) (size * most_records))
  where
    go : (a : Filled) → Says (read_by (zeroed text) a)
    go (Ok m) = of_records (tab (byte_at (zeroed text)) m)
    go (Err r) = refusing r refl
