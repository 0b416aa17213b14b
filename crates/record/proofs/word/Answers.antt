use mathlib.Core.Path.{refl}
use Prim.Native.Nat.{◌+◌}
use Rattle.record.proofs.Laws.{turned_four}
use Rattle.record.proofs.word.Goals as goal

pub returns : goal.returns
returns c =
    let at = c.args.at in
    let byte = c.type_inv.s in
    rw c.from_le_bytes.ensures (turned_four c.args.s.now at refl refl refl refl (byte at).fits (byte (at + 1)).fits (byte (at + 2)).fits (byte (at + 3)).fits)
