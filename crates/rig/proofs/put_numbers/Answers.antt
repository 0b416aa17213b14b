use native.Mathlib.Omega.{arith}
use Rattle.rig.proofs.Laws.{put_numbers}
use Rattle.rig.proofs.put_numbers.Goals as goal

pub returns : goal.returns
returns c =
    let a = c.args in
    put_numbers a.numbers.now a.head a.frames.now (omega arith) (omega arith) a.levels.now (omega arith) c.copy_from_slice.ensures.after c.copy_from_slice-2.ensures.after
