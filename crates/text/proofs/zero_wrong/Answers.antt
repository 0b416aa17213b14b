use Rattle.std.proofs.lemmas.Grind.{common_steps}
use native.Mathlib.Omega.{arith}
use borrow.Author.Rules.{rules}
use mathlib.Core.Path.{refl}
use Prim.Native.Nat.{◌*◌, ◌+◌, ◌<◌, ◌≤◌}
use lib.ListN.{length}
use Rattle.text.specs.Text.{start}
use Rattle.text.proofs.Zeroed.{zeroing_none, zeroing_more, zeroing_done}
use Rattle.text.proofs.zero_wrong.Goals as goal

pub loop-n-init : goal.loop-n-init
loop-n-init c = zeroing_none _

pub loop-n-preserved : goal.loop-n-preserved
unfolding start
loop-n-preserved c =
    let h : (2 * c.width-w.result + 1) * c.loop-n.n < length c.loop-n.text = grind (arith, common_steps) in
    zeroing_more c.loop-n.invariant c.width-w.ensures.0 refl h c.good_line-good.ensures c.min-end.ensures (search rules) (rw c.zero_line.ensures refl)

pub returns : goal.returns
unfolding start
returns c =
    let h : length c.loop-n.text ≤ (2 * c.width-w.result + 1) * c.loop-n.n = grind (arith, common_steps) in
    zeroing_done c.loop-n.invariant (rw (← c.width-w.ensures.0) h)
