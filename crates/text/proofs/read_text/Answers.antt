use Rattle.std.specs.Prelude.{Ok}
use Rattle.std.proofs.lemmas.Grind.{common_steps}
use mathlib.Core.Path.{◌≡◌}
use native.Mathlib.Omega.{arith}
use Rattle.text.specs.Text.{width, judge_from}
use Rattle.text.proofs.Widths.{start_first, start_least, width_within}
use Rattle.text.proofs.Lined.{judge_lined}
use Rattle.text.proofs.read_text.Goals as goal

pub overflow_mul-size : goal.overflow_mul-size
overflow_mul-size c =
    let text = c.args.text.now in
    let w = width text in
    let e : judge_from w text c.args.kind.most 0 ≡ Ok c.in_ok-n.n = grind (arith, common_steps) in
    omega (arith, (judge_lined w text _ 0 _ (start_first w text) e).long, start_least w c.in_ok-n.n (width_within text).0)

pub decode-requires : goal.decode-requires
decode-requires c =
    let text = c.args.text.now in
    let w = width text in
    let e : judge_from w text c.args.kind.most 0 ≡ Ok c.in_ok-n.n = grind (arith, common_steps) in
    let l = (judge_lined w text _ 0 _ (start_first w text) e).long in
    (rw c.width.ensures.0 (omega (arith, l)), omega arith)
