use borrow.Author.Rules.{rules}
use native.Mathlib.Omega.{arith}
use mathlib.Core.Path.{◌≡◌, ◌∙◌}
use Prim.Native.Nat.{◌*◌, ◌+◌}
use lib.ListN.{length}
use Rattle.line.proofs.Laws.{fours_more, fours_end}
use Rattle.line.proofs.put_obligations.Goals as goal

pub loop-i-preserved : goal.loop-i-preserved
loop-i-preserved c =
    let i = c.loop-i.i in
    let e : 6 + 4 * (i + 1) ≡ 6 + 4 * i + 4 = omega arith in
    (search rules, rw (e, c.four_digits.ensures, c.from.ensures) (fours_more _ _ (6 + 4 * i) i c.loop-i-test.true ∙ c.loop-i.invariant.1))

pub returns : goal.returns
returns c =
    let e : c.loop-i.i ≡ length c.args.obligations.now = search rules in
    rw (← e) (fours_end _ c.args.obligations.now _ c.loop-i.i (omega (arith, e)) ∙ c.loop-i.invariant.1)
