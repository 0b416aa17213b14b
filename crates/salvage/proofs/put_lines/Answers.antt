use borrow.Author.Rules.{rules}
use native.Mathlib.Nat.{sub-zero}
use native.Mathlib.Omega.{arith}
use mathlib.Core.Path.{refl, ◌∙◌}
use lib.ListN.{length-set}
use Rattle.salvage.proofs.Laws.{lines_more, lines_end}
use Rattle.salvage.proofs.put_lines.Goals as goal

pub loop-i-init : goal.loop-i-init
loop-i-init c = (refl, rw sub-zero)

pub loop-i-preserved : goal.loop-i-preserved
loop-i-preserved c = (
  simp length-set (omega (arith, c.four_digits-in-loop-i.auto.out, c.four_digits.auto.out, c.loop-i.invariant.0)),
  lines_more _ _ c.loop-i.i _ c.loop-i-test.true (c.from.ensures ∙ c.big2.ensures) (c.from-in-loop-i.ensures ∙ c.big2-in-loop-i.ensures) c.four_digits.ensures
      c.four_digits-in-loop-i.ensures ∙ c.loop-i.invariant.1,
)

pub returns : goal.returns
returns c = (refl, lines_end _ _ _ c.loop-i.i _ (search rules) ∙ c.loop-i.invariant.1)
