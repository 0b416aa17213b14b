use lib.ListN.{length, length-set}
use mathlib.Core.Path.{◌≡◌, sym, ◌∙◌}
use native.Mathlib.Omega.{arith}
use borrow.Author.Rules.{rules}
use Rattle.line.specs.Line.{told_line}
use Rattle.line.proofs.Laws.{length_told, told_put, put_short, places_short, places_fits}
use Rattle.line.proofs.told_line.Goals as goal

pub returns-then-out-lt11 : goal.returns-then-out-lt11
returns-then-out-lt11 c =
    let a = c.args in
    let is : length (told_line a.number a.part a.line) ≡ 11 = length_told a.number a.part a.line in
    (places_short _ _ (omega (arith, is)), put_short _ _ (omega (arith, is)))

pub shape_of-out : goal.shape_of-out
shape_of-out c =
    simp length-set (omega (arith, c.four_digits.auto.out, c.two_digits.auto.out, c.two_digits-2.auto.out, c.two_digits-3.auto.out))

pub returns : goal.returns
returns c =
    let a = c.args in
    let is = length_told a.number a.part a.line in (
      sym is ∙ places_fits _ _ (omega (arith, is)),
      told_put _ _ _ _ (search rules) c.two_digits.ensures (rw c.from.ensures at c.two_digits-2.ensures)
          (rw c.from-2.ensures at c.two_digits-3.ensures) c.four_digits.ensures,
    )
