use native.Mathlib.Omega.{arith}
use Rattle.std.proofs.lemmas.Grind.{common_steps}
use mathlib.Core.Path.{◌≡◌, ◌∙◌}
use Prim.Native.Nat.{◌<◌, ◌+◌, ◌-◌}
use lib.ListN.{length, get_or}
use borrow.Author.Tests.{le-leb, eq-eqb}
use Rattle.text.specs.Hex.{is_digit}
use Rattle.text.specs.Text.{good_line, digits, line_length, lf}
use Rattle.text.proofs.Lists.{all_placed}
use Rattle.text.proofs.good_line.Goals as goal

pub returns-then-eq : goal.returns-then-eq
unfolding good_line
returns-then-eq c =
    let a = c.args in
    let h : a.at + digits a.w < length a.text.now = grind (arith, common_steps) in
    let e : get_or a.text.now (a.at + digits a.w) 0 ≡ lf = grind (arith, common_steps) in
    let n : a.at + digits a.w - a.at ≡ digits a.w = omega arith in
    simp (le-leb (a.at + line_length a.w) (length a.text.now) (omega arith), eq-eqb _ _ e)
    (rw n at c.all_digits.ensures ∙ all_placed is_digit a.text.now a.at (digits a.w) (omega arith))
