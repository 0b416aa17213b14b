use mathlib.Core.Path.{refl, sym, ◌∙◌}
use mathlib.Core.Logic.{⊎_elim}
use borrow.Author.Tests.{eqb-true}
use native.Mathlib.Omega.{arith}
use borrow.Author.Rules.{rules}
use Rattle.record.specs.Below.{all_below}
use Rattle.record.proofs.Choose.{in_among, below_among, above_among}
use Rattle.record.proofs.Below.{all_more}
use Rattle.ticks.proofs.Decimal.{decimal_none, decimal_more, budget_empty, budget_other, budget_large, budget_done}
use Rattle.ticks.specs.Budget.{is_decimal}
use Rattle.ticks.proofs.budget.budget_in.Goals as goal

pub returns-then-is_empty : goal.returns-then-is_empty
returns-then-is_empty c = budget_empty _ (omega (arith, eqb-true _ _ (sym c.if-is_empty.ensures)))

pub loop-c-init : goal.loop-c-init
unfolding all_below
loop-c-init c = (search rules, refl, decimal_none _, search rules)

pub returns-then-not-is_ascii_digit : goal.returns-then-not-is_ascii_digit
returns-then-not-is_ascii_digit c =
    budget_other _ c.loop-c.c-index c.loop-c-test.true (⊎_elim (λ h. below_among 48 57 _ h) (λ h. above_among 48 57 _ h) c.if-not-is_ascii_digit.ensures.cases)

pub returns-in_err-checked_mul : goal.returns-in_err-checked_mul
returns-in_err-checked_mul c =
    let args = c.args in
    c.from_residual.ensures
    ∙ budget_large _ c.loop-c.c-index c.loop-c-test.true (omega (arith, decimal_more args.word.now c.loop-c.c-index, c.loop-c.invariant.2, c.in_err-checked_mul.ensures))

pub returns-in_err-n : goal.returns-in_err-n
returns-in_err-n c =
    let args = c.args in
    c.from_residual-in_err-n.ensures
    ∙ budget_large _ c.loop-c.c-index c.loop-c-test.true
    (omega (arith, decimal_more args.word.now c.loop-c.c-index, c.loop-c.invariant.2, c.in_ok-checked_mul.ensures, c.in_err-n.ensures, c.from.ensures))

pub loop-c-preserved : goal.loop-c-preserved
loop-c-preserved c =
    let args = c.args in
    let digit = c.if-not-is_ascii_digit.ensures.cases in (
      search rules,
      all_more (is_decimal args.word.now) c.loop-c.c-index c.loop-c.invariant.1 (in_among 48 57 _ digit.0 digit.1),
      omega (arith, decimal_more args.word.now c.loop-c.c-index, c.loop-c.invariant.2, c.in_ok-checked_mul.ensures, c.in_ok-n.ensures, c.from.ensures),
      search rules,
    )

pub returns : goal.returns
returns c = budget_done _ c.loop-c.c-index c.loop-c.invariant.0 (search rules) c.loop-c.invariant.1 c.loop-c.invariant.2 c.loop-c.invariant.3
