use Rattle.std.proofs.lemmas.Option.{IfSome_then}
use Rattle.grammar.proofs.Fits.{fits}
use Rattle.grammar.proofs.Values.{literal_value, attribute_value, operands_are, is_operator_lem}
use mathlib.Core.Path.{sym, ◌∙◌}
use native.Mathlib.Omega.{arith}
use Rattle.grammar.proofs.+operands_value.Goals as goal
use Rattle.grammar.proofs.+operands_value.Goals.{value-then-is_fit-via-then-is_fit, value-then-is_fit-via-else-is_fit+then-is_fit-2}

pub operands-returns : goal.operands-returns
operands-returns t c =
    let ends = c.span.ensures.0 in
    operands_are _ (omega (arith, ends)) (omega arith) c.in_ok-second.ensures c.if-second-next.false c.in_ok-value.ensures (omega arith)

pub value-returns-then-is_fit : goal.value-returns-then-is_fit
value-returns-then-is_fit t c =
    let type = sym c.value_type.ensures ∙ c.if-value_type-sort.false in
    elim c.then-is_fit.branch [
      | value-then-is_fit-via-then-is_fit w ↦ literal_value _ (fits (sym w.if-is_fit.true ∙ c.is_fit.ensures)) (omega arith) (omega arith) type
      | value-then-is_fit-via-else-is_fit+then-is_fit-2 w ↦
          attribute_value _ (fits (sym w.if-is_fit-2.true ∙ w.is_fit-else-is_fit.ensures)) (omega arith) (omega arith) type
    ]

pub value-returns : goal.value-returns
value-returns t c =
    IfSome_then _ c.operands.ensures
    (λ to x. is_operator_lem _ (omega arith) x (fits c.if-not-is_fit.ensures) (sym c.value_type.ensures ∙ c.if-value_type-sort.false))
