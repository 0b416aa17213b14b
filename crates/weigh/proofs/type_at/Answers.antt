use Rattle.weigh.proofs.Laws.{literal_type_lem, attribute_type, operator_type_lem, operator_below}
use native.Mathlib.Omega.{arith}
use Rattle.weigh.proofs.type_at.Goals as goal

pub returns-in-1 : goal.returns-in-1
returns-in-1 c = (λ es. literal_type_lem _ _ c.byte.ensures.0 es c.in-1.is c.byte-in-1.ensures.0, c.byte-in-1.ensures.1)

pub returns-in-2 : goal.returns-in-2
returns-in-2 c = (λ es. attribute_type _ _ c.byte.ensures.0 es c.in-2.is c.key_at.ensures.0, omega arith)

pub returns-in_default : goal.returns-in_default
returns-in_default c =
    (λ es. operator_type_lem _ _ c.byte.ensures.0 es (λ e. omega (arith, e)) (λ e. omega (arith, e)) c.operator_of.ensures c.kind.ensures, operator_below c.operator_of.result c.kind.ensures)
