use Rattle.weigh.proofs.Laws.{literal_is, attribute_is, without_operands, with_operands, second_behind}
use native.Mathlib.Omega.{arith}
use borrow.Author.Rules.{rules}
use Rattle.weigh.proofs.+worth_at.Goals as goal

pub returns-then-choice-eq-ATTRIBUTE : goal.returns-then-choice-eq-ATTRIBUTE
returns-then-choice-eq-ATTRIBUTE t c = attribute_is _ _ _ _ c.byte-choice.ensures.0 c.if-choice-eq-ATTRIBUTE.true c.key_at.ensures.0 c.only.ensures

pub returns-then-choice-eq-LITERAL : goal.returns-then-choice-eq-LITERAL
returns-then-choice-eq-LITERAL t c = literal_is _ _ _ _ c.byte-choice.ensures.0 c.if-choice-eq-LITERAL.true c.big8-literal.ensures (search rules)

pub returns-then-second-stop : goal.returns-then-second-stop
returns-then-second-stop t c = without_operands _ _ _ _ c.requires.0 c.byte-choice.ensures.0 c.if-choice-eq-LITERAL.false c.if-choice-eq-ATTRIBUTE.false c.second_in-second.ensures.0 c.big8-literal.ensures (search rules) c.if-second-stop.true

pub worth_at-a-requires : goal.worth_at-a-requires
worth_at-a-requires t c =
    let e = c.second_in-second.ensures in
    let p = second_behind _ _ _ e.0 (omega (arith, c.if-second-stop.false, e.2)) in
    (omega arith, (p, omega arith))

pub returns : goal.returns
returns t c =
    with_operands _ _ _ _ c.requires.0 c.byte-choice.ensures.0 c.if-choice-eq-LITERAL.false c.if-choice-eq-ATTRIBUTE.false c.second_in-second.ensures.0 c.if-second-stop.false c.second_in-second.ensures.2 c.span_in.ensures.0 c.worth_at-a.ensures c.worth_at-b.ensures c.operator_of.ensures c.operated.ensures
