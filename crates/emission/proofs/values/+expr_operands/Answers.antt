use native.Mathlib.Omega.{arith}
use borrow.Author.Rules.{rules}
use Rattle.weigh.proofs.Laws.{second_behind}
use Rattle.emission.proofs.Emit.{as_is, fits_as, same_as, follows, behind_fits, before_fits}
use Rattle.emission.proofs.Pieces.{worked, before_stop, operands_parts, expr_attribute, expr_literal, expr_spare, expr_parts}
use Rattle.emission.proofs.values.+expr_operands.Goals as goal

pub expr-attribute-requires : goal.expr-attribute-requires
expr-attribute-requires t c =
    (search rules, fits_as _ (expr_attribute _ _ c.byte-choice.ensures.0 _ c.if-choice-eq-ATTRIBUTE.true) c.requires.2)

pub expr-returns-then-choice-eq-ATTRIBUTE : goal.expr-returns-then-choice-eq-ATTRIBUTE
expr-returns-then-choice-eq-ATTRIBUTE t c =
    as_is (expr_attribute _ _ c.byte-choice.ensures.0 _ c.if-choice-eq-ATTRIBUTE.true) c.attribute.ensures

pub expr-literal-requires : goal.expr-literal-requires
expr-literal-requires t c =
    (search rules, c.type_at-kind.ensures.1, fits_as _ (expr_literal _ _ c.byte-choice.ensures.0 _ c.type_at-kind.ensures.0 _ c.if-choice-eq-LITERAL.true) c.requires.2)

pub expr-returns-then-choice-eq-LITERAL : goal.expr-returns-then-choice-eq-LITERAL
expr-returns-then-choice-eq-LITERAL t c =
    as_is (expr_literal _ _ c.byte-choice.ensures.0 _ c.type_at-kind.ensures.0 _ c.if-choice-eq-LITERAL.true) c.literal.ensures

pub expr-literal-requires-then-second-stop : goal.expr-literal-requires-then-second-stop
expr-literal-requires-then-second-stop t c = (
  search rules,
  c.type_at-kind.ensures.1,
  fits_as _ (expr_spare _ _ c.byte-choice.ensures.0 _ c.type_at-kind.ensures.0 _ c.requires.0 c.if-choice-eq-LITERAL.false c.if-choice-eq-ATTRIBUTE.false
      (same_as c.second_in-second.ensures.0 c.if-second-stop.true)) c.requires.2,
)

pub expr-returns-then-second-stop : goal.expr-returns-then-second-stop
expr-returns-then-second-stop t c =
    as_is (expr_spare _ _ c.byte-choice.ensures.0 _ c.type_at-kind.ensures.0 _ c.requires.0 c.if-choice-eq-LITERAL.false c.if-choice-eq-ATTRIBUTE.false
    (same_as c.second_in-second.ensures.0 c.if-second-stop.true)) c.literal-then-second-stop.ensures

pub expr-piece-foot-requires : goal.expr-piece-foot-requires
expr-piece-foot-requires t c = (
  behind_fits _ (expr_parts _ _ c.byte-choice.ensures.0 _ c.requires.0 c.if-choice-eq-LITERAL.false c.if-choice-eq-ATTRIBUTE.false
      c.second_in-second.ensures.0 (before_stop c.second_in-second.ensures.2 c.if-second-stop.false)) c.requires.2,
  search rules,
  search rules,
)

pub expr-operands-requires : goal.expr-operands-requires
expr-operands-requires t c =
    let short = before_stop c.second_in-second.ensures.2 c.if-second-stop.false in (
      search rules,
      (
        c.requires.0,
        c.requires.1,
        c.second_in-second.ensures.0,
        short,
        before_fits (expr_parts _ _ c.byte-choice.ensures.0 _ c.requires.0 c.if-choice-eq-LITERAL.false c.if-choice-eq-ATTRIBUTE.false
            c.second_in-second.ensures.0 short) c.requires.2 (worked c.operator_of-op.ensures c.code.ensures.0 c.piece-foot.ensures),
      ),
    )

pub expr-returns : goal.expr-returns
expr-returns t c =
    follows (expr_parts _ _ c.byte-choice.ensures.0 _ c.requires.0 c.if-choice-eq-LITERAL.false c.if-choice-eq-ATTRIBUTE.false c.second_in-second.ensures.0
    (before_stop c.second_in-second.ensures.2 c.if-second-stop.false)) (worked c.operator_of-op.ensures c.code.ensures.0 c.piece-foot.ensures)
    c.operands.ensures

pub operands-expr-mid-requires : goal.operands-expr-mid-requires
operands-expr-mid-requires t c =
    let n = second_behind _ _ _ c.requires.2 c.requires.3 in (
      omega (arith, n, c.requires.0, c.requires.3, c.span_in.ensures.1),
      (
        omega (arith, c.span_in.ensures.1),
        omega (arith, c.requires.1, c.requires.3, c.span_in.ensures.1),
        behind_fits _ (operands_parts _ _ _ c.requires.0 c.requires.2 c.requires.3 c.span_in.ensures.0) c.requires.4,
      ),
    )

pub operands-expr-requires : goal.operands-expr-requires
operands-expr-requires t c =
    let n = second_behind _ _ _ c.requires.2 c.requires.3 in (
      omega (arith, n, c.requires.0, c.requires.3),
      (
        n,
        omega (arith, c.requires.1, c.requires.3),
        before_fits (operands_parts _ _ _ c.requires.0 c.requires.2 c.requires.3 c.span_in.ensures.0) c.requires.4
            c.expr-mid.ensures,
      ),
    )

pub operands-returns : goal.operands-returns
operands-returns t c =
    follows (operands_parts _ _ _ c.requires.0 c.requires.2 c.requires.3 c.span_in.ensures.0) c.expr-mid.ensures c.expr.ensures
