use borrow.Author.Rules.{rules}
use Rattle.emission.proofs.Emit.{as_is, fits_as, same_as, no_more, three, third_fits, second_fits, first_fits, closes, condition_low}
use Rattle.emission.proofs.Pieces.{tested, before_stop, weighing_few, weighing_two}
use Rattle.emission.proofs.conditions.weighing.Goals as goal

pub comparison-requires : goal.comparison-requires
comparison-requires c =
    (fits_as _ (condition_low _ _ _ _ c.requires.0 (no_more 20 c.choice-choice.ensures.0 c.if-choice-le-WEIGHS.true)) c.requires.1, search rules)

pub returns-then-choice-le-WEIGHS : goal.returns-then-choice-le-WEIGHS
returns-then-choice-le-WEIGHS c =
    as_is (condition_low _ _ _ _ c.requires.0 (no_more 20 c.choice-choice.ensures.0 c.if-choice-le-WEIGHS.true)) c.comparison.ensures

pub comparison-requires-then-second-node : goal.comparison-requires-then-second-node
comparison-requires-then-second-node c =
    (fits_as _ (weighing_few _ _ _ _ c.args.node.some c.choice-choice.ensures.0 c.if-choice-le-WEIGHS.false (same_as c.second_in-second.ensures.0 c.if-second-node.true)) c.requires.1, search rules)

pub returns-then-second-node : goal.returns-then-second-node
returns-then-second-node c =
    as_is (weighing_few _ _ _ _ c.args.node.some c.choice-choice.ensures.0 c.if-choice-le-WEIGHS.false
    (same_as c.second_in-second.ensures.0 c.if-second-node.true)) c.comparison-then-second-node.ensures

pub single-foot-requires : goal.single-foot-requires
single-foot-requires c = (
  third_fits (weighing_two _ _ _ _ c.args.node.some c.choice-choice.ensures.0 c.if-choice-le-WEIGHS.false c.second_in-second.ensures.0
      (before_stop c.second_in-second.ensures.2 c.if-second-node.false) c.type_at-kind.ensures.0) _ c.requires.1,
  search rules,
  search rules,
)

pub piece-test-requires : goal.piece-test-requires
piece-test-requires c = (
  second_fits (weighing_two _ _ _ _ c.args.node.some c.choice-choice.ensures.0 c.if-choice-le-WEIGHS.false c.second_in-second.ensures.0
      (before_stop c.second_in-second.ensures.2 c.if-second-node.false) c.type_at-kind.ensures.0) c.requires.1 (closes _ c.single-foot.ensures),
  search rules,
  search rules,
)

pub operands-requires : goal.operands-requires
operands-requires c =
    let short = before_stop c.second_in-second.ensures.2 c.if-second-node.false in (
      c.args.node.some,
      c.args.node.bytes,
      c.second_in-second.ensures.0,
      short,
      first_fits (weighing_two _ _ _ _ c.args.node.some c.choice-choice.ensures.0 c.if-choice-le-WEIGHS.false c.second_in-second.ensures.0 short
          c.type_at-kind.ensures.0) c.requires.1 (closes _ c.single-foot.ensures) (tested _ c.function_of-f.ensures c.code.ensures.0 c.piece-test.ensures),
    )

pub returns : goal.returns
returns c =
    three (weighing_two _ _ _ _ c.args.node.some c.choice-choice.ensures.0 c.if-choice-le-WEIGHS.false c.second_in-second.ensures.0
    (before_stop c.second_in-second.ensures.2 c.if-second-node.false) c.type_at-kind.ensures.0) (closes _ c.single-foot.ensures)
    (tested _ c.function_of-f.ensures c.code.ensures.0 c.piece-test.ensures) c.operands.ensures
