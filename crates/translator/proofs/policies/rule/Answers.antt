use mathlib.Core.Path.{refl}
use borrow.Author.Rules.{rules}
use Rattle.emission.specs.Emit.{when_code}
use Rattle.emission.proofs.Turns.{rule_to, of_children, target_children}
use Rattle.emission.proofs.Emit.{as_is, fits_as, third_fits, second_fits, first_fits, three, behind, ruled, effect_at}
use Rattle.translator.proofs.policies.rule.Goals as goal

pub single-foot-requires : goal.single-foot-requires
single-foot-requires c =
    (third_fits (rule_to _ _ _ _ _ refl) _ c.requires.0, search rules, search rules)

pub when-mid-requires : goal.when-mid-requires
when-mid-requires c = (
  fits_as _ (of_children when_code c.args.node.at c.rest-children.ensures)
      (second_fits (rule_to _ _ _ _ _ refl) c.requires.0 (ruled _ _ (effect_at c.choice.ensures.0 c.effect_code-effect.ensures.0) c.single-foot.ensures)),
  search rules,
)

pub target-requires : goal.target-requires
target-requires c =
    let whole = as_is (of_children when_code c.args.node.at c.rest-children.ensures) c.when-mid.ensures in (
      fits_as _ (target_children c.args.node.at _ c.rest-children.ensures)
          (first_fits (rule_to _ _ _ _ _ (behind whole)) c.requires.0
          (ruled _ _ (effect_at c.choice.ensures.0 c.effect_code-effect.ensures.0) c.single-foot.ensures) whole),
      search rules,
    )

pub returns : goal.returns
returns c =
    let whole = as_is (of_children when_code c.args.node.at c.rest-children.ensures) c.when-mid.ensures in
    three (rule_to _ _ _ _ _ (behind whole)) (ruled _ _ (effect_at c.choice.ensures.0 c.effect_code-effect.ensures.0) c.single-foot.ensures) whole
    (as_is (target_children c.args.node.at _ c.rest-children.ensures) c.target.ensures)
