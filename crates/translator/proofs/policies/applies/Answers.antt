use Rattle.emission.proofs.Emit.{nothing, as_is, fits_as, applied, applies_one, applies_none}
use borrow.Author.Rules.{rules}
use Rattle.translator.proofs.policies.applies.Goals as goal

pub single-requires : goal.single-requires
single-requires c =
    (fits_as _ (applies_one c.args.up c.args.n c.over_policies.ensures c.is_only.ensures c.if-is_only.true) c.requires.0, search rules, search rules)

pub returns-then-is_only : goal.returns-then-is_only
returns-then-is_only c =
    as_is (applies_one c.args.up c.args.n c.over_policies.ensures c.is_only.ensures c.if-is_only.true) (applied _ c.single.ensures)

pub returns-else-is_only : goal.returns-else-is_only
returns-else-is_only c =
    nothing (applies_none c.args.up c.args.n c.over_policies.ensures c.is_only.ensures c.if-is_only.false)
