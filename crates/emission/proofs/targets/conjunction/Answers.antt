use borrow.Author.Rules.{rules}
use Rattle.emission.proofs.Turns.{conjunction_one, conjunction_more}
use Rattle.emission.proofs.Emit.{as_is, fits_as}
use Rattle.emission.proofs.targets.conjunction.Goals as goal

pub match_entry-requires : goal.match_entry-requires
match_entry-requires c = (fits_as _ (conjunction_one _ _ _ _ _ _ _ c.if-node.true) c.requires.0, search rules, search rules, search rules)

pub returns-then-node : goal.returns-then-node
returns-then-node c = as_is (conjunction_one _ _ _ _ _ _ _ c.if-node.true) c.match_entry.ensures

pub matches-requires : goal.matches-requires
matches-requires c =
    (fits_as _ (conjunction_more _ _ _ _ _ _ _ c.args.node.some c.if-node.false) c.requires.0, search rules, search rules)

pub returns : goal.returns
returns c =
    as_is (conjunction_more _ _ _ _ _ _ _ c.args.node.some c.if-node.false) c.matches.ensures
