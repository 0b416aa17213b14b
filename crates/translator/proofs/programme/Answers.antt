use borrow.Author.Rules.{rules}
use Rattle.emission.proofs.Turns.{programme_to}
use Rattle.emission.proofs.Emit.{third_fits, second_fits, first_fits, three, code_of, begun}
use Rattle.translator.proofs.programme.Goals as goal

pub ends-foot-requires : goal.ends-foot-requires
ends-foot-requires c =
    third_fits (programme_to _ _ c.requires.0 c.requires.3.1 c.requires.3.2) _ c.requires.1

pub within-head-requires : goal.within-head-requires
within-head-requires c =
    (second_fits (programme_to _ _ c.requires.0 c.requires.3.1 c.requires.3.2) c.requires.1 c.ends-foot.ensures, search rules)

pub single-requires : goal.single-requires
single-requires c =
    (first_fits (programme_to _ _ c.requires.0 c.requires.3.1 c.requires.3.2) c.requires.1 c.ends-foot.ensures c.within-head.ensures, search rules, search rules)

pub returns : goal.returns
returns c =
    three (programme_to _ _ c.requires.0 c.requires.3.1 c.requires.3.2) c.ends-foot.ensures c.within-head.ensures
    (begun _ _ (code_of c.code-algorithm.ensures.0 c.algorithm_at.ensures) c.single.ensures)
