use Rattle.std.proofs.Common.{refl, ◌∙◌, rules}
use Rattle.meaning.specs.Meaning.{match_of}
use Rattle.meaning.specs.Reading.{match_at, bags_of}
use Rattle.record.proofs.Walks.{all_left}
use Rattle.rules.proofs.Laws.{conjunction_all}
use Rattle.rules.proofs.conjunction.Goals as goal

pub returns : goal.returns
returns c =
    let new = c.new.ensures in
    let begun = all_left {w = c.new.result} refl new.book new.at new.left in
    c.join.ensures (λ j below. match_of (bags_of c.args.request.now) (match_at c.args.book.now j)) (λ j n t long within p. search rules)
    ∙ rw begun.1 (conjunction_all _ _ _ _ c.requires.0 c.children_at-from.ensures.0)
