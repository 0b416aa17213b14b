use Rattle.std.proofs.Common.{refl, ◌∙◌, rules}
use Rattle.meaning.specs.Meaning.{conjunction_of}
use Rattle.meaning.specs.Reading.{conjunction_at, bags_of}
use Rattle.record.proofs.Walks.{all_left}
use Rattle.rules.proofs.Laws.{section_all}
use Rattle.rules.proofs.section.Goals as goal

pub returns : goal.returns
returns c =
    let new = c.new.ensures in
    let begun = all_left {w = c.new.result} refl new.book new.at new.left in
    c.join.ensures (λ j below. conjunction_of (bags_of c.args.request.now) (conjunction_at c.args.book.now j below)) (λ j n t long within p. rw new.book (search rules))
    ∙ rw begun.1 (section_all _ _ _ _ c.requires.0 c.children_at-from.ensures.0)
