use Rattle.layout.specs.Layout.{test_word}
use borrow.Author.Rules.{rules}
use Rattle.emission.proofs.test_word.Goals as goal

pub returns : goal.returns
unfolding test_word
returns c = search rules
