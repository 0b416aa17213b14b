use Rattle.emission.proofs.Emit.{compared}
use Rattle.emission.proofs.conditions.comparison.Goals as goal

pub returns : goal.returns
returns c =
    compared _ c.comparison_at-t.ensures c.compare_word.ensures c.prepend-issuer.ensures c.prepend-literal.ensures c.prepend.ensures
