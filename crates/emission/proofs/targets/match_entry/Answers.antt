use Rattle.emission.proofs.Emit.{matched}
use Rattle.emission.proofs.targets.match_entry.Goals as goal

pub returns : goal.returns
returns c =
    matched _ _ _ _ _ _ c.match_at-t.ensures c.match_word.ensures c.prepend-third.ensures c.prepend-literal.ensures c.prepend.ensures
