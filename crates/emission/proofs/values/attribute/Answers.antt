use Rattle.emission.proofs.Pieces.{asked}
use Rattle.emission.proofs.values.attribute.Goals as goal

pub returns : goal.returns
returns c = asked c.key_at-key.ensures.0 c.piece.ensures
