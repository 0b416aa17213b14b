use Rattle.emission.proofs.Pieces.{loaded}
use Rattle.emission.proofs.values.literal.Goals as goal

pub returns : goal.returns
returns c =
    loaded _ c.big8.ensures c.prepend-value.ensures c.piece.ensures
