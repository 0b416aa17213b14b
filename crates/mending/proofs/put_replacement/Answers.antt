use Rattle.mending.proofs.Mending.{two_pairs}
use Rattle.mending.proofs.put_replacement.Goals as goal

pub returns : goal.returns
returns c =
    rw (c.put_pair-2.ensures, c.put_pair.ensures) (two_pairs _ _ _ _)
