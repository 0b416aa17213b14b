use Rattle.structure.specs.Subtrees.{slice_of}
use Rattle.mending.proofs.put_denial.Goals as goal

pub returns : goal.returns
unfolding slice_of
returns c = c.copy.ensures
