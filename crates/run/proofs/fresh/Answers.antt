use mathlib.Core.Path.{refl}
use Rattle.layout.specs.Layout.{found_code, pack_of}
use Rattle.programme.specs.Step.{fresh_of}
use Rattle.run.proofs.fresh.Goals as goal

pub returns : goal.returns
unfolding fresh_of pack_of found_code
returns c = refl
