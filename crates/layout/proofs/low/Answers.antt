use native.Mathlib.Omega.{arith}
use Rattle.layout.proofs.low.Goals as goal

-- a number of the last word is below the size
pub nonzero_rem-n : goal.nonzero_rem-n
nonzero_rem-n g c = let t = g.met.T.Coded.laws.fits (g.T.Coded.by 0) in rw c.SIZE.ensures (omega (arith, t))
