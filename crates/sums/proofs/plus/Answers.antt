use mathlib.Core.Path.{sym}
use Rattle.sums.proofs.Finite.{no_first, no_second, plus_is}
use Rattle.sums.proofs.plus.Goals as goal
use Rattle.sums.proofs.plus.Goals.{then-not-finite-via-then-not-finite, then-not-finite-via-else-not-finite+then-not-finite-2}

pub returns-then-not-finite : goal.returns-then-not-finite
returns-then-not-finite c = elim c.then-not-finite.branch [
  | then-not-finite-via-then-not-finite w ↦ sym (no_first _ _ w.if-not-finite.ensures)
  | then-not-finite-via-else-not-finite+then-not-finite-2 w ↦ sym (no_second _ _ w.if-not-finite-2.ensures)
]

pub returns-then-not-is_finite : goal.returns-then-not-is_finite
returns-then-not-is_finite c =
    plus_is _ _ c.ranges.first.fits c.ranges.second.fits c.if-not-finite.ensures c.if-not-finite-2.ensures _ c.if-not-is_finite.ensures.value

pub returns : goal.returns
returns c =
    plus_is _ _ c.ranges.first.fits c.ranges.second.fits c.if-not-finite.ensures c.if-not-finite-2.ensures _ c.if-not-is_finite.ensures.value
