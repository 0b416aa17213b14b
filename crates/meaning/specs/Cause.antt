-- What made something Indeterminate, if it is. Assumes nothing.
use Rattle.std.specs.Prelude.{Option}
use Rattle.sums.specs.declared.Status.{Status}

abbrev pub Cause : Type 0
Cause = Option Status
