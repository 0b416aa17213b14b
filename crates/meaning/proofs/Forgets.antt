-- A verdict without its code is what the algorithm decides: the first claim of specs/Codes.antt. Assumes nothing.
use Rattle.std.specs.Prelude.{None, Some}
use mathlib.Core.Path.{◌≡◌, refl}
use Rattle.meaning.specs.Cause.{Cause}
use Rattle.meaning.specs.Meaning.{coded, decision_in, cause_of, combine, verdict_of}
use Rattle.meaning.specs.Codes.{Forgets}
use Rattle.meaning.specs.declared.Decision.{Decision}
use Rattle.meaning.specs.declared.Decision.TheVariants.{Permit, Deny, NotApplicable, Indeterminate}

coded_forgets : (d : Decision) (c : Cause) → decision_in (coded d c) ≡ d
coded_forgets Permit c = refl
coded_forgets Deny c = refl
coded_forgets NotApplicable c = refl
coded_forgets Indeterminate None = refl
coded_forgets Indeterminate (Some s) = refl

pub forgets : Forgets
unfolding verdict_of
forgets a cs = coded_forgets (combine a cs) (cause_of a cs)
