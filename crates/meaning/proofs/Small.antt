-- The numbers of decisions and codes are small. Assumes nothing.
use Prim.Native.Nat.{◌<◌}
use native.Mathlib.Omega.{arith}
use Rattle.sums.specs.declared.Status.{Status}
use Rattle.sums.specs.declared.Status.TheVariants.{Missing, Processing}
use Rattle.meaning.specs.Numbers.{number_of, status_number, code_number}
use Rattle.meaning.specs.declared.Decision.{Decision}
use Rattle.meaning.specs.declared.Decision.TheVariants.{Permit, Deny, NotApplicable, Indeterminate}
use Rattle.meaning.specs.declared.Verdict.{Verdict}
use Rattle.meaning.specs.declared.Verdict.TheVariants as verdict

pub number_small : (d : Decision) → number_of d < 5
number_small Permit = omega arith
number_small Deny = omega arith
number_small NotApplicable = omega arith
number_small Indeterminate = omega arith

pub status_small : (s : Status) → status_number s < 3
status_small Missing = omega arith
status_small Processing = omega arith

pub code_small : (v : Verdict) → code_number v < 3
code_small verdict.Permit = omega arith
code_small verdict.Deny = omega arith
code_small verdict.NotApplicable = omega arith
code_small (verdict.Indeterminate s) = status_small s
