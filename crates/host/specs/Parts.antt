-- What a caller reads off a decision's number: no part is lost. `proofs/Parts.antt` proves it. Assumes nothing.
use Rattle.std.specs.Prelude.{ℕ, ◌/◌, ◌%◌, ◌<◌, ◌≡◌}
use Rattle.decider.specs.Outcome.{decided_with}
use Rattle.meaning.specs.Meaning.{decision_in}
use Rattle.meaning.specs.Numbers.{number_of, code_number}
use Rattle.meaning.specs.declared.Verdict.{Verdict}
use Rattle.host.specs.Host.{host_number}

-- the low byte the decision, bits 8 to 23 the count, bits 40 on the code
abbrev pub NumberParts : Type 0
NumberParts =
    (v : Verdict) (count : ℕ) → count < 65536
    → let n = host_number (decided_with v count) in
    (n % 256 ≡ number_of (decision_in v)) × (n / 256 % 65536 ≡ count) × (n / 1099511627776 ≡ code_number v)
