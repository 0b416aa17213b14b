-- What the C host gets: one number, and obligations as byte pairs. Document 01, "The C host". Assumes nothing.
use Rattle.std.specs.Prelude.{ℕ, ◌+◌, ◌*◌, ◌/◌, ◌%◌, List, [], ◌∷◌, length, Err, Ok}
use Rattle.record.specs.Refusals.{refusal_number}
use Rattle.meaning.specs.Meaning.{decision_in}
use Rattle.meaning.specs.Numbers.{number_of, code_number}
use Rattle.decider.specs.Outcome.{duties_of, outcome_of, filled, Outcome, decided_with}

-- decision + 256 x count + 2^40 x code, or a refusal as one number
abbrev pub host_number : Outcome → ℕ
host_number (Ok d) = number_of (decision_in d.verdict) + 256 * d.count + 1099511627776 * code_number d.verdict
host_number (Err r) = refusal_number r

-- obligations as byte pairs, big-endian
unfoldable pub pairs_of : List ℕ → List ℕ
pairs_of [] = []
pairs_of (x ∷ xs) = x / 256 ∷ x % 256 ∷ pairs_of xs

-- output need: twice the obligation records in bytes, so two bytes are one place
unfoldable pub host_outcome : List ℕ → List ℕ → List ℕ → Outcome
host_outcome b q l = outcome_of b q (length l / 2)

-- the obligations first, and zero in every other byte; a refusal leaves all as it was
unfoldable pub host_out : List ℕ → List ℕ → List ℕ → List ℕ
host_out b q l = filled (host_outcome b q l) (pairs_of (duties_of b q)) l
