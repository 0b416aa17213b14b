-- Demand 2 as the C caller sees it: `bachumoi_decide` against the meaning. `proofs/Decides.antt` proves it. Assumes nothing.
use Rattle.std.specs.Prelude.{ℕ, ◌+◌, ◌-◌, ◌*◌, ◌≤◌, ◌≡◌, List, ◌++◌, length, replicate, Ok}
use Rattle.meaning.specs.Meaning.{decision_in, decides, obliges}
use Rattle.meaning.specs.Numbers.{number_of, code_number}
use Rattle.meaning.specs.Reading.{book_of, bags_of}
use Rattle.judge.specs.Judge.{judge_of, accepted_with}
use Rattle.judge.specs.Request.{judge_request_of}
use Rattle.host.specs.Host.{host_number, pairs_of, host_outcome, host_out}

-- the number is the meaning's decision, 256 times how many obligations it hands up, and 2^40 times the code; the output has these first, as byte pairs, and
-- zero in every other byte
abbrev pub ByMeaning : List ℕ → List ℕ → List ℕ → Type 0
ByMeaning b q out =
    let os = obliges (bags_of q) (book_of b) in
    let v = decides (bags_of q) (book_of b) in
    (host_number (host_outcome b q out) ≡ number_of (decision_in v) + 256 * length os + 1099511627776 * code_number v)
    × (host_out b q out ≡ pairs_of os ++ replicate (length out - 2 * length os) 0)

-- so of an accepted book and request, and an output with two bytes for each obligation record
abbrev pub DecidesRight : Type 0
DecidesRight =
    (b q out : List ℕ) (n o m : ℕ) → judge_of b ≡ accepted_with n o → judge_request_of q ≡ Ok m → 2 * o ≤ length out → ByMeaning b q out
