-- Document 02, 4, as the C caller sees it: codes stand beside the answer and change nothing in it. `proofs/Codes.antt` proves it. Assumes nothing.
use Rattle.std.specs.Prelude.{ℕ, ◌-◌, ◌*◌, ◌≤◌, ◌≡◌, List, length, Ok}
use Rattle.record.specs.Bytes.{Bytes}
use Rattle.meaning.specs.Codes.{FoundPlain}
use Rattle.meaning.specs.Meaning.{decides}
use Rattle.meaning.specs.Numbers.{code_number}
use Rattle.meaning.specs.Reading.{book_of, bags_of}
use Rattle.judge.specs.Judge.{judge_of, accepted_with}
use Rattle.judge.specs.Request.{judge_request_of}
use Rattle.host.specs.Host.{host_number, host_outcome, host_out}

-- the number of `bachumoi_decide` without its code
abbrev pub plain_number : List ℕ → List ℕ → List ℕ → ℕ
plain_number b q out = host_number (host_outcome b q out) - 1099511627776 * code_number (decides (bags_of q) (book_of b))

-- two requests in which every test and attribute finds the same but for codes get the same number but for its code, and the same bytes
abbrev pub CodesApart : Type 0
CodesApart =
    (b q r out : List ℕ) (n o m k : ℕ) → Bytes b → judge_of b ≡ accepted_with n o → judge_request_of q ≡ Ok m → judge_request_of r ≡ Ok k
    → 2 * o ≤ length out → FoundPlain (bags_of q) (bags_of r)
    → (plain_number b q out ≡ plain_number b r out) × (host_out b q out ≡ host_out b r out)
