-- The same of a request's judgement. `proofs/ExactlyRequest.antt` proves it. Assumes nothing.
use Rattle.std.specs.Prelude.{ℕ, ◌+◌, ◌*◌, ◌%◌, ◌≤◌, ◌<◌, ◌≡◌, List, length, Err, Ok}
use Rattle.record.specs.Bytes.{size, most_entries}
use Rattle.record.specs.Refusals.{request, cut_short, too_many, bad_field}
use Rattle.record.specs.declared.Refusal.{Refusal}
use Rattle.fields.specs.Entries.{entry_ok}
use Rattle.judge.specs.Request.{judge_request_of}
use Rattle.placement.specs.Keeps.{AllKeep, FirstToBreak}

-- as many bytes as n entries have, as a request may
pub record SizedRequest (q : List ℕ) (n : ℕ) : Type 0 where
  pub bytes : length q ≡ n * size
  pub most : n ≤ most_entries

-- a request of n entries that breaks no rule
pub record KeepsRequest (q : List ℕ) (n : ℕ) : Type 0 where
  pub sized : SizedRequest q n
  pub fields : AllKeep (entry_ok q) n

-- bytes that break a rule, with the refusal for it
pub data BreaksRequest (q : List ℕ) (r : Refusal) : Type 0 where
  cut : r ≡ cut_short request → (length q % size ≡ 0 → ⊥) → BreaksRequest q r
  many : r ≡ too_many request → length q % size ≡ 0 → most_entries * size < length q → BreaksRequest q r
  field : (n i : ℕ) → r ≡ bad_field request (i + 1) → SizedRequest q n → FirstToBreak (entry_ok q) n i → BreaksRequest q r

-- a request is accepted exactly when it keeps the rules
abbrev pub AcceptedRequestKeeps : Type 0
AcceptedRequestKeeps = (q : List ℕ) (n : ℕ) → judge_request_of q ≡ Ok n → KeepsRequest q n

abbrev pub KeptRequestIsAccepted : Type 0
KeptRequestIsAccepted = (q : List ℕ) (n : ℕ) → KeepsRequest q n → judge_request_of q ≡ Ok n

-- and refused exactly when it breaks one, at the first entry that does
abbrev pub RefusedRequestBreaks : Type 0
RefusedRequestBreaks = (q : List ℕ) (r : Refusal) → judge_request_of q ≡ Err r → BreaksRequest q r

abbrev pub BrokenRequestIsRefused : Type 0
BrokenRequestIsRefused = (q : List ℕ) (r : Refusal) → BreaksRequest q r → judge_request_of q ≡ Err r
