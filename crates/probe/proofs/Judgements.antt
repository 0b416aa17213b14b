-- What the judgements answer fits where it is packed. Assumes nothing.
use Rattle.std.specs.Prelude.{Err, Ok}
use Rattle.std.specs.Result.{MatchResult}
use mathlib.Core.Path.{◌≡◌, refl, sym, ◌∙◌}
use mathlib.Core.List.{List}
use Prim.Native.Nat.{ℕ, ◌<◌, ◌≤◌, ◌^◌}
use native.Mathlib.Omega.{arith}
use Rattle.record.specs.Bytes.{most_records}
use Rattle.record.specs.Refusals.{line_of}
use Rattle.record.specs.declared.Refusal.{Refusal}
use Rattle.judge.specs.declared.Accepted.{Accepted}
use Rattle.judge.specs.Judge.{judge_of, Judged}
use Rattle.judge.specs.Request.{judge_request_of, JudgedRequest}
use Rattle.judge.proofs.Bounds.{refused_small, accepted_small, refused_request_small, accepted_request_small}

request_by : (q : List ℕ) (j : JudgedRequest) → judge_request_of q ≡ j → MatchResult j (λ m. m < 2 ^ 56) (λ r. line_of r ≤ most_records)
request_by q (Ok n) e = let w = accepted_request_small q n e in omega arith
request_by q (Err r) e = let w = refused_request_small q r e in omega arith

pub request_fits : {j : JudgedRequest} (q : List ℕ) → j ≡ judge_request_of q → MatchResult j (λ m. m < 2 ^ 56) (λ r. line_of r ≤ most_records)
request_fits q e = rw e (request_by q (judge_request_of q) refl)

module _ {j : Judged} (b : List ℕ) (e : j ≡ judge_of b) where
  pub counts_fit : {a : Accepted} → j ≡ Ok a → (a.records ≤ most_records) × (a.obligations ≤ a.records)
  counts_fit {a} f = accepted_small b a.records a.obligations (sym e ∙ f)

  pub line_fits : {r : Refusal} → j ≡ Err r → line_of r ≤ most_records
  line_fits {r} f = (refused_small b r (sym e ∙ f)).line
