-- Where reordering does not keep, by example: two accepted books, one the other with two neighbouring children of line 1 exchanged, that answer a request
-- differently. `proofs/Differs.antt` computes them. Assumes nothing.
use Rattle.std.specs.Prelude.{ℕ, ◌≡◌, Bool, true, List, [], ◌∷◌, Ok}
use Rattle.record.specs.Bytes.{byte_of}
use Rattle.sums.specs.declared.Status.TheVariants.{Missing, Processing}
use Rattle.meaning.specs.Policy.{Tree}
use Rattle.meaning.specs.Meaning.{algorithm_of, decides, obliges}
use Rattle.meaning.specs.Reading.{book_of, bags_of}
use Rattle.meaning.specs.declared.Algorithm.{Algorithm}
use Rattle.meaning.specs.declared.Algorithm.TheVariants.{First, PoliciesDeny, PoliciesPermit}
use Rattle.meaning.specs.declared.Verdict.{Verdict}
use Rattle.meaning.specs.declared.Verdict.TheVariants.{Permit, Deny, Indeterminate}
use Rattle.judge.specs.Judge.{judge_of, accepted_with}
use Rattle.judge.specs.Request.{judge_request_of}
use Rattle.order.specs.Books.{RearrangedBook}

-- children may be reordered whatever the algorithm
abbrev pub any_party : Tree → Bool
any_party n = true

-- a book whose line 1 has this kind and algorithm; its verdict and obligations, and those after
pub record Differs (kind : ℕ) (a : Algorithm) (v : Verdict) (os : List ℕ) (w : Verdict) (ps : List ℕ) : Type 0 where
  pub old : List ℕ
  pub new : List ℕ
  pub asked : List ℕ
  pub records : ℕ
  pub obligations : ℕ
  pub entries : ℕ
  pub accepted : judge_of old ≡ accepted_with records obligations
  pub request : judge_request_of asked ≡ Ok entries
  pub line_one_lem : (byte_of old 0 0 ≡ kind) × (algorithm_of (book_of old) ≡ a)
  pub rearranged : RearrangedBook any_party old new
  pub old_answer : (decides (bags_of asked) (book_of old) ≡ v) × (obliges (bags_of asked) (book_of old) ≡ os)
  pub new_answer : (decides (bags_of asked) (book_of new) ≡ w) × (obliges (bags_of asked) (book_of new) ≡ ps)

-- first-applicable over rules, and over policies: another decision
abbrev pub FirstOverRules : Type 0
FirstOverRules = Differs 2 First Permit [] Deny []

abbrev pub FirstOverPolicies : Type 0
FirstOverPolicies = Differs 1 First Permit [] Deny []

-- deny-overrides over policies that denies, and permit-overrides that permits: the obligations of the first child that does, so other numbers
abbrev pub DenyOverridesDenies : Type 0
DenyOverridesDenies = Differs 1 PoliciesDeny Deny (1 ∷ []) Deny (2 ∷ [])

abbrev pub PermitOverridesPermits : Type 0
PermitOverridesPermits = Differs 1 PoliciesPermit Permit (1 ∷ []) Permit (2 ∷ [])

-- deny-overrides that permits: the same numbers in another order
abbrev pub DenyOverridesPermits : Type 0
DenyOverridesPermits = Differs 1 PoliciesDeny Permit (1 ∷ 2 ∷ []) Permit (2 ∷ 1 ∷ [])

-- and an Indeterminate may have another code
abbrev pub OtherCode : Type 0
OtherCode = Differs 1 PoliciesPermit (Indeterminate Missing) [] (Indeterminate Processing) []
