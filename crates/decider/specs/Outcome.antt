-- What a call to decide answers, and what it leaves in the lent places: document 01, "Refusals and their order" and "What is decided".
-- Assumes nothing.
use Rattle.std.specs.Prelude.{ℕ, ◌-◌, ◌≡◌, List, ◌++◌, ltb, length, replicate, Result, Ok, Err}
use Rattle.record.specs.Choose.{if}
use Rattle.record.specs.Refusals.{no_room}
use Rattle.meaning.specs.Meaning.{decides, obliges}
use Rattle.meaning.specs.Reading.{book_of, bags_of}
use Rattle.meaning.specs.Typed.{TypedTree}
use Rattle.meaning.specs.Alike.{FoundAlike}
use Rattle.judge.specs.Judge.{judge_of, Judged}
use Rattle.judge.specs.Request.{judge_request_of, JudgedRequest}
use Rattle.record.specs.declared.Refusal.{Refusal}
use Rattle.meaning.specs.declared.Verdict.{Verdict}
use Rattle.decider.specs.declared.Ruling.{Ruling}

abbrev pub Outcome : Type 0
Outcome = Result Ruling Refusal

-- this verdict, with so many obligations
abbrev pub decided_with : Verdict → ℕ → Outcome
decided_with v n = Ok (record { verdict = v; count = n })

-- the obligations of a book for a request
unfoldable pub duties_of : List ℕ → List ℕ → List ℕ
duties_of b q = obliges (bags_of q) (book_of b)

-- calls judge book, request, output: an output with room for as many places as the book has obligation records; then they answer
abbrev pub in_order : Judged → JudgedRequest → ℕ → Outcome → Outcome
in_order (Err r) x room answer = Err r
in_order (Ok a) (Err r) room answer = Err r
in_order (Ok a) (Ok m) room answer = if (ltb room a.obligations) (Err no_room) answer

-- the verdict, and how many obligations
unfoldable pub outcome_of : List ℕ → List ℕ → ℕ → Outcome
outcome_of b q room = in_order (judge_of b) (judge_request_of q) room (decided_with (decides (bags_of q) (book_of b)) (length (duties_of b q)))

-- the obligations first, and zero in every other place; a refusal leaves all as it was
abbrev pub filled : Outcome → List ℕ → List ℕ → List ℕ
filled (Ok d) xs l = xs ++ replicate (length l - length xs) 0
filled (Err r) xs l = l

unfoldable pub out_of : List ℕ → List ℕ → List ℕ → List ℕ
out_of b q l = filled (outcome_of b q (length l)) (duties_of b q) l

-- a request counts only through what tests and operands find in its bags: two that are accepted, and in which all find the same, get the same outcome and the
-- same obligations from a book whose conditions are typed
abbrev pub OutcomeByTests : Type 0
OutcomeByTests =
    (b q r : List ℕ) (room n m : ℕ) → judge_request_of q ≡ Ok n → judge_request_of r ≡ Ok m → TypedTree (book_of b)
    → FoundAlike (bags_of q) (bags_of r) → (outcome_of b q room ≡ outcome_of b r room) × (duties_of b q ≡ duties_of b r)
