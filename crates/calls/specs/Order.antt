-- Document 02, 7, as the C caller sees it: an accepted book whose lines were rearranged, asked by `bachumoi_decide`, and its programme run to the end. Codes are left
-- aside. `proofs/Order.antt` proves it. Assumes nothing.
use Rattle.std.specs.Prelude.{ℕ, ◌-◌, ◌*◌, ◌%◌, ◌≤◌, ◌≡◌, Bool, List, ◌++◌, length, replicate, Err, Ok}
use Rattle.record.specs.Bytes.{Bytes}
use Rattle.record.specs.declared.Refusal.{Refusal}
use Rattle.meaning.specs.Policy.{Tree}
use Rattle.meaning.specs.Meaning.{decision_in, obliges}
use Rattle.meaning.specs.Reading.{book_of, bags_of}
use Rattle.meaning.specs.declared.Decision.{Decision}
use Rattle.meaning.specs.declared.Decision.TheVariants.{Indeterminate}
use Rattle.meaning.specs.declared.Verdict.{Verdict}
use Rattle.judge.specs.Judge.{judge_of, accepted_with}
use Rattle.judge.specs.Request.{judge_request_of}
use Rattle.layout.specs.Room.{room_p}
use Rattle.translator.specs.Translate.{room_for}
use Rattle.order.specs.Reordered.{Reordered}
use Rattle.order.specs.Stays.{decision, keeps_decision, keeps_answer, keeps_numbers}
use Rattle.order.specs.Books.{RearrangedBook}
use Rattle.host.specs.Host.{host_number, pairs_of, host_outcome, host_out}
use Rattle.rig.specs.Rig.{fresh_call}
use Rattle.calls.specs.Codes.{plain_number}
use Rattle.calls.specs.Loop.{programme_in, Answers}

-- an accepted book and request, and lent slices with room for their answers
pub record Asked (b q out buffer numbers places : List ℕ) : Type 0 where
  pub bytes : Bytes b
  pub records : ℕ
  pub obligations : ℕ
  pub entries : ℕ
  pub book : judge_of b ≡ accepted_with records obligations
  pub request : judge_request_of q ≡ Ok entries
  pub out_room : 2 * obligations ≤ length out
  pub buffer_room : room_for records ≤ length buffer
  pub numbers_room : 33 ≤ length numbers
  pub places_room : room_p ≤ length places

-- the programme of b, its steps dealt out in any amounts, ends with this decision and these obligations
pub record Ends (b q buffer numbers places : List ℕ) (d : Decision) (os : List ℕ) : Type 0 where
  pub verdict : Verdict
  pub decides : decision_in verdict ≡ d
  pub answers : Answers (programme_in b buffer) q (fresh_call numbers places) verdict os

-- the output of `bachumoi_decide` holds these obligations first, as byte pairs, and zero in every other byte
abbrev pub Holding : List ℕ → List ℕ → List ℕ → List ℕ → Type 0
Holding b q out os = host_out b q out ≡ pairs_of os ++ replicate (length out - 2 * length os) 0

-- the number but for its code is the whole number, unless it is Indeterminate
abbrev pub PlainIsWhole : Type 0
PlainIsWhole =
    (b q out : List ℕ) → (decision (bags_of q) (book_of b) ≡ Indeterminate → ⊥) → plain_number b q out ≡ host_number (host_outcome b q out)

-- where nothing was reordered under first-applicable: the same decision
abbrev pub DecisionKept : Type 0
DecisionKept =
    (b c q out buffer numbers places : List ℕ) → Asked b q out buffer numbers places → RearrangedBook keeps_decision b c
    → (host_number (host_outcome b q out) % 256 ≡ host_number (host_outcome c q out) % 256)
    × Ends c q buffer numbers places (decision (bags_of q) (book_of b)) (obliges (bags_of q) (book_of c))

-- where only rules under deny-overrides and permit-overrides, and children of only-one-applicable, were: the same number but for its code, and the same bytes
abbrev pub AnswerKept : Type 0
AnswerKept =
    (b c q out buffer numbers places : List ℕ) → Asked b q out buffer numbers places → RearrangedBook keeps_answer b c
    → (plain_number b q out ≡ plain_number c q out)
    × (host_out b q out ≡ host_out c q out)
    × Ends c q buffer numbers places (decision (bags_of q) (book_of b)) (obliges (bags_of q) (book_of b))

-- where sets under deny-overrides and permit-overrides were too, none of which stopped with what the book decides: the same number but for its code, and the same
-- obligations, perhaps in another order
abbrev pub NumbersKept : Type 0
NumbersKept =
    (b c q out buffer numbers places : List ℕ) → Asked b q out buffer numbers places
    → let d = decision (bags_of q) (book_of b) in
    let os = obliges (bags_of q) (book_of b) in
    let ps = obliges (bags_of q) (book_of c) in
    RearrangedBook (keeps_numbers (bags_of q) d) b c
    → (plain_number b q out ≡ plain_number c q out)
    × Reordered ℕ os ps
    × Holding b q out os
    × Holding c q out ps
    × Ends c q buffer numbers places d ps

-- a request or an output that one is refused for, the other is refused for too, with the same number, and the output stays as it was
abbrev pub RefusedAlike : Type 0
RefusedAlike =
    (may : Tree → Bool) (b c q out : List ℕ) (n o : ℕ) (r : Refusal) → judge_of b ≡ accepted_with n o → RearrangedBook may b c → host_outcome b q out ≡ Err r
    → (host_number (host_outcome c q out) ≡ host_number (host_outcome b q out)) × (host_out c q out ≡ out)
