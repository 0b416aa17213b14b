-- The claims of specs/Order.antt. Assumes nothing.
use Rattle.std.specs.Prelude.{Err, Ok}
use Prim.Native.Nat.{ℕ, ◌-◌, ◌*◌, ◌/◌, ◌%◌, ◌<◌}
use mathlib.Core.Path.{◌≡◌, refl, sym, ap, ◌∙◌}
use mathlib.Core.Bool.{Bool, true, false}
use mathlib.Core.List.{List, ◌++◌}
use lib.Dec.{ltb}
use lib.ListN.{length, replicate}
use native.Mathlib.Omega.{arith}
use Rattle.record.specs.Choose.{if}
use Rattle.record.specs.Refusals.{no_room}
use Rattle.record.specs.declared.Refusal.{Refusal}
use Rattle.meaning.specs.Policy.{Tree}
use Rattle.meaning.specs.Meaning.{decision_in, decides, obliges}
use Rattle.meaning.specs.Numbers.{number_of, code_number}
use Rattle.meaning.specs.Reading.{book_of, bags_of}
use Rattle.meaning.specs.declared.Decision.{Decision}
use Rattle.meaning.specs.declared.Decision.TheVariants.{Permit, Deny, NotApplicable, Indeterminate}
use Rattle.meaning.specs.declared.Verdict.{Verdict}
use Rattle.meaning.specs.declared.Verdict.TheVariants as verdict
use Rattle.judge.specs.Judge.{judge_of, accepted_with}
use Rattle.judge.specs.Request.{judge_request_of, JudgedRequest}
use Rattle.decider.specs.Outcome.{duties_of, in_order, outcome_of, decided_with}
use Rattle.order.specs.Stays.{decision}
use Rattle.order.specs.Books.{RearrangedBook}
use Rattle.order.proofs.Reordered.{as_many}
use Rattle.order.proofs.Small.{rearranged_small}
use Rattle.order.proofs.Books.{rearranged_is_accepted, book_keeps_decision, book_keeps_answer, book_keeps_numbers}
use Rattle.host.specs.Host.{host_number, pairs_of, host_outcome, host_out}
use Rattle.calls.specs.Codes.{plain_number}
use Rattle.calls.specs.Decides.{ByMeaning}
use Rattle.calls.specs.Order.{Asked, Ends, PlainIsWhole, DecisionKept, AnswerKept, NumbersKept, RefusedAlike}
use Rattle.calls.proofs.Decides.{decides_right}
use Rattle.calls.proofs.Loop.{every_row}

-- a decision's number is a byte
small : (d : Decision) → number_of d < 256
small Permit = omega arith
small Deny = omega arith
small NotApplicable = omega arith
small Indeterminate = omega arith

-- nothing but an Indeterminate has a code
pub plain_is_whole : PlainIsWhole
plain_is_whole b q out h = rw (go (decides (bags_of q) (book_of b)) h) (omega arith)
  where
    go : (v : Verdict) → (decision_in v ≡ Indeterminate → ⊥) → code_number v ≡ 0
    go verdict.Permit h = refl
    go verdict.Deny h = refl
    go verdict.NotApplicable h = refl
    go (verdict.Indeterminate s) h = absurd (h refl)

-- of a book that is asked, and of one that it was rearranged to
module _ (b q out buffer numbers places : List ℕ) (a : Asked b q out buffer numbers places) where
  meant : ByMeaning b q out
  meant = decides_right b q out a.records a.obligations a.entries a.book a.request a.out_room

  ends : Ends b q buffer numbers places (decision (bags_of q) (book_of b)) (obliges (bags_of q) (book_of b))
  ends =
      record {
        verdict = decides (bags_of q) (book_of b);
        decides = refl;
        answers = (every_row b q a.records a.obligations a.entries a.bytes a.book a.request buffer numbers places a.buffer_room a.numbers_room a.places_room).1;
      }

  decided : host_number (host_outcome b q out) % 256 ≡ number_of (decision (bags_of q) (book_of b))
  decided = let s = small (decision (bags_of q) (book_of b)) in omega (arith, meant.0, s)

  asked : (may : Tree → Bool) (c : List ℕ) → RearrangedBook may b c → Asked c q out buffer numbers places
  asked may c r =
      record {
        bytes = rearranged_small may r a.bytes;
        records = a.records;
        obligations = a.obligations;
        entries = a.entries;
        book = rearranged_is_accepted may b c a.records a.obligations r a.book;
        request = a.request;
        out_room = a.out_room;
        buffer_room = a.buffer_room;
        numbers_room = a.numbers_room;
        places_room = a.places_room;
      }

-- decisions and counts that are the same are the same number
same_number : (b c q out : List ℕ) → ByMeaning b q out → ByMeaning c q out → decision (bags_of q) (book_of b) ≡ decision (bags_of q) (book_of c)
    → length (obliges (bags_of q) (book_of b)) ≡ length (obliges (bags_of q) (book_of c)) → plain_number b q out ≡ plain_number c q out
same_number b c q out x y d l = let n = ap number_of d in omega (arith, x.0, y.0, n, l)

pub decision_kept : DecisionKept
decision_kept b c q out buffer numbers places a r =
    let z = asked b q out buffer numbers places a _ c r in
    let e = book_keeps_decision b c q a.records a.obligations a.book r in
    (decided b q out buffer numbers places a ∙ ap number_of e ∙ sym (decided c q out buffer numbers places z), rw e (ends c q out buffer numbers places z))

pub answer_kept : AnswerKept
answer_kept b c q out buffer numbers places a r =
    let z = asked b q out buffer numbers places a _ c r in
    let e = book_keeps_answer b c q a.records a.obligations a.book r in
    let x = meant b q out buffer numbers places a in
    let y = meant c q out buffer numbers places z in (
      same_number b c q out x y e.0 (ap length e.1),
      x.1 ∙ ap (λ os. pairs_of os ++ replicate (length out - 2 * length os) 0) e.1 ∙ sym y.1,
      rw (e.0, e.1) (ends c q out buffer numbers places z),
    )

pub numbers_kept : NumbersKept
numbers_kept b c q out buffer numbers places a r =
    let z = asked b q out buffer numbers places a _ c r in
    let e = book_keeps_numbers b c q a.records a.obligations a.book r in
    let x = meant b q out buffer numbers places a in
    let y = meant c q out buffer numbers places z in (
      same_number b c q out x y e.0 (as_many e.1),
      e.1,
      x.1,
      y.1,
      rw e.0 (ends c q out buffer numbers places z),
    )

-- a refusal of an accepted book's call looks at no answer
refused_by : (j : JudgedRequest) (n o room : ℕ) (v w : Verdict) (x y : ℕ) (r : Refusal) → in_order (accepted_with n o) j room (decided_with v x) ≡ Err r
    → in_order (accepted_with n o) j room (decided_with w y) ≡ Err r
refused_by (Err s) n o room v w x y r e = e
refused_by (Ok m) n o room v w x y r e = go (ltb room o) e
  where
    go : (short : Bool) → if short (Err no_room) (decided_with v x) ≡ Err r → if short (Err no_room) (decided_with w y) ≡ Err r
    go true e = e
    go false e = let z : ◌≡◌ {A = ℕ} 0 1 = cc in absurd (omega arith)

pub refused_alike : RefusedAlike
unfolding host_outcome host_out outcome_of
refused_alike may b c q out n o r accepted w e =
    let z : judge_of c ≡ accepted_with n o = rearranged_is_accepted may b c n o w accepted in
    let y = refused_by (judge_request_of q) n o (length out / 2) _ (decides (bags_of q) (book_of c)) _ (length (duties_of c q)) r (rw accepted at e) in
    rw (e, z, y) (refl, refl)
