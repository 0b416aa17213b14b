-- A request's judgement, exactly when: the theorems of `specs/ExactlyRequest.antt`. Assumes nothing.
use Rattle.std.specs.Prelude.{Err, Ok}
use mathlib.Core.Path.{◌≡◌, refl, sym, ◌∙◌}
use mathlib.Core.List.{List}
use Prim.Native.Nat.{ℕ, ◌+◌, ◌*◌, ◌/◌, ◌%◌}
use native.Mathlib.Omega.{arith}
use lib.Dec.{ltb}
use lib.ListN.{length}
use borrow.Author.Tests.{lt-ltb, le-ltb, ltb-true, ltb-false}
use Rattle.record.specs.Bytes.{size, most_entries}
use Rattle.record.specs.Refusals.{request, cut_short, too_many, bad_field}
use Rattle.record.specs.declared.Refusal.{Refusal}
use Rattle.fields.specs.Entries.{entry_ok}
use Rattle.fields.proofs.First.{by, first_reach}
use Rattle.judge.specs.Request.{first_entry, judge_entries, judge_request_of, JudgedRequest}
use Rattle.judge.specs.ExactlyRequest.{SizedRequest, KeepsRequest, BreaksRequest, cut, many, field, AcceptedRequestKeeps, KeptRequestIsAccepted, RefusedRequestBreaks, BrokenRequestIsRefused}
use Rattle.judge.proofs.Answers.{some_ltb, none_ltb}
use Rattle.judge.proofs.Exactly.{first_break, break_first, all_keep}

absurd_judged : {A : Type 0} {n : ℕ} {r : Refusal} → Ok n ≡ Err r → A
absurd_judged e = let z : ◌≡◌ {A = ℕ} 0 1 = cc in absurd (omega arith)

data Answer (q : List ℕ) (j : JudgedRequest) : Type 0 where
  accepted : (n : ℕ) → j ≡ Ok n → KeepsRequest q n → Answer q j
  refused : (r : Refusal) → j ≡ Err r → BreaksRequest q r → Answer q j

entries_answer : (q : List ℕ) (n : ℕ) → SizedRequest q n → Answer q (judge_entries q n)
unfolding judge_entries
entries_answer q n s =
    by (ltb (first_entry q n) n)
    (λ t. let l = ltb-true (first_entry q n) n t in refused (bad_field request (first_entry q n + 1)) (rw t) (field n (first_entry q n) refl s (first_break (entry_ok q) n l)))
    (λ t. accepted n (rw t) (record { sized = s; fields = all_keep (entry_ok q) n (ltb-false (first_entry q n) n t) }))

answer : (q : List ℕ) → Answer q (judge_request_of q)
unfolding judge_request_of
answer q =
    by (ltb 0 (length q % size))
    (λ u. let l = ltb-true 0 (length q % size) u in refused (cut_short request) (rw u) (cut refl (λ e. omega arith)))
    (λ u. let e : length q % size ≡ 0 = omega (arith, ltb-false 0 (length q % size) u) in
    by (ltb (most_entries * size) (length q))
    (λ v. refused (too_many request) (rw (u, v)) (many refl e (ltb-true (most_entries * size) (length q) v)))
    (λ v. let l = ltb-false (most_entries * size) (length q) v in
    rw (u, v) (entries_answer q (length q / size) (record { bytes = omega arith; most = omega arith }))))

pub accepted_request_keeps : AcceptedRequestKeeps
accepted_request_keeps q n e = go (answer q)
  where
    go : Answer q (judge_request_of q) → KeepsRequest q n
    go (accepted k x w) =
        let y : Ok n ≡ Ok k = sym e ∙ x in
        let z : k ≡ n = cc in
        rw z at w
    go (refused r x w) = absurd_judged (sym e ∙ x)

pub refused_request_breaks : RefusedRequestBreaks
refused_request_breaks q r e = go (answer q)
  where
    go : Answer q (judge_request_of q) → BreaksRequest q r
    go (accepted k x w) = absurd_judged (sym x ∙ e)
    go (refused s x w) =
        let y : Err s ≡ Err r = sym x ∙ e in
        let z : s ≡ r = cc in
        rw z at w

-- the tests of bytes that n entries have
sized_judged : (q : List ℕ) (n : ℕ) → SizedRequest q n → judge_request_of q ≡ judge_entries q n
unfolding judge_request_of
sized_judged q n s =
    let m : length q / size ≡ n = omega (arith, s.bytes) in
    rw (none_ltb (length q % size) (omega (arith, s.bytes)), le-ltb (most_entries * size) (length q) (omega (arith, s.bytes, s.most)), m)

pub kept_request_is_accepted : KeptRequestIsAccepted
unfolding judge_entries
kept_request_is_accepted q n k = sized_judged q n k.sized ∙ rw (le-ltb (first_entry q n) n (first_reach (entry_ok q) n k.fields))

pub broken_request_is_refused : BrokenRequestIsRefused
unfolding judge_request_of judge_entries
broken_request_is_refused q r (cut er e) = rw (er, some_ltb (length q % size) e)
broken_request_is_refused q r (many er e l) = rw (er, none_ltb (length q % size) e, lt-ltb (most_entries * size) (length q) l)
broken_request_is_refused q r (field n i er s w) = sized_judged q n s ∙ rw (er, break_first (entry_ok q) n i w, lt-ltb i n w.inside)
