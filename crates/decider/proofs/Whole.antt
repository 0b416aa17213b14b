-- The whole call: judged in order, then decided. Assumes nothing.
use Rattle.std.specs.Prelude.{Err, Ok}
use mathlib.Core.Path.{◌≡◌, refl, sym, ap, ◌∙◌}
use mathlib.Core.Bool.{Bool, true, false}
use mathlib.Core.List.{List, ◌++◌}
use Prim.Native.Nat.{ℕ, ◌+◌, ◌-◌, ◌*◌, ◌/◌, ◌≤◌, ◌<◌, min}
use native.Mathlib.Omega.{arith}
use lib.Dec.{ltb}
use lib.ListN.{length, take, replicate, length-append}
use lib.Seq.{take_at}
use borrow.Author.Tests.{lt-ltb, le-ltb, ltb-true, ltb-false}
use Rattle.record.specs.Bytes.{size, most_records}
use Rattle.record.specs.Choose.{if}
use Rattle.record.specs.Forest.{forest, height}
use Rattle.record.specs.Refusals.{line_of, no_room}
use Rattle.record.specs.declared.Refusal.{Refusal}
use Rattle.fields.specs.Fields.{obligations_of}
use Rattle.fields.proofs.First.{by}
use Rattle.meaning.specs.Meaning.{verdict_in, owed, decides, obliges}
use Rattle.meaning.specs.Reading.{book_of, bags_of}
use Rattle.meaning.proofs.Alike.{counts_by_tests}
use Rattle.meaning.specs.declared.Verdict.{Verdict}
use Rattle.judge.specs.declared.Accepted.{Accepted}
use Rattle.judge.specs.Judge.{judge_of, Judged}
use Rattle.judge.specs.Request.{judge_request_of, JudgedRequest}
use Rattle.judge.proofs.Depth.{accepted_deep}
use Rattle.judge.proofs.Exactly.{accepted_keeps}
use Rattle.judge.proofs.Bounds.{refused_small, accepted_small, refused_request_small}
use Rattle.decider.specs.Outcome.{duties_of, in_order, outcome_of, out_of, OutcomeByTests, Outcome, decided_with}
use Rattle.decider.specs.declared.Ruling.{Ruling}
use Rattle.decider.specs.Inside.{tree_from, child_at, room_of, Ruled, Answered}
use Rattle.decider.proofs.Stack.{cleared}
use Rattle.decider.proofs.Rooms.{count_forest}

-- no more obligations can be handed up than the book has records for them
pub room_all : (b : List ℕ) (n : ℕ) → 0 < n → room_of b (forest b 1 (n - 1)) ≤ obligations_of b n
room_all b n h =
    let e : 1 + (n - 1) ≡ n = omega arith in
    omega (arith, rw e at (count_forest b 1 (n - 1)))

-- the first record, with all others below it, is the book
book_is : (b : List ℕ) (n : ℕ) → length b ≡ n * size → book_of b ≡ tree_from b 0 n
unfolding book_of tree_from
book_is b n e = let q : length b / size ≡ n = omega arith in rw q

pub answered : (b q : List ℕ) (n : ℕ) {l o f : List ℕ} {room m : ℕ} {v : Verdict} → length b ≡ n * size
    → Ruled l 0 (verdict_in (child_at b (bags_of q) 0 n)) (owed (child_at b (bags_of q) 0 n).target (child_at b (bags_of q) 0 n).duties) room o v m
    → length o ≡ length l → f ≡ take m o ++ replicate (length o - m) 0 → Answered b q l f v m
unfolding duties_of decides obliges child_at
answered b q n e w k c =
    let y : decides (bags_of q) (book_of b) ≡ verdict_in (child_at b (bags_of q) 0 n) = rw (book_is b n e) in
    let x : duties_of b q ≡ owed (child_at b (bags_of q) 0 n).target (child_at b (bags_of q) 0 n).duties = rw (book_is b n e) in
    record { says = rw y w.says; puts = rw x (omega (arith, w.puts.holds.count)); leaves = rw x (cleared w.puts.holds k c) }

-- judged in order
module _ (b q l : List ℕ) where
  pub refused_book : {r : Refusal} {j : Judged} → j ≡ judge_of b → j ≡ Err r → (Err r ≡ outcome_of b q (length l)) × (l ≡ out_of b q l)
  unfolding outcome_of out_of
  refused_book ej e = (rw (← ej, e), rw (← ej, e))

  module _ {a : Accepted} {j : Judged} {h : JudgedRequest} (ej : j ≡ judge_of b) (e : j ≡ Ok a) (eh : h ≡ judge_request_of q) where
    pub refused_request : {r : Refusal} → h ≡ Err r → (Err r ≡ outcome_of b q (length l)) × (l ≡ out_of b q l)
    unfolding outcome_of out_of
    refused_request f = (rw (← ej, e, ← eh, f), rw (← ej, e, ← eh, f))

    pub refused_room : {m : ℕ} → h ≡ Ok m → length l < a.obligations → (Err no_room ≡ outcome_of b q (length l)) × (l ≡ out_of b q l)
    unfolding outcome_of out_of
    refused_room f g = (rw (← ej, e, ← eh, f, lt-ltb _ _ g), rw (← ej, e, ← eh, f, lt-ltb _ _ g))

    pub decided : {m : ℕ} {d : Ruling} {o : List ℕ} → h ≡ Ok m → a.obligations ≤ length l → Answered b q l o d.verdict d.count
        → (Ok d ≡ outcome_of b q (length l)) × (o ≡ out_of b q l)
    unfolding outcome_of out_of
    decided f g w = (rw (← ej, e, ← eh, f, le-ltb _ _ g, w.says, w.puts), rw (← ej, e, ← eh, f, le-ltb _ _ g) w.leaves)

-- an accepted book has so many records, so many of them are obligations, and at most 15 levels lie below its first record
pub accepted_has : (b : List ℕ) {a : Accepted} {j : Judged} → j ≡ judge_of b → j ≡ Ok a
    → (0 < a.records) × (length b ≡ a.records * size) × (a.obligations ≡ obligations_of b a.records) × (height (forest b 1 (a.records - 1)) ≤ 15)
accepted_has b {a} ej e =
    let w = accepted_keeps b a.records a.obligations (sym ej ∙ e) in
    (w.0.sized.some, w.0.sized.bytes, w.1, accepted_deep b a.records a.obligations (sym ej ∙ e))

-- so no book asks for more than 1,000 places
room_test : (room k : ℕ) → k ≤ most_records → ltb (min room most_records) k ≡ ltb room k
room_test room k h =
    by (ltb room k)
    (λ t. let l = ltb-true room k t in lt-ltb (min room most_records) k (omega arith) ∙ sym t)
    (λ t. let l = ltb-false room k t in le-ltb (min room most_records) k (omega arith) ∙ sym t)

pub most_room : (b q : List ℕ) (room : ℕ) → outcome_of b q (min room most_records) ≡ outcome_of b q room
unfolding outcome_of
most_room b q room = go (judge_of b) refl (judge_request_of q) (decided_with (decides (bags_of q) (book_of b)) (length (duties_of b q)))
  where
    go : (j : Judged) → j ≡ judge_of b → (h : JudgedRequest) (a : Outcome) → in_order j h (min room most_records) a ≡ in_order j h room a
    go (Err r) e h a = refl
    go (Ok x) e (Err r) a = refl
    go (Ok x) e (Ok m) a =
        let w = accepted_small b x.records x.obligations (sym e) in
        rw (room_test room x.obligations (omega (arith, w.0, w.1)))

-- what an answer says of its call
inverted : (j : Judged) (h : JudgedRequest) (room : ℕ) (v : Verdict) (m : ℕ) {u : Verdict} {n : ℕ} → in_order j h room (decided_with v m) ≡ decided_with u n → n ≡ m
inverted (Err r) h room v m e = cc
inverted (Ok x) (Err r) room v m e = cc
inverted (Ok x) (Ok p) room v m e = go (ltb room x.obligations) e
  where
    go : (t : Bool) {u : Verdict} {n : ℕ} → if t (Err no_room) (decided_with v m) ≡ decided_with u n → n ≡ m
    go true e = cc
    go false {u} {n} e = let q : ◌≡◌ {A = Ruling} (record { verdict = v; count = m }) (record { verdict = u; count = n }) = cc in sym (ap (λ (d : Ruling). d.count) q)

pub decided_puts : (b q l : List ℕ) {e : List ℕ} {o : Outcome} {v : Verdict} {n : ℕ} → o ≡ outcome_of b q (length l) → o ≡ decided_with v n → e ≡ out_of b q l
    → length e ≡ length l → (n ≤ length e) × (take n e ≡ duties_of b q)
unfolding outcome_of out_of
decided_puts b q l {e} {o} {v} {n} eo ev ee el =
    let c : n ≡ length (duties_of b q) = inverted (judge_of b) (judge_request_of q) (length l) (decides (bags_of q) (book_of b)) (length (duties_of b q)) (sym eo ∙ ev) in
    let x : e ≡ duties_of b q ++ replicate (length l - length (duties_of b q)) 0 = rw (← eo, ev) at ee in
    let y : length e ≡ length (duties_of b q) + length (replicate {A = ℕ} (length l - length (duties_of b q)) 0) = ap length x ∙ length-append (duties_of b q) (replicate (length l - length (duties_of b q)) 0) in
    (omega (arith, y, c), rw x (take_at (duties_of b q) (replicate (length l - length (duties_of b q)) 0) n (sym c)))

pub refused_line : (b q : List ℕ) (room : ℕ) {r : Refusal} → outcome_of b q room ≡ Err r → line_of r ≤ most_records
unfolding outcome_of
refused_line b q room {r} = go (judge_of b) refl (judge_request_of q) refl
  where
    same : {s t : Refusal} → ◌≡◌ {A = Outcome} (Err s) (Err t) → line_of s ≤ most_records → line_of t ≤ most_records
    same {s} {t} e h = let x : s ≡ t = cc in rw (← x) h

    go : (j : Judged) → j ≡ judge_of b → (h : JudgedRequest) → h ≡ judge_request_of q → in_order j h room (decided_with (decides (bags_of q) (book_of b)) (length (duties_of b q))) ≡ Err r → line_of r ≤ most_records
    go (Err s) ej h eh e = same e (refused_small b s (sym ej)).line
    go (Ok x) ej (Err s) eh e = same e (omega (arith, (refused_request_small q s (sym eh)).line))
    go (Ok x) ej (Ok m) eh e = at (ltb room x.obligations) e
      where
        at : (t : Bool) → if t (Err no_room) (decided_with (decides (bags_of q) (book_of b)) (length (duties_of b q))) ≡ Err r → line_of r ≤ most_records
        at true e = same e (omega arith)
        at false e = let z : ◌≡◌ {A = ℕ} 0 1 = cc in absurd (omega arith)

-- a request counts only through what tests and operands find in its bags
pub outcome_by_tests : OutcomeByTests
unfolding outcome_of duties_of
outcome_by_tests b q r room n m eq er typed same =
    let e = counts_by_tests (bags_of q) (bags_of r) same (book_of b) typed in
    (rw (eq, er, e.0, e.1) (go (judge_of b) (decided_with (decides (bags_of r) (book_of b)) (length (obliges (bags_of r) (book_of b))))), e.1)
  where
    go : (j : Judged) (a : Outcome) → in_order j (Ok n) room a ≡ in_order j (Ok m) room a
    go (Err x) a = refl
    go (Ok x) a = refl
