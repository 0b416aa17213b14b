-- A book's judgement, exactly when: the theorems of `specs/Exactly.antt`. Assumes nothing.
use Rattle.std.specs.Prelude.{Ok, Err}
use mathlib.Core.Path.{◌≡◌, refl, sym, ap, ◌∙◌}
use mathlib.Core.Bool.{Bool}
use mathlib.Core.List.{List}
use Prim.Native.Nat.{ℕ, ◌+◌, ◌*◌, ◌/◌, ◌%◌, ◌≤◌, ◌<◌}
use native.Mathlib.Omega.{arith}
use lib.Dec.{ltb, eqb}
use lib.ListN.{length}
use borrow.Author.Tests.{lt-ltb, le-ltb, ltb-true, ltb-false, eq-eqb, ne_eqb, eqb-true, eqb-false}
use Rattle.record.specs.Bytes.{size, most_records}
use Rattle.record.specs.Refusals.{book, no_record, cut_short, too_many, bad_field, bad_place}
use Rattle.record.specs.declared.Refusal.{Refusal}
use Rattle.fields.specs.First.{first_from}
use Rattle.fields.specs.Fields.{field_ok, obligations_of}
use Rattle.fields.proofs.First.{by, first_before, first_fails, first_is, first_reach}
use Rattle.placement.specs.Place.{place_ok, broken_at}
use Rattle.judge.specs.Judge.{first_field, first_place, judge_records, judge_of, Judged, accepted_with}
use Rattle.judge.specs.declared.Accepted.{Accepted}
use Rattle.placement.specs.Keeps.{AllKeep, FirstToBreak, Sized, Keeps}
use Rattle.judge.specs.Exactly.{KeptTo, Breaks, empty, cut, many, field, top, past, misplaced, deep, AcceptedKeeps, KeptIsAccepted, RefusedBreaks, BrokenIsRefused}
use Rattle.judge.proofs.Answers.{some_ltb, none_ltb}
use Rattle.judge.proofs.Broken.{nine, ten, eleven, twelve, broken_breaks}

absurd_judged : {A : Type 0} {n m : ℕ} {r : Refusal} → accepted_with n m ≡ Err r → A
absurd_judged e = let z : ◌≡◌ {A = ℕ} 0 1 = cc in absurd (omega arith)

pub same_accepted : {a c : Accepted} → ◌≡◌ {A = Judged} (Ok a) (Ok c) → a ≡ c
same_accepted e = cc

-- one of n fails, or all pass
pub first_break : (f : ℕ → Bool) (n : ℕ) → first_from f 0 n < n → FirstToBreak f n (first_from f 0 n)
first_break f n h = record { inside = h; breaks = first_fails f 0 n (omega arith); before = λ j z. first_before f 0 n j (omega arith) z }

pub break_first : (f : ℕ → Bool) (n i : ℕ) → FirstToBreak f n i → first_from f 0 n ≡ i
break_first f n i w = first_is f 0 n i (omega arith) (omega (arith, w.inside)) w.breaks (λ j a z. w.before j z)

pub all_keep : (f : ℕ → Bool) (n : ℕ) → n ≤ first_from f 0 n → AllKeep f n
all_keep f n h i z = first_before f 0 n i (omega arith) (omega arith)

-- the bytes of n records
pub sized_is : (b : List ℕ) → (length b ≡ 0 → ⊥) → length b % size ≡ 0 → length b ≤ most_records * size → Sized b (length b / size)
sized_is b h e l = record { bytes = omega arith; some = omega arith; most = omega arith }

-- what is answered of n records
data Answer (b : List ℕ) (j : Judged) : Type 0 where
  accepted : (n : ℕ) → j ≡ accepted_with n (obligations_of b n) → Keeps b n → Answer b j
  refused : (r : Refusal) → j ≡ Err r → Breaks b r → Answer b j

records_answer : (b : List ℕ) (n : ℕ) → Sized b n → Answer b (judge_records b n)
unfolding judge_records
records_answer b n s =
    by (ltb (first_field b n) n)
    (λ t. let l = ltb-true (first_field b n) n t in refused (bad_field book (first_field b n + 1)) (rw t) (field n (first_field b n) refl s (first_break (field_ok b) n l)))
    (λ t. let k = all_keep (field_ok b) n (ltb-false (first_field b n) n t) in
    by (ltb (first_place b n) n)
    (λ u. let i : ℕ = first_place b n in
    let w = first_break (place_ok b) n (ltb-true i n u) in
    refused (bad_place (broken_at b i) (i + 1)) (rw (t, u)) (broken_breaks b (record { sized = s; fields = k; inside = w.inside; before = w.before }) w.breaks))
    (λ u. accepted n (rw (t, u)) (record { sized = s; fields = k; places = all_keep (place_ok b) n (ltb-false (first_place b n) n u) })))

answer : (b : List ℕ) → Answer b (judge_of b)
unfolding judge_of
answer b =
    by (eqb (length b) 0) (λ t. refused (no_record book) (rw t) (empty refl (eqb-true (length b) 0 t)))
    (λ t. by (ltb 0 (length b % size))
    (λ u. let l = ltb-true 0 (length b % size) u in refused (cut_short book) (rw (t, u)) (cut refl (λ e. omega arith)))
    (λ u. let e : length b % size ≡ 0 = omega (arith, ltb-false 0 (length b % size) u) in
    by (ltb (most_records * size) (length b))
    (λ v. refused (too_many book) (rw (t, u, v)) (many refl e (ltb-true (most_records * size) (length b) v)))
    (λ v. rw (t, u, v) (records_answer b (length b / size) (sized_is b (eqb-false (length b) 0 t) e (ltb-false (most_records * size) (length b) v))))))

pub accepted_keeps : AcceptedKeeps
accepted_keeps b n m e = go (answer b)
  where
    go : Answer b (judge_of b) → Keeps b n × (m ≡ obligations_of b n)
    go (accepted k x w) =
        let y = same_accepted (sym e ∙ x) in
        let z : k ≡ n = sym (ap (λ (a : Accepted). a.records) y) in
        let v : m ≡ obligations_of b k = ap (λ (a : Accepted). a.obligations) y in
        (rw z at w, rw z at v)
    go (refused r x w) = absurd_judged (sym e ∙ x)

pub refused_breaks : RefusedBreaks
refused_breaks b r e = go (answer b)
  where
    go : Answer b (judge_of b) → Breaks b r
    go (accepted k x w) = absurd_judged (sym x ∙ e)
    go (refused s x w) =
        let y : Err s ≡ Err r = sym x ∙ e in
        let z : s ≡ r = cc in
        rw z at w

-- the tests of bytes that n records have
sized_judged : (b : List ℕ) (n : ℕ) → Sized b n → judge_of b ≡ judge_records b n
unfolding judge_of
sized_judged b n s =
    let m : length b / size ≡ n = omega (arith, s.bytes) in
    rw (
      ne_eqb (length b) 0 (λ x. omega (arith, s.bytes, s.some)),
      none_ltb (length b % size) (omega (arith, s.bytes)),
      le-ltb (most_records * size) (length b) (omega (arith, s.bytes, s.most)),
      m,
    )

pub kept_is_accepted : KeptIsAccepted
unfolding judge_records
kept_is_accepted b n k =
    sized_judged b n k.sized
    ∙ rw (le-ltb (first_field b n) n (first_reach (field_ok b) n k.fields), le-ltb (first_place b n) n (first_reach (place_ok b) n k.places))

-- the first line that breaks a place rule, by the rule's number
place_refused : (b : List ℕ) {r : Refusal} {n i rule : ℕ} → r ≡ bad_place rule (i + 1) → KeptTo b n i → broken_at b i ≡ rule → 0 < rule → judge_of b ≡ Err r
unfolding judge_records place_ok
place_refused b {r} {n} {i} er k e h =
    let w : FirstToBreak (place_ok b) n i = record { inside = k.inside; breaks = ne_eqb (broken_at b i) 0 (λ z. omega arith); before = k.before } in
    sized_judged b n k.sized ∙ rw (er, le-ltb (first_field b n) n (first_reach (field_ok b) n k.fields), break_first (place_ok b) n i w, lt-ltb i n k.inside, e)

pub broken_is_refused : BrokenIsRefused
unfolding judge_of judge_records
broken_is_refused b r (empty er e) = rw (er, eq-eqb (length b) 0 e)
broken_is_refused b r (cut er e) = rw (er, ne_eqb (length b) 0 (λ x. e (omega arith)), some_ltb (length b % size) e)
broken_is_refused b r (many er e l) = rw (er, ne_eqb (length b) 0 (λ x. omega arith), none_ltb (length b % size) e, lt-ltb (most_records * size) (length b) l)
broken_is_refused b r (field n i er s w) =
    sized_judged b n s ∙ rw (er, break_first (field_ok b) n i w, lt-ltb i n w.inside)
broken_is_refused b r (top n er k t) = place_refused b er k (nine b t) (omega arith)
broken_is_refused b r (past n i er k h l) = place_refused b er k (ten b k h l) (omega arith)
broken_is_refused b r (misplaced n i er k h w x) = place_refused b er k (eleven b k h w x) (omega arith)
broken_is_refused b r (deep n i er k h w a l) = place_refused b er k (twelve b k h w a l) (omega arith)
