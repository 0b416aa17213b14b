-- What a caller knows by the answer of `salvage`: the claims of `specs/Caller.antt`. Assumes nothing.
use Rattle.std.specs.Prelude.{Err}
use mathlib.Core.Path.{◌≡◌, refl, sym, ap, ◌∙◌}
use mathlib.Core.List.{List, []}
use Prim.Native.Nat.{ℕ, ◌-◌, ◌*◌, ◌/◌, ◌%◌, ◌≤◌, ◌<◌}
use native.Mathlib.Omega.{arith}
use lib.Dec.{eqb, ltb}
use lib.ListN.{length, drop}
use lib.Seq.{take_at}
use borrow.Author.Tests.{le-ltb, eqb-false, ltb-false}
use Rattle.record.specs.Choose.{either}
use Rattle.record.specs.Bytes.{size, most_records}
use Rattle.record.specs.Refusals.{part_number, number_of, part_of, line_of, book, no_record, cut_short, too_many, no_room, spoilt}
use Rattle.record.specs.declared.Refusal.{Refusal}
use Rattle.fields.specs.Fields.{obligations_of}
use Rattle.fields.proofs.First.{by}
use Rattle.placement.specs.Keeps.{Sized}
use Rattle.judge.specs.Judge.{judge_of, accepted_with}
use Rattle.judge.proofs.Exactly.{sized_is}
use Rattle.structure.specs.Subtrees.{Subtrees, record_count, subtrees_of, bytes_of}
use Rattle.structure.specs.Sound.{line_one}
use Rattle.structure.proofs.Subtrees.{count_subtrees}
use Rattle.mending.specs.Mending.{Replacement, Salvage, Mended, Spoilt, salvage_of}
use Rattle.mending.specs.Salvaged.{answer_by, answer_of, records_in, leaves, mended_out, Salvaged, mended_with}
use Rattle.mending.specs.declared.Counts.{Counts}
use Rattle.mending.specs.Claims.{Spoils, line_one_spoils, later_spoils}
use Rattle.mending.specs.Caller.{left, SalvagedIsAccepted, SalvagedOnce, SpoilsIsTold, ToldSpoils, Within, AnswersWithin}
use Rattle.mending.proofs.Mended.{count_replaced}
use Rattle.mending.proofs.Answers.{answer}
use Rattle.mending.proofs.Kept.{mended_is_kept, mended_once}
use Rattle.mending.proofs.Exactly.{spoilt_spoils, spoils_is_spoilt}
use Rattle.mending.proofs.Answering.{sized_answer}

-- what is answered, by whether there are n records and what salvage makes of them: another refusal, of no line; 13; or the book mended
pub data Told (b : List ℕ) (n : ℕ) (a : Salvaged) : Type 0 where
  told_other : (r : Refusal) → a ≡ Err r → number_of r < 13 → part_number (part_of r) ≤ 3 → line_of r ≡ 0 → Told b n a
  told_line : (line : ℕ) → a ≡ Err (spoilt line) → Sized b n → salvage_of b n ≡ Spoilt line → Told b n a
  told_mended : (x : Subtrees) (xs : List Replacement) → a ≡ mended_with (record_count x) (length xs) → Sized b n → salvage_of b n ≡ Mended x xs → Told b n a

told_by : (b : List ℕ) (n room places : ℕ) → Sized b n → (s : Salvage) → salvage_of b n ≡ s → Told b n (answer_by s n room places)
unfolding answer_by
told_by b n room places sized (Spoilt line) e = told_line line refl sized e
told_by b n room places sized (Mended x xs) e =
    by (either (ltb room (n * size)) (ltb places (n * 2))) (λ t. rw t (told_other no_room refl (omega arith) (omega arith) refl)) (λ t. rw t (told_mended x xs refl sized e))

pub told : (b : List ℕ) (room places : ℕ) → Told b (length b / size) (answer_of b room places)
unfolding answer_of
told b room places =
    by (eqb (length b) 0) (λ t. rw t (told_other (no_record book) refl (omega arith) (omega arith) refl))
    (λ t. by (ltb 0 (length b % size)) (λ u. rw (t, u) (told_other (cut_short book) refl (omega arith) (omega arith) refl))
    (λ u. by (ltb (most_records * size) (length b)) (λ v. rw (t, u, v) (told_other (too_many book) refl (omega arith) (omega arith) refl))
    (λ v. let whole = ltb-false 0 (length b % size) u in
    let sized = sized_is b (eqb-false (length b) 0 t) (omega arith) (ltb-false (most_records * size) (length b) v) in
    rw (t, u, v) (told_by b (length b / size) room places sized (salvage_of b (length b / size)) refl))))

-- an answer is one of the two
pub not_mended : {A : Type 0} {n m : ℕ} {r : Refusal} → Err r ≡ mended_with n m → A
not_mended e = let z : ◌≡◌ {A = ℕ} 0 1 = cc in absurd (omega arith)

same_refusal : (r s : Refusal) → ◌≡◌ {A = Salvaged} (Err r) (Err s) → r ≡ s
same_refusal r s e = cc

pub same_counts : (k j n m : ℕ) → mended_with k j ≡ mended_with n m → (k ≡ n) × (j ≡ m)
same_counts k j n m e =
    let c : ◌≡◌ {A = Counts} (record { records = k; replacements = j }) (record { records = n; replacements = m }) = cc in
    (ap (λ (x : Counts). x.records) c, ap (λ (x : Counts). x.replacements) c)

-- n mended records: they are accepted, and stay as they are when they are mended again
record Mends (b : List ℕ) (n : ℕ) : Type 0 where
  tree : Subtrees
  count : record_count tree ≡ n
  is : records_in (salvage_of b (length b / size)) ≡ bytes_of tree
  sized : Sized (bytes_of tree) n
  accepted : judge_of (bytes_of tree) ≡ accepted_with n (obligations_of (bytes_of tree) n)
  stays : salvage_of (bytes_of tree) n ≡ Mended tree []

mends_of : (b : List ℕ) (room places n m : ℕ) → answer_of b room places ≡ mended_with n m → Mends b n
unfolding records_in
mends_of b room places n m h = go (told b room places)
  where
    go : Told b (length b / size) (answer_of b room places) → Mends b n
    go (told_other r e l p z) = not_mended (sym e ∙ h)
    go (told_line line e sz s) = not_mended (sym e ∙ h)
    go (told_mended x xs e sz s) =
        let q : record_count x ≡ n = (same_counts (record_count x) (length xs) n m (sym e ∙ h)).0 in
        let k = mended_is_kept b (length b / size) sz x xs s in
        let t = mended_once b (length b / size) sz x xs s in
        record { tree = x; count = q; is = rw s refl; sized = rw q at k.0.sized; accepted = rw q at k.1; stays = rw q at t }

-- they are left first in the output
left_is : (b out : List ℕ) (n m : ℕ) (w : Mends b n) → left b n m out ≡ bytes_of w.tree
unfolding leaves mended_out
left_is b out n m w = rw w.is (take_at (bytes_of w.tree) (drop (length (bytes_of w.tree)) out) (n * size) w.sized.bytes)

pub salvaged_is_accepted : SalvagedIsAccepted
salvaged_is_accepted b out places n m e =
    let w = mends_of b (length out) places n m e in
    rw (left_is b out n m w) (w.sized.bytes, w.accepted)

-- a book that stays as it is
again : (x : Subtrees) (n : ℕ) → record_count x ≡ n → Sized (bytes_of x) n → salvage_of (bytes_of x) n ≡ Mended x [] → (room more : ℕ) → n * size ≤ room → n * 2 ≤ more
    → (answer_of (bytes_of x) room more ≡ mended_with n 0) × (records_in (salvage_of (bytes_of x) n) ≡ bytes_of x)
unfolding answer_by records_in
again x n q sized s room more l h =
    (sized_answer (bytes_of x) n room more sized ∙ rw (s, le-ltb room (n * size) l, le-ltb more (n * 2) h, q) refl, rw s refl)

pub salvaged_once : SalvagedOnce
salvaged_once b out places n m e =
    let w = mends_of b (length out) places n m e in
    rw (left_is b out n m w) (again w.tree n w.count w.sized w.stays)

-- 13, and its line
pub spoils_is_told : SpoilsIsTold
unfolding answer_by
spoils_is_told b n line sized s room places = sized_answer b n room places sized ∙ rw (spoils_is_spoilt b n line s) refl

pub told_spoils : ToldSpoils
told_spoils b line room places h = go (told b room places)
  where
    go : Told b (length b / size) (answer_of b room places) → Sized b (length b / size) × Spoils b (length b / size) line
    go (told_other r e l p z) = absurd (omega (arith, ap number_of (same_refusal r (spoilt line) (sym e ∙ h)), l))
    go (told_line k e sz s) =
        let q : k ≡ line = ap line_of (same_refusal (spoilt k) (spoilt line) (sym e ∙ h)) in
        (sz, rw q at (spoilt_spoils b (length b / size) k s))
    go (told_mended x xs e sz s) = not_mended (sym h ∙ e)

-- how large the line is, and how many are replaced
line_within : (b : List ℕ) (n line : ℕ) → Sized b n → Spoils b n line → line ≤ n
line_within b n line s (line_one_spoils q t) = omega (arith, s.some)
line_within b n line s (later_spoils k q t w) = omega (arith, w.inside)

list_within : (b : List ℕ) (n : ℕ) (x : Subtrees) (xs : List Replacement) → salvage_of b n ≡ Mended x xs → length xs ≤ n - 1
list_within b n x xs e = rw ((answer b n x xs e).list, count_subtrees b 1 (n - 1)) at (count_replaced (line_one b) 2 (subtrees_of b 1 (n - 1)))

pub answers_within : AnswersWithin
answers_within b room places = go (told b room places)
  where
    n : ℕ
    n = length b / size

    go : Told b n (answer_of b room places) → Within (answer_of b room places)
    go (told_other r e l p z) = rw e (omega arith, p, omega arith)
    go (told_line line e sz s) = rw e (omega arith, omega arith, omega (arith, line_within b n line sz (spoilt_spoils b n line s), sz.most))
    go (told_mended x xs e sz s) = rw e (omega (arith, (mended_is_kept b n sz x xs s).2, sz.most), omega (arith, list_within b n x xs s, sz.most))
