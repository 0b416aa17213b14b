-- The claims of specs/Refuses.antt. Assumes nothing.
use Rattle.std.specs.Prelude.{Err, Ok}
use Prim.Native.Nat.{ℕ, ◌/◌, ◌<◌}
use mathlib.Core.Path.{◌≡◌, refl, ap, ◌∙◌}
use mathlib.Core.Bool.{Bool, true, false}
use mathlib.Core.List.{List}
use lib.Dec.{ltb}
use lib.ListN.{length}
use native.Mathlib.Omega.{arith}
use Rattle.record.specs.Choose.{if}
use Rattle.record.specs.Bytes.{most_records, most_entries}
use Rattle.record.specs.Refusals.{book, request, part_number, number_of, part_of, line_of, no_room, refusal_number}
use Rattle.record.specs.declared.Refusal.{Refusal}
use Rattle.meaning.specs.declared.Verdict.{Verdict}
use Rattle.judge.specs.Judge.{judge_of, Judged, accepted_with}
use Rattle.judge.specs.Request.{judge_request_of, JudgedRequest}
use Rattle.judge.specs.Exactly as exactly
use Rattle.judge.specs.Exactly.{Breaks, empty, top, past, misplaced, deep}
use Rattle.judge.specs.ExactlyRequest.{BreaksRequest, cut, many, field}
use Rattle.judge.proofs.Bounds.{Small, refused_small, refused_request_small}
use Rattle.judge.proofs.Exactly.{refused_breaks, broken_is_refused}
use Rattle.judge.proofs.ExactlyRequest.{refused_request_breaks}
use Rattle.decider.specs.Outcome.{in_order, outcome_of, decided_with}
use Rattle.host.specs.Host.{host_number, host_outcome, host_out}
use Rattle.translator.specs.Translate.{programme_of, answer_to, translate_of, room_for}
use Rattle.rig.specs.Rig.{translated_number}
use Rattle.meaning.specs.Meaning.{decision_in}
use Rattle.meaning.proofs.Small.{number_small}
use Rattle.calls.specs.Refuses.{BrokenIsTold, told, BrokenAt, ToldIsBroken}

pub broken_is_told : BrokenIsTold
unfolding host_outcome host_out outcome_of translate_of
broken_is_told b r w =
    let e = broken_is_refused b r w in
    (λ q out. (rw e refl, rw e refl), λ buffer. (rw e refl, rw e refl))

-- what is refused of the book is of that part
book_part : {b : List ℕ} {r : Refusal} → Breaks b r → part_of r ≡ book
book_part (empty er e) = rw er refl
book_part (exactly.cut er e) = rw er refl
book_part (exactly.many er e l) = rw er refl
book_part (exactly.field n i er s w) = rw er refl
book_part (top n er k t) = rw er refl
book_part (past n i er k h l) = rw er refl
book_part (misplaced n i er k h w x) = rw er refl
book_part (deep n i er k h w a l) = rw er refl

-- what is refused beside the book is of another part
request_part : {q : List ℕ} {r : Refusal} → BreaksRequest q r → part_of r ≡ request
request_part (cut er e) = rw er refl
request_part (many er e l) = rw er refl
request_part (field n i er s w) = rw er refl

-- such a refusal's number is not one of the book
not_told : {q : List ℕ} {r : Refusal} (number line : ℕ) → BreaksRequest q r → number < 256 → line < 65536 → Small q r most_entries
    → refusal_number r ≡ told number line → ⊥
not_told {r = r} number line w n l s v = let p : part_number (part_of r) ≡ 2 = ap part_number (request_part w) in omega (arith, p, s.number, s.line, n, l, v)

module _ (b : List ℕ) (number line : ℕ) (n : number < 256) (l : line < 65536) where
  book_told : {r : Refusal} → judge_of b ≡ Err r → refusal_number r ≡ told number line → BrokenAt b number line
  book_told {r} e v =
      let w = refused_breaks b r e in
      let s = refused_small b r e in
      let p : part_number (part_of r) ≡ 1 = ap part_number (book_part w) in
      let y : line_of r ≡ line = omega (arith, s.number, n, v, p) in
      record { refusal = r; breaks = w; part = book_part w; number_is = omega (arith, v, p, y); line_is = y }

  host_told : (q : List ℕ) (x : Judged) (y : JudgedRequest) (room : ℕ) (d : Verdict) (m : ℕ) → judge_of b ≡ x → judge_request_of q ≡ y
      → host_number (in_order x y room (decided_with d m)) ≡ told number line → BrokenAt b number line
  host_told q (Err r) y room d m e f v = book_told e v
  host_told q (Ok a) (Err r) room d m e f v = absurd (not_told number line (refused_request_breaks q r f) n l (refused_request_small q r f) v)
  host_told q (Ok a) (Ok j) room d m e f v = go (ltb room a.obligations) v
    where
      go : (u : Bool) → host_number (if u (Err no_room) (decided_with d m)) ≡ told number line → BrokenAt b number line
      go true v = absurd (omega (arith, n, l, v))
      go false v = absurd (omega (arith, v, number_small (decision_in d)))

  rig_told : (x : Judged) (room : ℕ) → judge_of b ≡ x → translated_number (answer_to x b room) ≡ told number line → BrokenAt b number line
  rig_told (Err r) room e v = book_told e v
  rig_told (Ok a) room e v = go (ltb room (room_for a.records)) v
    where
      go : (u : Bool) → translated_number (if u (Err no_room) (Ok (length (programme_of b)))) ≡ told number line → BrokenAt b number line
      go true v = absurd (omega (arith, n, l, v))
      go false v = absurd (omega (arith, v))

pub told_is_broken : ToldIsBroken
unfolding host_outcome outcome_of translate_of
told_is_broken b number line n l = (
  λ q out v. host_told b number line n l q (judge_of b) (judge_request_of q) (length out / 2) _ _ refl refl v,
  λ buffer v. rig_told b number line n l (judge_of b) (length buffer) refl v,
)
