use Rattle.std.specs.Prelude.{Err, Ok}
use mathlib.Core.Path.{◌≡◌, refl, sym, ap, ◌∙◌}
use mathlib.Core.List.{List}
use Prim.Native.Nat.{ℕ, ◌≤◌, ◌<◌}
use native.Mathlib.Omega.{arith}
use native.Mathlib.Nat.{zero-add}
use lib.ListN.{length}
use lib.Seq.{sets, sets-eq}
use borrow.Author.Tests.{lt-ltb, le-ltb}
use Rattle.std.proofs.lemmas.Grind.{common_steps}
use Rattle.record.specs.Refusals.{no_room}
use Rattle.record.specs.declared.Refusal.{Refusal}
use Rattle.judge.specs.Judge.{judge_of}
use Rattle.judge.specs.declared.Accepted.{Accepted}
use Rattle.judge.proofs.Exactly.{accepted_keeps}
use Rattle.meaning.specs.Reading.{book_of}
use Rattle.code.specs.Code.{translated, in_numbers}
use Rattle.emission.specs.Emit.{Emitted}
use Rattle.translator.specs.Translate.{programme_of, room_for, translate_of, leaves}
use Rattle.translator.proofs.translate.Goals as goal

-- the three answers
is-refused : (b : List ℕ) (room : ℕ) {r : Refusal} → judge_of b ≡ Err r → Err r ≡ translate_of b room
unfolding translate_of
is-refused b room e = rw e refl

is-short : (b : List ℕ) (room : ℕ) {a : Accepted} → judge_of b ≡ Ok a → room < room_for a.records → Err no_room ≡ translate_of b room
unfolding translate_of
is-short b room {a} e l = rw (e, lt-ltb room (room_for a.records) l) refl

is-written : (b : List ℕ) {a : Accepted} {k start : ℕ} {o o₁ : List ℕ} → judge_of b ≡ Ok a → room_for a.records ≤ length o → k ≡ length (translated (book_of b)) → k ≤ room_for a.records
    → Emitted (translated (book_of b)) k o o₁ start → (Ok k ≡ translate_of b (length o)) × (o₁ ≡ leaves (Ok k) b o)
unfolding translate_of programme_of
is-written b {a} {k} {start} {o} {o₁} e l f h g =
    let w : k ≡ length (in_numbers (translated (book_of b))) = f ∙ sym g.wide in
    let z : start ≡ 0 = omega (arith, f, g.starts) in
    let v : o₁ ≡ sets o 0 (in_numbers (translated (book_of b))) = rw z at g.wrote in (
      rw (e, le-ltb (length o) (room_for a.records) l) (ap Ok w),
      v ∙ sets-eq (in_numbers (translated (book_of b))) o 0 (omega (arith, w, l, h)) ∙ rw (zero-add (length (in_numbers (translated (book_of b)))), ← w) refl,
    )

pub overflow_mul-records : goal.overflow_mul-records
overflow_mul-records c = omega (arith, ((accepted_keeps _ _ _ (sym c.judge_book.ensures ∙ c.in_ok-records.was)).0.sized).most)

pub overflow_add-records : goal.overflow_add-records
overflow_add-records c = omega (arith, ((accepted_keeps _ _ _ (sym c.judge_book.ensures ∙ c.in_ok-records.was)).0.sized).most)

pub returns-then-out-records : goal.returns-then-out-records
returns-then-out-records c =
    (is-short _ _ (sym c.judge_book.ensures ∙ c.in_ok-records.was) (omega (arith, c.if-out-records.true)), refl)

pub write-requires : goal.write-requires
write-requires c = let k = (accepted_keeps _ _ _ (sym c.judge_book.ensures ∙ c.in_ok-records.was)).0.sized in (k.some, k.most, k.bytes, omega (arith, c.if-out-records.false))

pub returns-in_err-records : goal.returns-in_err-records
returns-in_err-records c =
    let e : c.from_residual.result ≡ Err c.in_err-records.field-0.0 = grind (arith, common_steps) in
    rw e (is-refused _ _ (sym c.judge_book.ensures ∙ c.in_err-records.was), refl)

pub returns : goal.returns
returns c =
    is-written _ (sym c.judge_book.ensures ∙ c.in_ok-records.was) (omega (arith, c.if-out-records.false)) c.write.ensures.0 c.write.ensures.1 c.write.ensures.2
