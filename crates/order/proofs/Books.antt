-- The claims of specs/Books.antt: row by row. Assumes nothing.
use Prim.Native.Nat.{ℕ, ◌<◌}
use mathlib.Core.Path.{◌≡◌, refl, sym, ◌∙◌}
use mathlib.Core.Bool.{Bool}
use mathlib.Core.List.{List}
use mathlib.Core.Logic.{⊎_elim}
use native.Mathlib.Nat.{eq-or-lt_of_le}
use native.Mathlib.Omega.{arith}
use Rattle.fields.specs.Fields.{obligations_of}
use Rattle.meaning.specs.Policy.{Tree}
use Rattle.meaning.specs.Reading.{book_of, bags_of}
use Rattle.placement.specs.Keeps.{Keeps}
use Rattle.judge.proofs.Exactly.{accepted_keeps, kept_is_accepted}
use Rattle.order.specs.Rearranged.{Rearranged}
use Rattle.order.specs.Rearranged as tree
use Rattle.order.specs.Books.{RowReordered, RearrangedBook, as_is, reorders, RearrangedIsAccepted, RearrangedIsRead, BookKeepsDecision, BookKeepsAnswer, BookKeepsNumbers}
use Rattle.order.specs.Stays.{keeps_decision, keeps_answer}
use Rattle.order.proofs.Stays.{decision_stays, answer_stays, numbers_stay}
use Rattle.order.proofs.Moved.{row_upto, row_moved, row_none, row_whole}
use Rattle.order.proofs.Levels.{book_turned}

-- what a rearranged book is
record Kept (may : Tree → Bool) (b c : List ℕ) (n : ℕ) : Type 0 where
  pub keeps : Keeps c n
  pub owes : obligations_of c n ≡ obligations_of b n
  pub tree : Rearranged may (book_of b) (book_of c)

same_kept : (may : Tree → Bool) (b c : List ℕ) (n : ℕ) → Keeps b n → c ≡ b → Kept may b c n
same_kept may b c n k e = rw e (record { keeps = k; owes = refl; tree = tree.as_is })

row_kept : (may : Tree → Bool) (b c : List ℕ) (n : ℕ) → Keeps b n → RowReordered may b c → Kept may b c n
row_kept may b c n k w =
    ⊎_elim (λ (q : w.first ≡ w.last). same_kept may b c n k (row_none b c n k w.row w.reordered w.bytes q))
    (λ (l : w.first < w.last).
    ⊎_elim (λ (q : 0 ≡ w.first). same_kept may b c n k (row_whole b c n k w.row w.reordered w.bytes (sym q)))
    (λ (z : 0 < w.first).
    let m = row_moved b c n k w.row w.reordered w.bytes z l in
    let t = book_turned may b c m w.lets k in
    record { keeps = t.0; owes = m.owes; tree = t.1 })
    (eq-or-lt_of_le (omega arith)))
    (eq-or-lt_of_le (row_upto b w.parent w.row))

book_kept : (may : Tree → Bool) {b c : List ℕ} (n : ℕ) → Keeps b n → RearrangedBook may b c → Kept may b c n
book_kept may n k as_is = record { keeps = k; owes = refl; tree = tree.as_is }
book_kept may n k (reorders {b = b} {c = c} w r) =
    let x = row_kept may b c n k w in
    let y = book_kept may n x.keeps r in
    record { keeps = y.keeps; owes = y.owes ∙ x.owes; tree = tree.then x.tree y.tree }

pub rearranged_is_accepted : RearrangedIsAccepted
rearranged_is_accepted may b c n o r e =
    let w = accepted_keeps b n o e in
    let z = book_kept may n w.0 r in
    rw (w.1, ← z.owes) (kept_is_accepted c n z.keeps)

pub rearranged_is_read : RearrangedIsRead
rearranged_is_read may b c n o r e = (book_kept may n (accepted_keeps b n o e).0 r).tree

pub book_keeps_decision : BookKeepsDecision
book_keeps_decision b c q n o e r = decision_stays (book_of b) (book_of c) (rearranged_is_read keeps_decision b c n o r e) (bags_of q)

pub book_keeps_answer : BookKeepsAnswer
book_keeps_answer b c q n o e r = answer_stays (book_of b) (book_of c) (rearranged_is_read keeps_answer b c n o r e) (bags_of q)

pub book_keeps_numbers : BookKeepsNumbers
book_keeps_numbers b c q n o e r = numbers_stay (bags_of q) (book_of b) (book_of c) (rearranged_is_read _ b c n o r e)
