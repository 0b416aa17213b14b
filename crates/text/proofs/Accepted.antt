-- What holds of an accepted text and of accepted records: `read_of` and `write_of` turned round, and how large an answer can be. Assumes nothing.
use Rattle.std.specs.Prelude.{Err, Ok}
use mathlib.Core.Path.{◌≡◌, refl, sym, ap, ◌∙◌}
use mathlib.Core.Bool.{Bool, true, false}
use mathlib.Core.List.{List}
use Prim.Native.Nat.{ℕ, zero, suc, ◌*◌, ◌/◌, ◌%◌, ◌≤◌}
use native.Mathlib.Omega.{arith}
use borrow.Author.Tests.{ltb-false, ne_eqb}
use lib.Dec.{ltb}
use lib.ListN.{length, take}
use lib.Seq.{take_at}
use Rattle.record.specs.Bytes.{size}
use Rattle.record.specs.Choose.{if}
use Rattle.record.specs.Refusals.{too_many, no_record, cut_short, no_room}
use Rattle.record.specs.Table.{tab}
use Rattle.record.proofs.Table.{length_tab}
use Rattle.record.specs.declared.Refusal.{Refusal}
use Rattle.text.specs.Text.{missing, line_length, width, judge_from, read_of, read_judged, write_of, output_after, Filled, Judged}
use Rattle.text.specs.declared.Kind.{Kind}
use Rattle.text.specs.declared.Fault.TheVariants.{Wrong, Over}

no_places : (r : Refusal) (m : ℕ) → Err r ≡ Ok m → ⊥
no_places r m e = let z : ◌≡◌ {A = ℕ} 0 1 = cc in omega arith

-- lines or bytes, there is nothing or there is something
pub missing_lines : (k : Kind) (n : ℕ) → missing k (size * n) ≡ missing k n
missing_lines k zero = refl
missing_lines k (suc n) = ap (λ (b : Bool). if k.empty false b) (ne_eqb (size * suc n) 0 (omega arith) ∙ sym (ne_eqb (suc n) 0 (omega arith)))

pub record WasRead (k : Kind) (room : ℕ) (j : Judged) (m : ℕ) : Type 0 where
  pub n : ℕ
  pub judged : j ≡ Ok n
  pub some : missing k n ≡ false
  pub fits : m ≤ room
  pub is : m ≡ size * n

read_by_lem : (k : Kind) (n room m : ℕ) (a b : Bool) → missing k n ≡ a → ltb room (size * n) ≡ b
    → if a (Err (no_record k.part)) (if b (Err no_room) (Ok (size * n))) ≡ Ok m → WasRead k room (Ok n) m
read_by_lem k n room m true b p q e = absurd (no_places _ m e)
read_by_lem k n room m false true p q e = absurd (no_places _ m e)
read_by_lem k n room m false false p q e =
    let i : m ≡ size * n = cc in
    record { n = n; judged = refl; some = p; fits = omega (arith, ltb-false room (size * n) q); is = i }

was_judged : (k : Kind) (j : Judged) (room m : ℕ) → read_judged k j room ≡ Ok m → WasRead k room j m
unfolding read_judged
was_judged k (Ok n) room m e = read_by_lem k n room m (missing k n) (ltb room (size * n)) refl refl e
was_judged k (Err (Wrong l)) room m e = absurd (no_places _ m e)
was_judged k (Err Over) room m e = absurd (no_places _ m e)

pub was_read : (k : Kind) (s : List ℕ) (room m : ℕ) → read_of k s room ≡ Ok m → WasRead k room (judge_from (width s) s k.most 0) m
unfolding read_of
was_read k s room m e = was_judged k (judge_from (width s) s k.most 0) room m e

pub read_fits : (k : Kind) (s : List ℕ) (room m : ℕ) {a : Filled} → a ≡ read_of k s room → a ≡ Ok m → m ≤ room
read_fits k s room m p q = (was_read k s room m (sym p ∙ q)).fits

-- what was filled stands first in the output
pub filled_first : (f : ℕ → ℕ) (out : List ℕ) (m : ℕ) {a : Filled} {later : List ℕ} → later ≡ output_after f a out → a ≡ Ok m → take m later ≡ tab f m
unfolding output_after
filled_first f out m e p = rw (e, p) (take_at (tab f m) _ m (length_tab f m))

pub record WasWritten (k : Kind) (room : ℕ) (r : List ℕ) (m : ℕ) : Type 0 where
  pub some : missing k (length r) ≡ false
  pub whole : length r % size ≤ 0
  pub few : length r / size ≤ k.most
  pub fits : m ≤ room
  pub is : m ≡ line_length size * (length r / size)

written_by : (k : Kind) (r : List ℕ) (room m : ℕ) (a b c d : Bool) → missing k (length r) ≡ a → ltb 0 (length r % size) ≡ b → ltb k.most (length r / size) ≡ c → ltb room (line_length size * (length r / size)) ≡ d
    → if a (Err (no_record k.part)) (if b (Err (cut_short k.part)) (if c (Err (too_many k.part)) (if d (Err no_room) (Ok (line_length size * (length r / size)))))) ≡ Ok m → WasWritten k room r m
written_by k r room m true b c d p q s t e = absurd (no_places _ m e)
written_by k r room m false true c d p q s t e = absurd (no_places _ m e)
written_by k r room m false false true d p q s t e = absurd (no_places _ m e)
written_by k r room m false false false true p q s t e = absurd (no_places _ m e)
written_by k r room m false false false false p q s t e =
    let i : m ≡ line_length size * (length r / size) = cc in
    record { some = p; whole = ltb-false 0 (length r % size) q; few = ltb-false k.most (length r / size) s; fits = omega (arith, ltb-false room (line_length size * (length r / size)) t); is = i }

pub was_written : (k : Kind) (r : List ℕ) (room m : ℕ) → write_of k r room ≡ Ok m → WasWritten k room r m
unfolding write_of
was_written k r room m e =
    written_by k r room m (missing k (length r)) (ltb 0 (length r % size)) (ltb k.most (length r / size)) (ltb room (line_length size * (length r / size))) refl refl refl refl e
