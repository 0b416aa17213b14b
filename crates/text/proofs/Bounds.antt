-- How large an answer can be: at most a line of places for each line that there may be, and no line beyond those. Assumes nothing.
use Rattle.std.specs.Prelude.{Err, Ok}
use mathlib.Core.Path.{◌≡◌, refl}
use mathlib.Core.Bool.{Bool, true, false}
use mathlib.Core.List.{List}
use Prim.Native.Nat.{ℕ, ◌*◌, ◌/◌, ◌%◌, ◌≤◌, max, zero-le}
use native.Mathlib.Omega.{arith}
use borrow.Author.Tests.{ltb-false}
use lib.Dec.{ltb}
use lib.ListN.{length}
use Rattle.record.specs.Bytes.{size}
use Rattle.record.specs.Choose.{if}
use Rattle.record.specs.Refusals.{part_number, number_of, part_of, line_of, too_many, no_record, cut_short, no_room}
use Rattle.text.specs.Text.{missing, line_length, width, judge_from, read_of, read_judged, write_of, Filled, Judged}
use Rattle.text.specs.declared.Kind.{Kind}
use Rattle.text.specs.declared.Fault.TheVariants.{Wrong, Over}
use Rattle.text.proofs.Widths.{start_first}
use Rattle.text.proofs.Lined.{judge_lined, wrong_within}

abbrev pub Within : Kind → Filled → Type 0
Within k (Ok m) = m ≤ line_length size * k.most
Within k (Err r) = (number_of r ≤ 7) × (part_number (part_of r) ≤ max 3 (part_number k.part)) × (line_of r ≤ k.most)

refused_within : (k : Kind) (number : ℕ) → number ≤ 7 → (number ≤ 7) × (part_number k.part ≤ max 3 (part_number k.part)) × (0 ≤ k.most)
refused_within k number h = (h, omega arith, zero-le)

room_within : (k : Kind) → Within k (Err no_room)
room_within k = (omega arith, omega arith, zero-le)

lines_within : (k : Kind) (n : ℕ) (a b : Bool) → n ≤ k.most → Within k (if a (Err (no_record k.part)) (if b (Err no_room) (Ok (size * n))))
lines_within k n true b h = refused_within k 3 (omega arith)
lines_within k n false true h = room_within k
lines_within k n false false h = omega arith

judged_within : (k : Kind) (j : Judged) (room : ℕ) → ((n : ℕ) → j ≡ Ok n → n ≤ k.most) → ((l : ℕ) → j ≡ Err (Wrong l) → l ≤ k.most) → Within k (read_judged k j room)
unfolding read_judged
judged_within k (Ok n) room f g = lines_within k n (missing k n) (ltb room (size * n)) (f n refl)
judged_within k (Err (Wrong l)) room f g = (omega arith, omega arith, g l refl)
judged_within k (Err Over) room f g = refused_within k 2 (omega arith)

pub read_within : (k : Kind) (s : List ℕ) (room : ℕ) → Within k (read_of k s room)
unfolding read_of
read_within k s room =
    judged_within k (judge_from (width s) s k.most 0) room
    (λ n e. omega (arith, (judge_lined (width s) s k.most 0 n (start_first (width s) s) e).few))
    (λ l e. omega (arith, wrong_within (width s) s k.most 0 l e))

written_within : (k : Kind) (n : ℕ) (a b c d : Bool) → ltb k.most n ≡ c
    → Within k (if a (Err (no_record k.part)) (if b (Err (cut_short k.part)) (if c (Err (too_many k.part)) (if d (Err no_room) (Ok (line_length size * n))))))
written_within k n true b c d e = refused_within k 3 (omega arith)
written_within k n false true c d e = refused_within k 4 (omega arith)
written_within k n false false true d e = refused_within k 2 (omega arith)
written_within k n false false false true e = room_within k
written_within k n false false false false e = omega (arith, ltb-false k.most n e)

pub write_within : (k : Kind) (r : List ℕ) (room : ℕ) → Within k (write_of k r room)
unfolding write_of
write_within k r room = written_within k (length r / size) (missing k (length r)) (ltb 0 (length r % size)) (ltb k.most (length r / size)) (ltb room (line_length size * (length r / size))) refl
