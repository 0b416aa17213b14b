-- A translated programme fits the output that it was written into. Assumes nothing.
use Rattle.std.specs.Prelude.{Err, Ok}
use mathlib.Core.Path.{◌≡◌, sym, ap, ◌∙◌}
use mathlib.Core.Bool.{Bool, true, false}
use mathlib.Core.List.{List, ◌++◌}
use Prim.Native.Nat.{ℕ, ◌≤◌}
use native.Mathlib.Omega.{arith}
use lib.Dec.{ltb}
use lib.ListN.{length, drop, length-append}
use Rattle.record.specs.Choose.{if}
use Rattle.record.specs.Refusals.{no_room}
use Rattle.judge.specs.Judge.{judge_of, Judged, accepted_with}
use Rattle.translator.specs.Translate.{programme_of, room_for, answer_to, translate_of, leaves, Translated}

-- the number that is answered is that of the entries
room_count : (short : Bool) (m n : ℕ) → if short (Err no_room) (Ok m) ≡ Ok n → n ≡ m
room_count true m n e = let z : ◌≡◌ {A = ℕ} 0 1 = cc in absurd (omega arith)
room_count false m n e = cc

count : (j : Judged) (b : List ℕ) (room n : ℕ) → answer_to j b room ≡ Ok n → n ≡ length (programme_of b)
count (Err r) b room n e = let z : ◌≡◌ {A = ℕ} 0 1 = cc in absurd (omega arith)
count (Ok a) b room n e = room_count (ltb room (room_for a.records)) (length (programme_of b)) n e

pub entries_fit : (b out : List ℕ) (n : ℕ) {a : Translated} {later : List ℕ} → a ≡ translate_of b (length out) → later ≡ leaves a b out → length later ≡ length out → a ≡ Ok n → n ≤ length out
unfolding translate_of
entries_fit b out n {a} {later} p q kept e =
    let c : n ≡ length (programme_of b) = count (judge_of b) b (length out) n (sym p ∙ e) in
    let l : later ≡ programme_of b ++ drop n out = q ∙ ap (λ (x : Translated). leaves x b out) e in
    omega (arith, c, kept, ap length l, length-append (programme_of b) (drop n out))
