-- How large the numbers of an answer are. Assumes nothing.
use Rattle.std.specs.Prelude.{Err, Ok}
use Prim.Native.Nat.{ℕ, ◌*◌, ◌≤◌}
use mathlib.Core.Path.{◌≡◌, refl}
use mathlib.Core.Bool.{Bool, true, false}
use mathlib.Core.List.{List, [], ◌∷◌}
use lib.Dec.{ltb}
use lib.ListN.{length, take, drop, get_or, length-append}
use native.Mathlib.Omega.{arith}
use borrow.Author.Tests.{ltb-false}
use Rattle.record.specs.Choose.{if, either}
use Rattle.record.specs.Refusals.{line_of, no_room}
use Rattle.meaning.specs.Reading.{book_of}
use Rattle.judge.specs.Judge.{judge_of, Judged}
use Rattle.judge.proofs.Bounds.{refused_small}
use Rattle.judge.proofs.Exactly.{accepted_keeps}
use Rattle.layout.specs.declared.State.{State}
use Rattle.layout.specs.Entry.{loads, asks, works, tests, Entry, begin, match, further, opens, compare, close, sum, rule, enter, applies, conclude, oblige, leave, finish}
use Rattle.layout.specs.Layout.{allowed, piece_words, words_of}
use Rattle.programme.specs.Step.{state_of}
use Rattle.code.specs.Code.{translated as code, in_numbers}
use Rattle.translator.specs.Translate.{programme_of, room_for, answer_to, translate_of, Translated}
use Rattle.emission.proofs.Emit.{programme_short}
use Rattle.rig.specs.Rig.{no_state, state_in}
use Rattle.layout.specs.Room.{room_p}
use Rattle.record.specs.Bytes.{most_records}

-- lent numbers and places that hold a state that the layout allows are long enough
none_allowed : allowed no_state.head ≡ true → ⊥
unfolding no_state allowed
none_allowed e = let z : ◌≡◌ {A = ℕ} 0 1 = cc in omega arith

pub long_enough : (ns ps : List ℕ) → allowed (state_in ns ps).head ≡ true → (33 ≤ length ns) × (room_p ≤ length ps)
unfolding state_in
long_enough ns ps = go (ltb (length ns) 33) (ltb (length ps) room_p) (state_of (get_or ns 0 0) (take 17 (drop 1 ns)) (take 15 (drop 18 ns)) (take room_p ps)) refl refl
  where
    go : (x y : Bool) (t : State) → ltb (length ns) 33 ≡ x → ltb (length ps) room_p ≡ y → allowed (if (either x y) no_state t).head ≡ true → (33 ≤ length ns) × (room_p ≤ length ps)
    go true y t e f a = absurd (none_allowed a)
    go false true t e f a = absurd (none_allowed a)
    go false false t e f a = (ltb-false _ _ e, ltb-false _ _ f)

-- an answer to translating: an entry is at most three numbers
abbrev pub SmallTranslated : Translated → Type 0
SmallTranslated (Ok n) = n ≤ 24024
SmallTranslated (Err r) = line_of r ≤ most_records

few_words : (e : Entry) → length (words_of e) ≤ 3
unfolding words_of piece_words
few_words (begin al c) = omega arith
few_words (match t m c s i j x) = omega arith
few_words further = omega arith
few_words (opens op) = omega arith
few_words (compare t n) = omega arith
few_words (close n) = omega arith
few_words (sum (loads k n)) = omega arith
few_words (sum (asks key)) = omega arith
few_words (sum (works o)) = omega arith
few_words (sum (tests f k)) = omega arith
few_words (rule e n) = omega arith
few_words (enter al) = omega arith
few_words (applies n) = omega arith
few_words (conclude n) = omega arith
few_words (oblige e n) = omega arith
few_words (leave n) = omega arith
few_words finish = omega arith

few_numbers : (es : List Entry) → length (in_numbers es) ≤ 3 * length es
unfolding in_numbers
few_numbers [] = omega arith
few_numbers (e ∷ es) = omega (arith, length-append (words_of e) (in_numbers es), few_words e, few_numbers es)

pub translate_small : (b : List ℕ) (room : ℕ) → SmallTranslated (translate_of b room)
unfolding translate_of programme_of
translate_small b room = go (judge_of b) refl
  where
    written : (short : Bool) (n : ℕ) → n ≤ 24024 → SmallTranslated (if short (Err no_room) (Ok n))
    written true n l = omega arith
    written false n l = l

    go : (j : Judged) → judge_of b ≡ j → SmallTranslated (answer_to j b room)
    go (Err r) e = (refused_small b r e).line
    go (Ok a) e =
        let k = (accepted_keeps b a.records a.obligations e).0.sized in
        let w = programme_short b a.records k.bytes k.some in
        written (ltb room (room_for a.records)) (length (programme_of b)) (omega (arith, k.most, w, few_numbers (code (book_of b))))
