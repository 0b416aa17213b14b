-- Lengths of the lines, and the stores that make them. Assumes nothing.
use mathlib.Core.Path.{◌≡◌, refl, sym, ap, ◌∙◌}
use mathlib.Core.Bool.{Bool, true, false}
use mathlib.Core.List.{List, [], ◌∷◌, ◌++◌, append_assoc}
use Prim.Native.Nat.{ℕ, zero, suc, ◌+◌, ◌*◌, ◌/◌, ◌<◌, ◌≤◌, zero-le}
use native.Mathlib.Numerals.{add-one}
use native.Mathlib.Omega.{arith}
use borrow.Author.Tests.{le-leb, lt-leb, leb-true}
use lib.Dec.{leb}
use lib.ListN.{length, take, get_or, drop, set, length-append, drop_of_length-le}
use lib.Seq.{drop-cons, take_at}
use Rattle.record.specs.Choose.{if}
use Rattle.record.specs.Stored.{stored}
use Rattle.record.specs.declared.Refusal.{Refusal}
use Rattle.record.proofs.Stored.{stored_then, stored_one, stored_pair, stored_first}
use Rattle.text.specs.Hex.{letter_of}
use Rattle.line.specs.Line.{hex_of, fours, told_line, refusal_line, decision_line, places_of, put}

hex_four : (n : ℕ) → hex_of 4 n ≡ hex_of 2 (n / 256) ++ hex_of 2 n
unfolding hex_of
hex_four n =
    let e : n / 16 / 16 ≡ n / 256 = omega arith in
    rw e

pub length_hex : (digits n : ℕ) → length (hex_of digits n) ≡ digits
unfolding hex_of
length_hex zero n = refl
length_hex (suc digits) n = length-append (hex_of digits (n / 16)) (letter_of n ∷ []) ∙ omega (arith, length_hex digits (n / 16))

pub length_fours : (ns : List ℕ) → length (fours ns) ≡ 4 * length ns
unfolding fours
length_fours [] = refl
length_fours (n ∷ ns) = length-append (hex_of 4 n) (fours ns) ∙ omega (arith, length_hex 4 n, length_fours ns)

pub length_told : (number part line : ℕ) → length (told_line number part line) ≡ 11
unfolding told_line
length_told number part line = simp (length-append, length_hex)

pub length_refusal : (r : Refusal) → length (refusal_line r) ≡ 11
unfolding refusal_line
length_refusal r = length_told _ _ _

pub length_decision : (decision : ℕ) (ns : List ℕ) → length (decision_line decision ns) ≡ 7 + 4 * length ns
unfolding decision_line
length_decision decision ns = simp (length-append, length_hex, length_fours) (omega arith)

-- two digits and four, as they are stored
pub stored_two : (l : List ℕ) (at n : ℕ) → set (set l at (letter_of (n / 16))) (at + 1) (letter_of n) ≡ stored l at (hex_of 2 n)
unfolding hex_of
stored_two l at n = stored_pair l at (letter_of (n / 16)) (letter_of n)

pub stored_four : (l : List ℕ) (at n : ℕ) → stored (stored l at (hex_of 2 (n / 256))) (at + 2) (hex_of 2 n) ≡ stored l at (hex_of 4 n)
stored_four l at n = rw (hex_four n) (sym (stored_then l (hex_of 2 (n / 256)) (hex_of 2 n) at 2 (length_hex 2 (n / 256))))

-- a line that fits, and one that does not
put_fits : (line out : List ℕ) → length line ≤ length out → stored out 0 line ≡ put line out
unfolding put
put_fits line out h = simp (le-leb (length line) (length out) h) (stored_first out line h)

pub put_short : (line out : List ℕ) → length out < length line → out ≡ put line out
unfolding put
put_short line out h = simp (lt-leb (length line) (length out) h)

pub places_fits : (line : List ℕ) (room : ℕ) → length line ≤ room → length line ≡ places_of line room
unfolding places_of
places_fits line room h = simp (le-leb (length line) room h)

pub places_short : (line : List ℕ) (room : ℕ) → room < length line → 0 ≡ places_of line room
unfolding places_of
places_short line room h = simp (lt-leb (length line) room h)

-- the stores of the line of a number, a part and a line, one after the other
told_parts : (number part line : ℕ) → told_line number part line
    ≡ hex_of 2 255 ++ (hex_of 2 number ++ (hex_of 2 part ++ (hex_of 4 line ++ (10 ∷ []))))
unfolding told_line
told_parts number part line = simp append_assoc

pub told_put : (number part line : ℕ) (l : List ℕ) {a b c d : List ℕ} → 11 ≤ length l
    → a ≡ stored l 0 (hex_of 2 255) → b ≡ stored a 2 (hex_of 2 number) → c ≡ stored b 4 (hex_of 2 part) → d ≡ stored c 6 (hex_of 4 line)
    → set d 10 10 ≡ put (told_line number part line) l
told_put number part line l h e1 e2 e3 e4 =
    rw (e4, e3, e2, e1)
    (stored_one _ 10 10
    ∙ sym
    (ap (stored l 0) (told_parts number part line)
    ∙ stored_then l (hex_of 2 255) _ 0 2 (length_hex 2 255)
    ∙ stored_then _ (hex_of 2 number) _ 2 2 (length_hex 2 number)
    ∙ stored_then _ (hex_of 2 part) _ 4 2 (length_hex 2 part)
    ∙ stored_then _ (hex_of 4 line) (10 ∷ []) 6 4 (length_hex 4 line))
    ∙ put_fits (told_line number part line) l (omega (arith, length_told number part line)))

-- one obligation more, and the end of the line
pub fours_more : (l ns : List ℕ) (at i : ℕ) → i < length ns
    → stored (stored l at (hex_of 4 (get_or ns i 0))) (at + 4) (fours (drop (i + 1) ns) ++ (10 ∷ [])) ≡ stored l at (fours (drop i ns) ++ (10 ∷ []))
unfolding fours
fours_more l ns at i h =
    let n : ℕ = get_or ns i 0 in
    let e : drop i ns ≡ n ∷ drop (i + 1) ns = rw (add-one i) (drop-cons ns i 0 h) in
    sym
    (ap (λ (xs : List ℕ). stored l at (fours xs ++ (10 ∷ []))) e
    ∙ ap (stored l at) (append_assoc (hex_of 4 n) (fours (drop (i + 1) ns)) (10 ∷ []))
    ∙ stored_then l (hex_of 4 n) (fours (drop (i + 1) ns) ++ (10 ∷ [])) at 4 (length_hex 4 n))

pub fours_end : (l ns : List ℕ) (at i : ℕ) → length ns ≤ i → set l at 10 ≡ stored l at (fours (drop i ns) ++ (10 ∷ []))
unfolding fours
fours_end l ns at i h =
    let e : drop i ns ≡ [] = drop_of_length-le ns h in
    stored_one l at 10 ∙ ap (λ (xs : List ℕ). stored l at (fours xs ++ (10 ∷ []))) (sym e)

-- the stores of a decision's line, one after the other
decision_parts : (decision : ℕ) (ns : List ℕ) → decision_line decision ns ≡ hex_of 2 decision ++ (hex_of 4 (length ns) ++ (fours ns ++ (10 ∷ [])))
unfolding decision_line
decision_parts decision ns = simp append_assoc

pub decision_put : (decision : ℕ) (ns l : List ℕ) {a b c : List ℕ} → 7 + 4 * length ns ≤ length l
    → a ≡ stored l 0 (hex_of 2 decision) → b ≡ stored a 2 (hex_of 4 (length ns)) → c ≡ stored b 6 (fours ns ++ (10 ∷ []))
    → c ≡ put (decision_line decision ns) l
decision_put decision ns l h e1 e2 e3 =
    rw (e3, e2, e1)
    (sym
    (ap (stored l 0) (decision_parts decision ns)
    ∙ stored_then l (hex_of 2 decision) _ 0 2 (length_hex 2 decision)
    ∙ stored_then _ (hex_of 4 (length ns)) (fours ns ++ (10 ∷ [])) 2 4 (length_hex 4 (length ns)))
    ∙ put_fits (decision_line decision ns) l (omega (arith, length_decision decision ns)))

-- what a caller finds first in the output
pub put_found : (line out : List ℕ) → length line ≤ length out → take (places_of line (length out)) (put line out) ≡ line
unfolding places_of put
put_found line out h = simp (le-leb (length line) (length out) h) (take_at line (drop (length line) out) (length line) refl)

within_by : (n room : ℕ) (b : Bool) → leb n room ≡ b → if b n 0 ≤ room
within_by n room true e = leb-true n room e
within_by n room false e = zero-le

pub places_within : (line : List ℕ) (room : ℕ) → places_of line room ≤ room
unfolding places_of
places_within line room = within_by (length line) room (leb (length line) room) refl
