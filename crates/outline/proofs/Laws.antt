-- What is put into a line piece by piece, and a law for each return of the functions that do it. Assumes nothing.
use mathlib.Core.Path.{◌≡◌, refl, sym, ap, ◌∙◌, subst}
use mathlib.Core.Bool.{Bool, true, false}
use mathlib.Core.List.{List, [], ◌∷◌, ◌++◌, append_assoc, append-nil}
use Prim.Native.Nat.{ℕ, zero, suc, ◌+◌, ◌-◌, ◌*◌, ◌/◌, ◌%◌, ◌^◌, ◌≤◌, ◌<◌, min}
use native.Mathlib.Nat.{add-zero, pow-suc}
use native.Mathlib.Numerals.{add-one}
use native.Mathlib.Omega.{arith}
use borrow.Author.Tests.{leb-true, leb-false, lt-ltb, le-ltb, lt-leb, eq-eqb, ne_eqb}
use lib.Dec.{leb, ltb}
use lib.ListN.{length, take, drop, set, get_or, replicate, length-set, length-append}
use lib.Seq.{take-suc, set_out, length-sets}
use borrow.Rule.Slice.PartMut.{put_mid}
use Rattle.io.specs.Digits.{hex_digit_ascii, last_digits, IsDigitCount}
use Rattle.std.specs.Prelude.{Option, Some, None}
use Rattle.std.specs.Bool.{then_some}
use Rattle.std.proofs.lemmas.Option.{none-some, cond_some}
use Rattle.std.proofs.lemmas.Bool.{false_from_ne_true}
use Rattle.std.proofs.lemmas.List.{length-take-le, length-drop, take-append-drop, take-replicate, length-replicate}
use Rattle.std.proofs.lemmas.List.Edits.{sets-eq, paste_all}
use Rattle.std.proofs.lemmas.Slice.{put_mid-paste}
use Rattle.record.specs.Choose.{among, either}
use Rattle.outline.specs.Outline.{line_of, said_of, Says, last_digit, digits_of, decimal_of, integer_of, plain, escaped, name_of, exponent_of, fraction_of, sign_of, hexes_of, point_of, written_of, power_of, lead_of, hex_of, halved_of, whole_of, is_whole, digits_too, double_of}

-- a line that is full takes nothing more
full : (xs l : List ℕ) (at : ℕ) → length l ≤ at → line_of l at xs ≡ l
unfolding line_of
full [] l at h = refl
full (x ∷ xs) l at h = rw (set_out l at x h) (full xs l (suc at) (omega arith))

-- what begins beyond the end may as well begin at the end
from_end : (xs l : List ℕ) (at : ℕ) (fits : Bool) → leb at (length l) ≡ fits → line_of l (min (length l) at) xs ≡ line_of l at xs
from_end xs l at true e =
    let s : min (length l) at ≡ at = omega (arith, leb-true at (length l) e) in
    rw s
from_end xs l at false e =
    let h : length l < at = leb-false at (length l) e in
    full xs l (min (length l) at) (omega arith) ∙ sym (full xs l at (omega arith))

-- saying more from where the first stopped is saying both
line_then : (xs ys l : List ℕ) (at : ℕ) → line_of (line_of l at xs) (said_of l at xs) ys ≡ line_of l at (xs ++ ys)
unfolding line_of
line_then [] ys l at = rw (add-zero at) (from_end ys l at (leb at (length l)) refl)
line_then (x ∷ xs) ys l at =
    let e : at + suc (length xs) ≡ suc at + length xs = omega arith in
    rw (e, ← length-set l at x) (line_then xs ys (set l at x) (suc at))

-- the line stays as long as it was
pub kept : {a b : List ℕ} {at r : ℕ} {xs : List ℕ} → Says a at xs b r → length b ≡ length a
unfolding line_of
kept {a} {b} {at} {r} {xs} p = rw p.line (length-sets a at xs)

-- nothing
pub says_none : (l : List ℕ) (at : ℕ) {r : ℕ} → r ≡ min at (length l) → Says l at [] l r
unfolding line_of
says_none l at e = record { line = refl; said = omega (arith, e) }

-- as many bytes as find room, stored at once
no_more : (xs l : List ℕ) (at : ℕ) → (0 < length xs → length l ≤ at) → line_of l at xs ≡ l
unfolding line_of
no_more [] l at h = refl
no_more (x ∷ xs) l at h = full (x ∷ xs) l at (h (omega arith))

cut : (xs l : List ℕ) (from n : ℕ) → from ≤ length l → n ≡ min (length xs) (length l - from)
    → take from l ++ (take n xs ++ drop (from + n) l) ≡ line_of l from xs
unfolding line_of
cut xs l from n h e =
    let some : length (take n xs) ≡ n = length-take-le n xs (omega (arith, e)) in
    let stored = rw some at (sets-eq (take n xs) l from (omega (arith, e, h, some))) in
    let rest = no_more (drop n xs) (line_of l from (take n xs)) (said_of l from (take n xs))
    (λ t. omega (arith, e, some, t, length-drop n xs, length-sets l from (take n xs))) in
    let both = line_then (take n xs) (drop n xs) l from ∙ ap (line_of l from) (take-append-drop n xs) in
    sym (append_assoc (take from l) (take n xs) (drop (from + n) l)) ∙ sym stored ∙ sym rest ∙ both

pub says_part : (l xs ys : List ℕ) (at : ℕ) {from n : ℕ} → from ≡ min at (length l) → n ≡ min (length xs) (length l - from) → ys ≡ take n xs
    → Says l at xs (put_mid from (from + n - from) l ys) (from + n)
says_part l xs ys at {from} {n} e h p =
    let some : length (take n xs) ≡ n = length-take-le n xs (omega (arith, h)) in
    let part = put_mid-paste from (from + n - from) l ys (take n xs) n p (omega arith) (sym some) ∙ paste_all l from (take n xs) n (sym some) in
    let m : min (length l) at ≡ from = omega (arith, e) in
    record {
      line = part ∙ cut xs l from n (omega (arith, e)) h ∙ rw m at (from_end xs l at (leb at (length l)) refl);
      said = omega (arith, e, h);
    }

pub says_same : (l ys : List ℕ) (at x m : ℕ) {from n : ℕ} → from ≡ min at (length l) → n ≡ min m (length l - from) → ys ≡ replicate n x
    → Says l at (replicate m x) (put_mid from (from + n - from) l ys) (from + n)
says_same l ys at x m {from} {n} e h p =
    says_part l (replicate m x) ys at e (omega (arith, h, length-replicate m x)) (p ∙ sym (take-replicate n m x (omega (arith, h))))

-- one piece after another
pub then : {a b c : List ℕ} {at m r : ℕ} {xs ys : List ℕ} → Says a at xs b m → Says b m ys c r → Says a at (xs ++ ys) c r
then {a} {b} {c} {at} {m} {r} {xs} {ys} p q =
    record {
      line = q.line ∙ rw (p.line, p.said) (line_then xs ys a at);
      said = omega (arith, kept p, length-append xs ys);
    }

-- .. said in other words
pub as_is : {a b : List ℕ} {at r : ℕ} {xs ys : List ℕ} → xs ≡ ys → Says a at xs b r → Says a at ys b r
as_is {a} {b} {at} {r} e p = subst (λ (zs : List ℕ). Says a at zs b r) e p

-- bytes as they are, and names
pub take_more : (w : List ℕ) (i : ℕ) → i < length w → take i w ++ (get_or w i 0 ∷ []) ≡ take (i + 1) w
take_more w i h = rw (add-one i) (sym (take-suc w i 0 h))

name_append : (xs ys : List ℕ) → name_of (xs ++ ys) ≡ name_of xs ++ name_of ys
unfolding name_of
name_append [] ys = refl
name_append (x ∷ xs) ys = ap (λ (r : List ℕ). escaped x ++ r) (name_append xs ys) ∙ sym (append_assoc (escaped x) (name_of xs) (name_of ys))

name_one : (x : ℕ) → name_of (x ∷ []) ≡ escaped x
unfolding name_of
name_one x = append-nil (escaped x)

pub name_none : (w : List ℕ) → [] ≡ name_of (take 0 w)
unfolding name_of
name_none w = refl

pub name_more : (w : List ℕ) (i : ℕ) → i < length w → name_of (take i w) ++ escaped (get_or w i 0) ≡ name_of (take (i + 1) w)
name_more w i h =
    let one = ap (λ (r : List ℕ). name_of (take i w) ++ r) (sym (name_one (get_or w i 0))) in
    one ∙ sym (name_append (take i w) (get_or w i 0 ∷ [])) ∙ ap name_of (take_more w i h)

-- decimal digits
digit_same : (n : ℕ) → hex_digit_ascii (n % 10) ≡ last_digit n
digit_same n = simp (lt-ltb (n % 10) 10 (omega arith))

power_pos : (k : ℕ) → 0 < 10 ^ k
power_pos zero = omega arith
power_pos (suc k) = rw (pow-suc 10 k) (omega (arith, power_pos k))

digits_same : (more k n : ℕ) → n < 10 ^ (more + 1) → 0 < k → n < 10 ^ k → (1 < k → 10 ^ (k - 1) ≤ n) → last_digits 10 k n ≡ digits_of more n
unfolding digits_of
digits_same more zero n f h l g = absurd (omega arith)
digits_same zero (suc zero) n f h l g = rw (digit_same n)
digits_same (suc more) (suc zero) n f h l g = let q : n < 10 = l in rw (digit_same n) (simp (lt-ltb n 10 q))
digits_same zero (suc (suc k)) n f h l g =
    let y : suc (suc k) - 1 ≡ suc k = omega arith in
    let w : 10 ^ suc k ≤ n = rw y at (g (omega arith)) in
    let p : 10 ^ suc k ≡ 10 ^ k * 10 = pow-suc 10 k in
    let q : n < 10 = f in
    absurd (omega (arith, power_pos k, w, p, q))
digits_same (suc more) (suc (suc k)) n f h l g =
    let y : suc (suc k) - 1 ≡ suc k = omega arith in
    let w : 10 ^ suc k ≤ n = rw y at (g (omega arith)) in
    let p : 10 ^ suc k ≡ 10 ^ k * 10 = pow-suc 10 k in
    let r : 10 ^ suc (suc k) ≡ 10 ^ suc k * 10 = pow-suc 10 (suc k) in
    let s : suc more + 1 ≡ suc (more + 1) = omega arith in
    let t : 10 ^ suc (more + 1) ≡ 10 ^ (more + 1) * 10 = pow-suc 10 (more + 1) in
    let f2 : n < 10 ^ suc (more + 1) = rw s at f in
    let z : suc k - 1 ≡ k = omega arith in
    let rest = digits_same more (suc k) (n / 10) (omega (arith, f2, t)) (omega arith) (omega (arith, l, r)) (λ e. rw z (omega (arith, w, p))) in
    rw (digit_same n, le-ltb n 10 (omega (arith, power_pos k, w, p))) (ap (λ (xs : List ℕ). xs ++ (last_digit n ∷ [])) rest)

pub decimal_same : (n k : ℕ) → n < 18446744073709551616 → IsDigitCount 10 1 n k → last_digits 10 k n ≡ decimal_of n
decimal_same n k f d = digits_same 19 k n (omega arith) (omega (arith, d.0)) d.1 d.2

pub integer_pos : (n : ℕ) → n < 9223372036854775808 → decimal_of n ≡ integer_of n
unfolding integer_of
integer_pos n h = simp (lt-ltb n 9223372036854775808 h)

pub integer_neg : (n : ℕ) {m : ℕ} → 9223372036854775808 ≤ n → m ≡ 18446744073709551616 - n → (45 ∷ []) ++ decimal_of m ≡ integer_of n
unfolding integer_of
integer_neg n h e = rw e (simp (le-ltb n 9223372036854775808 h))

-- a byte of a name
pub escape_plain : (x : ℕ) → plain x ≡ true → x ∷ [] ≡ escaped x
unfolding escaped
escape_plain x e = simp e

pub escape_other : (x : ℕ) {b c d : ℕ} → plain x ≡ false → b ≡ x → c ≡ hex_digit_ascii (b / 16 % 16) → d ≡ hex_digit_ascii (b % 16) → x < 256
    → 92 ∷ 120 ∷ c ∷ d ∷ [] ≡ escaped x
unfolding escaped
escape_other x e b p q h =
    let s : x / 16 % 16 ≡ x / 16 = omega arith in
    rw (p, q, b, s) (simp e)

-- a double
pub hexes_none : (left f : ℕ) → left ≡ 0 → [] ≡ hexes_of left f
unfolding hexes_of
hexes_none left f e = rw e

pub hexes_end : (left f : ℕ) → f ≡ 0 → [] ≡ hexes_of left f
unfolding hexes_of
hexes_end zero f e = refl
hexes_end (suc left) f e = rw e

pub hexes_more : (left f : ℕ) {d : ℕ} → (left ≡ 0 → ⊥) → (f ≡ 0 → ⊥) → d ≡ hex_digit_ascii (f / 281474976710656 % 16)
    → (d ∷ []) ++ hexes_of (left - 1) (f % 281474976710656 * 16) ≡ hexes_of left f
unfolding hexes_of
hexes_more zero f g h p = absurd (g refl)
hexes_more (suc left) f g h p =
    let e : suc left - 1 ≡ left = omega arith in
    rw (e, p) (simp (ne_eqb f 0 h))

pub point_none : (f : ℕ) → f ≡ 0 → [] ≡ point_of f
unfolding point_of
point_none f e = rw e

pub point_some : (f : ℕ) → (f ≡ 0 → ⊥) → (46 ∷ []) ++ hexes_of 13 f ≡ point_of f
unfolding point_of
point_some f h = simp (ne_eqb f 0 h)

pub power_minus : (e : ℕ) → e < 1023 → (112 ∷ 45 ∷ []) ++ decimal_of (1023 - e) ≡ power_of e
unfolding power_of
power_minus e h = simp (lt-ltb e 1023 h)

pub power_plus : (e : ℕ) → 1023 ≤ e → (112 ∷ 43 ∷ []) ++ decimal_of (e - 1023) ≡ power_of e
unfolding power_of
power_plus e h = simp (le-ltb e 1023 h)

pub hex_parts : (n : ℕ) {e f w : ℕ} {s l : List ℕ} → s ≡ sign_of n → l ≡ lead_of e → e ≡ exponent_of n → f ≡ fraction_of n → w ≡ written_of e f
    → s ++ (l ++ (point_of f ++ power_of w)) ≡ hex_of n
unfolding hex_of
hex_parts n a b p q r = rw (a, b, r, p, q)

-- a number halved, where each half is whole
abbrev pub found : ℕ → Option ℕ
found m = then_some (ltb 0 m) m

pub halved_none : (k m : ℕ) → k ≡ 0 → 0 < m → Some m ≡ found (halved_of k m)
unfolding halved_of
halved_none k m e h = rw e (simp (lt-ltb 0 m h))

pub halved_odd : (k m : ℕ) → (k ≡ 0 → ⊥) → (m % 2 ≡ 0 → ⊥) → None ≡ found (halved_of k m)
unfolding halved_of
halved_odd zero m g h = absurd (g refl)
halved_odd (suc k) m g h = simp (ne_eqb (m % 2) 0 h)

pub halved_even : (k m : ℕ) {r : Option ℕ} → (k ≡ 0 → ⊥) → m % 2 ≡ 0 → r ≡ found (halved_of (k - 1) (m / 2)) → r ≡ found (halved_of k m)
unfolding halved_of
halved_even zero m g h p = absurd (g refl)
halved_even (suc k) m g h p =
    let e : suc k - 1 ≡ k = omega arith in
    p ∙ rw e (simp (eq-eqb (m % 2) 0 h))

-- the size of a double, where it is a whole number
abbrev pub size_of : ℕ → Option ℕ
size_of n = then_some (is_whole n) (whole_of n)

no_exponent : (e : ℕ) → e < 1023 → among 1023 1075 e ≡ false
no_exponent e h = simp (lt-leb 1023 e h)

pub whole_zero : (n : ℕ) → n % 9223372036854775808 ≡ 0 → Some 0 ≡ size_of n
unfolding is_whole whole_of
whole_zero n h = simp (no_exponent (exponent_of n) (omega (arith, h)), eq-eqb (n % 9223372036854775808) 0 h)

pub whole_none : (n : ℕ) → (n % 9223372036854775808 ≡ 0 → ⊥) → among 1023 1075 (exponent_of n) ≡ false → None ≡ size_of n
unfolding is_whole whole_of
whole_none n h e = simp (e, ne_eqb (n % 9223372036854775808) 0 h)

no_other : (c : Bool) (m : ℕ) → then_some c m ≡ then_some (either c false) m
no_other true m = refl
no_other false m = refl

pub whole_at : (n : ℕ) {r : Option ℕ} {e f : ℕ} → (n % 9223372036854775808 ≡ 0 → ⊥) → among 1023 1075 (exponent_of n) ≡ true → e ≡ exponent_of n
    → f ≡ fraction_of n → r ≡ found (halved_of (1075 - e) (4503599627370496 + f)) → r ≡ size_of n
unfolding is_whole whole_of
whole_at n {r} {e} {f} h g p q s =
    let m = halved_of (1075 - exponent_of n) (4503599627370496 + fraction_of n) in
    s ∙ rw (p, q) (simp (g, ne_eqb (n % 9223372036854775808) 0 h) (no_other (ltb 0 m) m))

pub too_none : (n : ℕ) → size_of n ≡ None → [] ≡ digits_too n
unfolding digits_too
too_none n e = simp (false_from_ne_true (is_whole n) (λ h. none-some (whole_of n) (sym e ∙ simp h)))

some_in : (c : Bool) (x m : ℕ) → then_some c x ≡ Some m → (c ≡ true) × (x ≡ m)
some_in true x m e = cond_some true x m e
some_in false x m e = absurd (none-some m e)

pub too_some : (n : ℕ) {m : ℕ} {s : List ℕ} → size_of n ≡ Some m → s ≡ sign_of n → (32 ∷ 40 ∷ []) ++ (s ++ (decimal_of m ++ (41 ∷ []))) ≡ digits_too n
unfolding digits_too
too_some n e h = let p = some_in (is_whole n) (whole_of n) _ e in rw (h, ← p.1) (simp p.0)

pub double_parts : (n : ℕ) → hex_of n ++ digits_too n ≡ double_of n
unfolding double_of
double_parts n = refl
