-- The numbers of an entry, and the entry that they are read as. Assumes nothing.
use Prim.Native.Nat.{ℕ, suc, ◌+◌, ◌*◌, ◌/◌, ◌%◌, ◌≤◌, ◌<◌}
use mathlib.Core.Path.{◌≡◌, refl, sym, ap, ◌∙◌}
use mathlib.Core.Bool.{Bool, true, false}
use mathlib.Core.List.{List, ◌++◌}
use lib.ListN.{length, get_or, drop}
use lib.Seq.{get_or-drop}
use native.Mathlib.Nat.{add-zero, mod-eq_of_lt}
use native.Mathlib.Omega.{arith}
use borrow.Author.Tests.{le-leb, lt-ltb}
use Rattle.record.proofs.Choose.{no_false}
use Rattle.meaning.specs.Numbers.{key_number, bare_of, issuer_of}
use Rattle.meaning.specs.declared.Test.{Test}
use Rattle.meaning.specs.declared.Effect.{Effect}
use Rattle.layout.specs.Entry.{Piece, loads, asks, works, tests, Entry, begin, match, further, opens, compare, close, sum, rule, enter, applies, conclude, oblige, leave, finish, extra, reach, is_further, fits}
use Rattle.layout.specs.Layout.{bit_of, function_code, operator_code, effect_code, effect_by, op_code, algorithm_code, test_of, test_word, match_by, compare_by, piece_by, entry_by, entry_of, fetch, piece_words, words_of}
use Rattle.layout.specs.Words.{bit_small, bit_laws, effect_small, effect_laws, op_back, algorithm_back, algorithm_small, algorithm_laws, function_small, function_laws, operator_back, remainder, quotient, digit, word_first, word_at}
use Rattle.layout.specs.Room.{room_p}

-- the key of a piece is a number of six bytes
abbrev pub HoldsPiece : Piece → Type 0
HoldsPiece (loads k n) = Unit
HoldsPiece (asks key) = key < 281474976710656
HoldsPiece (works o) = Unit
HoldsPiece (tests f k) = Unit

-- an entry's test, number or cut has a property
abbrev pub Holds : (Test → Type 0) → (ℕ → Type 0) → Entry → Type 0
Holds T N (begin al c) = c ≤ room_p
Holds T N (match t m c l i j x) = T t
Holds T N further = Unit
Holds T N (opens op) = Unit
Holds T N (compare t n) = T t
Holds T N (close n) = Unit
Holds T N (sum p) = HoldsPiece p
Holds T N (rule e n) = Unit
Holds T N (enter al) = Unit
Holds T N (applies n) = Unit
Holds T N (conclude n) = Unit
Holds T N (oblige e n) = N n
Holds T N (leave n) = Unit
Holds T N finish = Unit

-- a key of six bytes, a number of two
abbrev pub Key : Test → Type 0
Key t = t.key < 281474976710656

abbrev pub Short : ℕ → Type 0
Short n = n < 65536

pub fits_held : (e : Entry) → is_further e ≡ false → Holds Key Short e → fits e ≡ true
fits_held (begin al c) h g = le-leb c room_p g
fits_held (match t m c s i j x) h g = refl
fits_held further h g = sym h
fits_held (opens op) h g = refl
fits_held (compare t n) h g = refl
fits_held (close n) h g = refl
fits_held (sum p) h g = refl
fits_held (rule e n) h g = refl
fits_held (enter al) h g = refl
fits_held (applies n) h g = refl
fits_held (conclude n) h g = refl
fits_held (oblige e n) h g = lt-ltb n 65536 g
fits_held (leave n) h g = refl
fits_held finish h g = refl

-- as many numbers as entries
pub words_length : (e : Entry) → is_further e ≡ false → length (words_of e) ≡ suc (extra e)
unfolding words_of piece_words
words_length (begin al c) h = refl
words_length (match t m c l i j x) h = refl
words_length further h = no_false (sym h)
words_length (opens op) h = refl
words_length (compare t n) h = refl
words_length (close n) h = refl
words_length (sum (loads k n)) h = refl
words_length (sum (asks key)) h = refl
words_length (sum (works o)) h = refl
words_length (sum (tests f k)) h = refl
words_length (rule e n) h = refl
words_length (enter al) h = refl
words_length (applies n) h = refl
words_length (conclude n) h = refl
words_length (oblige e n) h = refl
words_length (leave n) h = refl
words_length finish h = refl

-- a test, whatever stands above it
test_small : (t : Test) → test_word t < 16
unfolding test_word
test_small t = omega (arith, function_small t.function, bit_small t.must)

test_back : (t : Test) (n : ℕ) → test_of (test_word t + 16 * n) (key_number (bare_of t.key) (issuer_of t.key)) t.literal ≡ t
unfolding test_of test_word
test_back t n =
    let f : ℕ = function_code t.function in
    let m : ℕ = bit_of t.must in
    let fs = function_small t.function in
    let key : key_number (bare_of t.key) (issuer_of t.key) ≡ t.key = omega arith in
    rw (key, word_first function_laws (f + 8 * m + 16 * n) t.function (m + 2 * n) (omega arith), word_at bit_laws 8 (f + 8 * m + 16 * n) f t.must n (omega arith) (omega arith))

module _ (t : Test) (key : Key t) where
  abbrev bare : ℕ
  bare = bare_of t.key

  abbrev issuer : ℕ
  issuer = issuer_of t.key

  four : bare < 4294967296
  four = omega arith

  two : issuer < 65536
  two = omega arith

  compare_back : (n : ℕ) → compare_by (test_word t + 16 * (bare + 4294967296 * n)) t.literal issuer ≡ compare t n
  unfolding compare_by
  compare_back n =
      let s = test_small t in
      let w : ℕ = test_word t + 16 * (bare + 4294967296 * n) in
      rw (digit 16 4294967296 w (test_word t) bare n refl s four, quotient 68719476736 w (test_word t + 16 * bare) n (omega arith) (omega (arith, four)), mod-eq_of_lt two, test_back)

  match_back : (m c l : Bool) (i j x : ℕ) → j < 8192 → x < 8192
      → match_by (test_word t + 16 * (bit_of m + 2 * (bit_of c + 2 * (bit_of l + 2 * (bare + 4294967296 * i))))) t.literal (j + 8192 * (x + 8192 * issuer)) ≡ match t m c l i j x
  unfolding match_by
  match_back m c l i j x h k =
      let s = test_small t in
      let ms = bit_small m in
      let cs = bit_small c in
      let ls = bit_small l in
      let w : ℕ = test_word t + 16 * (bit_of m + 2 * (bit_of c + 2 * (bit_of l + 2 * (bare + 4294967296 * i)))) in
      let third : ℕ = j + 8192 * (x + 8192 * issuer) in
      rw (
        word_at bit_laws 16 w (test_word t) m (bit_of c + 2 * (bit_of l + 2 * (bare + 4294967296 * i))) refl s,
        word_at bit_laws 32 w (test_word t + 16 * bit_of m) c (bit_of l + 2 * (bare + 4294967296 * i)) (omega arith) (omega arith),
        word_at bit_laws 64 w (test_word t + 16 * bit_of m + 32 * bit_of c) l (bare + 4294967296 * i) (omega arith) (omega arith),
        digit 128 4294967296 w (test_word t + 16 * bit_of m + 32 * bit_of c + 64 * bit_of l) bare i (omega arith) (omega arith) four,
        quotient 549755813888 w (test_word t + 16 * bit_of m + 32 * bit_of c + 64 * bit_of l + 128 * bare) i (omega arith) (omega (arith, four)),
        remainder 8192 third j (x + 8192 * issuer) refl h,
        digit 8192 8192 third j x issuer refl h k,
        quotient 67108864 third (j + 8192 * x) issuer (omega arith) (omega arith),
        mod-eq_of_lt two,
        test_back,
      )

-- an effect, and a number above it
effect_of : (e : Effect) (n : ℕ) → effect_by ((effect_code e + 2 * n) % 2) ≡ e
effect_of e n = word_first effect_laws (effect_code e + 2 * n) e n refl

number_of : (e : Effect) (n : ℕ) → (effect_code e + 2 * n) / 2 ≡ n
number_of e n = quotient 2 (effect_code e + 2 * n) (effect_code e) n refl (omega (arith, effect_small e))

-- the entry that the numbers of an entry spell, whatever stands behind them
abbrev pub read_at : List ℕ → Entry
read_at ns = entry_of (get_or ns 0 0) (get_or ns 1 0) (get_or ns 2 0)

by_op : (k n literal ways : ℕ) → k < 16 → entry_of (k + 16 * n) literal ways ≡ entry_by k n literal ways
unfolding entry_of
by_op k n literal ways h = rw (remainder 16 (k + 16 * n) k n refl h, quotient 16 (k + 16 * n) k n refl h)

-- a piece: which it is, and what is behind that
by_piece : (which n literal ways : ℕ) → which < 4 → entry_of (12 + 16 * (which + 4 * n)) literal ways ≡ sum (piece_by which n literal)
unfolding entry_by
by_piece which n literal ways h =
    by_op 12 (which + 4 * n) literal ways (omega arith) ∙ rw (remainder 4 (which + 4 * n) which n refl h, quotient 4 (which + 4 * n) which n refl h)

piece_back : (p : Piece) (ns : List ℕ) → HoldsPiece p → read_at (piece_words p ++ ns) ≡ sum p
unfolding piece_words piece_by
piece_back (loads k n) ns g = let z : 4 * k ≡ 0 + 4 * k = omega arith in rw z (by_piece 0 k n (get_or ns 0 0) (omega arith))
piece_back (asks key) ns g = by_piece 1 key (get_or ns 0 0) (get_or ns 1 0) (omega arith) ∙ rw (mod-eq_of_lt g)
piece_back (works o) ns g = by_piece 2 (operator_code o) (get_or ns 0 0) (get_or ns 1 0) (omega arith) ∙ rw (operator_back o)
piece_back (tests f k) ns g =
    let w : ℕ = function_code f + 8 * k in
    let s = function_small f in
    by_piece 3 w (get_or ns 0 0) (get_or ns 1 0) (omega arith)
    ∙ rw (word_first function_laws w f k refl, quotient 8 w (function_code f) k refl (omega arith))

pub read_back : (e : Entry) (ns : List ℕ) → is_further e ≡ false → Holds Key Short e → reach e < 8192 → read_at (words_of e ++ ns) ≡ e
unfolding words_of entry_by
read_back (begin al c) ns h g l =
    let k : ℕ = algorithm_code al + 8 * c in
    let s = algorithm_small al in
    let z : 16 * k ≡ 0 + 16 * k = omega arith in
    rw (z, by_op 0 k (get_or ns 0 0) (get_or ns 1 0) (omega arith), word_first algorithm_laws k al c refl, quotient 8 k (algorithm_code al) c refl (omega arith))
read_back (match t m c s i j x) ns h g l =
    by_op 1 _ t.literal (j + 8192 * (x + 8192 * issuer_of t.key)) (omega arith) ∙ match_back t g m c s i j x (omega (arith, l)) (omega (arith, l))
read_back further ns h g l = no_false (sym h)
read_back (opens op) ns h g l = by_op 3 (op_code op) (get_or ns 0 0) (get_or ns 1 0) (omega arith) ∙ ap opens (op_back op)
read_back (compare t n) ns h g l = by_op 13 _ t.literal (issuer_of t.key) (omega arith) ∙ compare_back t g n
read_back (close n) ns h g l = by_op 4 n (get_or ns 0 0) (get_or ns 1 0) (omega arith)
read_back (sum p) ns h g l = piece_back p ns g
read_back (rule e n) ns h g l = by_op 5 (effect_code e + 2 * n) (get_or ns 0 0) (get_or ns 1 0) (omega arith) ∙ rw (effect_of, number_of)
read_back (enter al) ns h g l = by_op 6 (algorithm_code al) (get_or ns 0 0) (get_or ns 1 0) (omega arith) ∙ ap enter (algorithm_back al)
read_back (applies n) ns h g l = by_op 7 n (get_or ns 0 0) (get_or ns 1 0) (omega arith)
read_back (conclude n) ns h g l = by_op 8 n (get_or ns 0 0) (get_or ns 1 0) (omega arith)
read_back (oblige e n) ns h g l = by_op 9 (effect_code e + 2 * n) (get_or ns 0 0) (get_or ns 1 0) (omega arith) ∙ rw (effect_of, number_of)
read_back (leave n) ns h g l = by_op 10 n (get_or ns 0 0) (get_or ns 1 0) (omega arith)
read_back finish ns h g l = by_op 11 0 (get_or ns 0 0) (get_or ns 1 0) (omega arith)

pub fetch_drop : (p : List ℕ) (i : ℕ) → fetch p i ≡ read_at (drop i p)
unfolding fetch
fetch_drop p i = rw (get_or-drop i p 0 0, get_or-drop i p 1 0, get_or-drop i p 2 0, add-zero i)
