-- Depth, parent and phrases as the iterators find them. Assumes nothing.
use mathlib.Core.Path.{◌≡◌, refl, sym, ap, ◌∙◌}
use mathlib.Core.Bool.{Bool, true, false}
use mathlib.Core.List.{List, [], ◌∷◌}
use Prim.Native.Nat.{ℕ, zero, suc, ◌+◌, ◌-◌, ◌≤◌, ◌<◌}
use native.Mathlib.Nat.{add-zero}
use native.Mathlib.Numerals.{add-one}
use native.Mathlib.Omega.{arith}
use borrow.Author.Tests.{leb-true, leb-false, lt-ltb, le-ltb}
use lib.Dec.{eqb, ltb}
use lib.ListN.{length}
use denote.Ref.{Bor}
use Rattle.std.specs.Prelude.{Option, Some, None}
use Rattle.std.specs.Option.{unwrap_or, option_map}
use Rattle.std.specs.declared.ops.Range.{Range}
use Rattle.std.specs.Range.{range_steps_back}
use Rattle.std.specs.List.{range_with_len, filter, find, slice_get, slice_split, onto_first}
use Rattle.std.proofs.lemmas.Iterator.{YieldsList}
use Rattle.std.proofs.lemmas.Iterator.Consumers.{YieldsList-from_shown}
use Rattle.std.proofs.lemmas.Iterator.Adapters.{option_map_id}
use Rattle.std.proofs.lemmas.List.Splits.{length-slice_split}
use Rattle.record.specs.Choose.{if}
use Rattle.fields.specs.First.{count_below, last_below, first_from}
use Rattle.fields.proofs.First.{count_more, by}
use Rattle.operands.specs.Parent.{covers, parent_of}
use Rattle.placement.specs.Place.{depth_of}
use Rattle.show.specs.Phrase.{bar_at, fewer, no_bar, start_of, stop_of, phrase_of}

-- the numbers of a range that pass
length_filter_more : (f : ℕ → Bool) (x : ℕ) (xs : List ℕ) (c : Bool) → f x ≡ c → length (filter f (x ∷ xs)) ≡ if c 1 0 + length (filter f xs)
length_filter_more f x xs true e = rw e (omega arith)
length_filter_more f x xs false e = rw e (omega arith)

count_range : (f : ℕ → Bool) (a n : ℕ) → count_below f a + length (filter f (range_with_len a n)) ≡ count_below f (a + n)
count_range f a zero = rw (add-zero a) (add-zero (count_below f a))
count_range f a (suc n) =
    let s : a + suc n ≡ a + 1 + n = omega arith in
    rw s (omega (arith, length_filter_more f a (range_with_len (a + 1) n) (f a) refl, count_more f a, count_range f (a + 1) n))

count_none : (f : ℕ → Bool) → count_below f 0 ≡ 0
unfolding count_below
count_none f = refl

pub depth_is : (b : List ℕ) (i : ℕ) {d : ℕ} → d ≡ length (filter (covers b i) (range_with_len 0 i)) → d + 1 ≡ depth_of b i
unfolding depth_of
depth_is b i e =
    let z : 0 + i ≡ i = omega arith in
    omega (arith, e, count_none (covers b i), rw z at (count_range (covers b i) 0 i))

-- the n numbers from a on, the last first
abbrev pub down_from : ℕ → ℕ → List ℕ
down_from a zero = []
down_from a (suc n) = (a + n) ∷ down_from a n

down_more : (a n m x : ℕ) → n ≡ m + 1 → x ≡ a + m → down_from a n ≡ x ∷ down_from a m
down_more a n m x e h = rw (e, add-one m, h)

-- a range from its end on
abbrev pub steps_down : Range ℕ → Option ℕ → Range ℕ → Type 0
steps_down = range_steps_back (λ a b. b - a) (λ a b. b ≡ a + 1)

pub YieldsList-from_below : (n : ℕ) → YieldsList steps_down (λ x. x) (record { start = 0; end = n }) (down_from 0 n)
YieldsList-from_below n =
    let z : n - 0 ≡ n = omega arith in
    rw z at (YieldsList-from_shown steps_down (λ x. x) (λ s. down_from s.start (s.end - s.start)) (λ s t h. rw h.1.0)
    (λ s x t h. rw h.0 (down_more s.start (s.end - s.start) (t.end - s.start) x (omega (arith, h.1.0, h.1.2)) (omega (arith, h.1.0, h.1.1, h.1.2))))
    (record { start = 0; end = n }))

find_last : (f : ℕ → Bool) (n : ℕ) → unwrap_or (find f (down_from 0 n)) 0 ≡ last_below f n
unfolding last_below
find_last f zero = refl
find_last f (suc n) =
    let z : 0 + n ≡ n = omega arith in
    rw z (by (f n) (λ t. rw t) (λ t. rw t (find_last f n)))

last_le : (f : ℕ → Bool) (n : ℕ) → last_below f n ≤ n
unfolding last_below
last_le f zero = omega arith
last_le f (suc n) = by (f n) (λ t. rw t (omega arith)) (λ t. rw t (omega (arith, last_le f n)))

pub parent_is : (b : List ℕ) (i : ℕ) (r : Option ℕ) {p : ℕ} → p ≡ unwrap_or r 0 → option_map (λ x. x) r ≡ find (covers b i) (down_from 0 i)
    → (p ≡ parent_of b i) × (p ≤ i)
unfolding parent_of
parent_is b i r e h =
    let s = e ∙ ap (λ o. unwrap_or o 0) (sym (option_map_id r) ∙ h) ∙ find_last (covers b i) i in
    (s, omega (arith, s, last_le (covers b i) i))

-- a search one place further
first_shift : (f g : ℕ → Bool) (i k : ℕ) → ((j : ℕ) → f (j + 1) ≡ g j) → first_from f (i + 1) k ≡ first_from g i k + 1
unfolding first_from
first_shift f g i zero h = refl
first_shift f g i (suc k) h = rw (h i) (by (g i) (λ t. rw t (first_shift f g (i + 1) k h)) (λ t. rw t))

count_shift : (f g : ℕ → Bool) (n : ℕ) → ((j : ℕ) → f (j + 1) ≡ g j) → count_below f (n + 1) ≡ if (f 0) 1 0 + count_below g n
count_shift f g zero h = omega (arith, count_more f 0, count_none f, count_none g)
count_shift f g (suc n) h = rw (← add-one n) (omega (arith, rw (h n) at (count_more f (n + 1)), count_more g n, count_shift f g n h))

ltb_suc : (c k : ℕ) → ltb (1 + c) (suc k) ≡ ltb c k
ltb_suc c k =
    by (ltb c k) (λ t. lt-ltb (1 + c) (suc k) (omega (arith, leb-true (suc c) k t)) ∙ sym t)
    (λ t. le-ltb (1 + c) (suc k) (omega (arith, leb-false (suc c) k t)) ∙ sym t)

abbrev bar : ℕ → Bool
bar x = eqb x 124

module _ (x : ℕ) (w : List ℕ) where
  bar_next : (j : ℕ) → bar_at (x ∷ w) (j + 1) ≡ bar_at w j
  bar_next j = rw (add-one j)

  bars : (j : ℕ) → count_below (bar_at (x ∷ w)) (j + 1) ≡ if (bar x) 1 0 + count_below (bar_at w) j
  bars j = count_shift (bar_at (x ∷ w)) (bar_at w) j bar_next

  start_zero : start_of (x ∷ w) 0 ≡ 0
  unfolding start_of first_from count_below
  start_zero = refl

  start_bar : (k : ℕ) → bar x ≡ true → start_of (x ∷ w) (suc k) ≡ start_of w k + 1
  unfolding start_of first_from
  start_bar k e =
      let h : (j : ℕ) → fewer (x ∷ w) (suc k) (j + 1) ≡ fewer w k j = λ j. rw (bars j, e) (ltb_suc (count_below (bar_at w) j) k) in
      rw (count_none (bar_at (x ∷ w)), lt-ltb 0 (suc k) (omega arith)) (first_shift (fewer (x ∷ w) (suc k)) (fewer w k) 0 (length w) h)

  start_other : (k : ℕ) → bar x ≡ false → start_of (x ∷ w) (suc k) ≡ start_of w (suc k) + 1
  unfolding start_of first_from
  start_other k e =
      let z : (j : ℕ) → 0 + count_below (bar_at w) j ≡ count_below (bar_at w) j = λ j. omega arith in
      let h : (j : ℕ) → fewer (x ∷ w) (suc k) (j + 1) ≡ fewer w (suc k) j = λ j. rw (bars j, e, z j) in
      rw (count_none (bar_at (x ∷ w)), lt-ltb 0 (suc k) (omega arith)) (first_shift (fewer (x ∷ w) (suc k)) (fewer w (suc k)) 0 (length w) h)

  no_bar_next : (j : ℕ) → no_bar (x ∷ w) (j + 1) ≡ no_bar w j
  no_bar_next j = rw (bar_next j)

  stop_bar : bar x ≡ true → stop_of (x ∷ w) 0 ≡ 0
  unfolding stop_of first_from
  stop_bar e = let z : suc (length w) - 0 ≡ suc (length w) = omega arith in rw (z, e)

  stop_other : bar x ≡ false → stop_of (x ∷ w) 0 ≡ stop_of w 0 + 1
  unfolding stop_of first_from
  stop_other e =
      let z : suc (length w) - 0 ≡ suc (length w) = omega arith in
      let y : length w - 0 ≡ length w = omega arith in
      rw (z, y, e) (first_shift (no_bar (x ∷ w)) (no_bar w) 0 (length w) no_bar_next)

  stop_next : (i : ℕ) → stop_of (x ∷ w) (i + 1) ≡ stop_of w i + 1
  unfolding stop_of
  stop_next i =
      let z : suc (length w) - (i + 1) ≡ length w - i = omega arith in
      rw z (first_shift (no_bar (x ∷ w)) (no_bar w) i (length w - i) no_bar_next)

  -- the same of the phrase that starts behind the first byte
  phrase_behind : (k m : ℕ) → start_of (x ∷ w) k ≡ start_of w m + 1 → phrase_of (x ∷ w) k ≡ phrase_of w m
  unfolding phrase_of
  phrase_behind k m e =
      let z : stop_of w (start_of w m) + 1 - (start_of w m + 1) ≡ stop_of w (start_of w m) - start_of w m = omega arith in
      rw (e, stop_next (start_of w m), z) (rw (add-one (start_of w m)))

start_first : (w : List ℕ) → start_of w 0 ≡ 0
unfolding start_of first_from count_below
start_first [] = refl
start_first (x ∷ w) = refl

phrase_bar : (x : ℕ) (w : List ℕ) → bar x ≡ true → phrase_of (x ∷ w) 0 ≡ []
unfolding phrase_of
phrase_bar x w e = rw (start_zero x w, stop_bar x w e)

phrase_other : (x : ℕ) (w : List ℕ) → bar x ≡ false → phrase_of (x ∷ w) 0 ≡ x ∷ phrase_of w 0
unfolding phrase_of
phrase_other x w e =
    let z : stop_of w 0 + 1 - 0 ≡ suc (stop_of w 0) = omega arith in
    let y : stop_of w 0 - 0 ≡ stop_of w 0 = omega arith in
    rw (start_zero x w, stop_other x w e, start_first w, z, y)

-- part k of a list that is split at its bars
abbrev part : List (List ℕ) → ℕ → List ℕ
part parts k = unwrap_or (slice_get parts k) []

onto_zero : (x : ℕ) (parts : List (List ℕ)) → 0 < length parts → part (onto_first x parts) 0 ≡ x ∷ part parts 0
onto_zero x [] h = absurd (omega (arith, h))
onto_zero x (p ∷ parts) h = refl

onto_next : (x k : ℕ) (parts : List (List ℕ)) → 0 < length parts → part (onto_first x parts) (suc k) ≡ part parts (suc k)
onto_next x k [] h = absurd (omega (arith, h))
onto_next x k (p ∷ parts) h = refl

phrase_part : (w : List ℕ) (k : ℕ) → part (slice_split bar w) k ≡ phrase_of w k
unfolding phrase_of start_of stop_of first_from
phrase_part [] zero = refl
phrase_part [] (suc k) = refl
phrase_part (x ∷ w) zero =
    let parts = slice_split bar w in
    let some : 0 < length parts = omega (arith, length-slice_split bar w) in
    by (bar x) (λ t. rw t (sym (phrase_bar x w t)))
    (λ t. rw t (onto_zero x parts some ∙ ap (λ (r : List ℕ). x ∷ r) (phrase_part w 0) ∙ sym (phrase_other x w t)))
phrase_part (x ∷ w) (suc k) =
    let parts = slice_split bar w in
    let some : 0 < length parts = omega (arith, length-slice_split bar w) in
    by (bar x) (λ t. rw t (phrase_part w k ∙ sym (phrase_behind x w (suc k) k (start_bar x w k t))))
    (λ t. rw t (onto_next x k parts some ∙ phrase_part w (suc k) ∙ sym (phrase_behind x w (suc k) (suc k) (start_other x w k t))))

now_or : (r : Option (Bor (List ℕ))) (d : Bor (List ℕ)) → (unwrap_or r d).now ≡ unwrap_or (option_map (λ y. y.now) r) d.now
now_or None d = refl
now_or (Some y) d = refl

pub phrase_is : (w : List ℕ) (k : ℕ) (r : Option (Bor (List ℕ))) (d : Bor (List ℕ)) {x : Bor (List ℕ)} → d.now ≡ [] → x ≡ unwrap_or r d
    → option_map (λ y. y.now) r ≡ slice_get (slice_split (λ y. eqb y 124) w) k → x.now ≡ phrase_of w k
phrase_is w k r d z e h = rw (e, now_or r d, h, z) (phrase_part w k)
