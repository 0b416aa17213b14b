-- Reading and writing undo one another: `specs/RoundTrip.antt`'s claims. Assumes nothing.
use Rattle.std.specs.Prelude.{Ok}
use mathlib.Core.Path.{◌≡◌, refl, sym, ap, subst, ◌∙◌}
use mathlib.Core.Bool.{Bool, true}
use mathlib.Core.List.{List, map}
use mathlib.Core.Logic.{◌⊎◌, inl, inr, ⊎_elim}
use Prim.Native.Nat.{ℕ, ◌+◌, ◌*◌, ◌/◌, ◌%◌, ◌<◌, ◌≤◌, zero-le}
use native.Mathlib.Nat.{eq-or-lt_of_le}
use native.Mathlib.Omega.{arith}
use borrow.Author.Tests.{le-leb, lt-ltb, eq-eqb, ne_eqb}
use lib.Seq.{ext_get_or}
use lib.ListN.{length, get_or, length-map, get_or-map}
use Rattle.record.specs.Bytes.{size, Bytes}
use Rattle.record.specs.Table.{tab}
use Rattle.record.proofs.Below.{all_of}
use Rattle.record.proofs.Table.{get_d_tab, length_tab}
use Rattle.text.specs.Hex.{letter_of, digit_value, is_digit}
use Rattle.text.specs.Text.{short_size, digits, lf, line_length, start, width, text_at, byte_at, digit_at, good_line, judge_from, read_of, write_of}
use Rattle.text.specs.RoundTrip.{upper, zero_digit, ComesBack, WrittenIsRead, ReadIsWritten, lengthened, ShortIsLengthened, restored, ReadIsRestored}
use Rattle.text.proofs.Laws.{value_small}
use Rattle.text.proofs.Letters.{letter_last, letter_value, value_letter, digit_letter, digit_no_lf, capital_no_lf}
use Rattle.text.proofs.Widths.{start_first, start_long, width_long, width_none, width_within, width_either, said, unsaid}
use Rattle.text.proofs.Lengthened.{longer}
use Rattle.text.proofs.Lined.{good_end, good_digit, judge_good, judge_lined, Lined}
use Rattle.text.proofs.Answers.{read_done, write_done}
use Rattle.text.proofs.Accepted.{missing_lines, WasRead, was_read, WasWritten, was_written}

-- the text of the records, by where in its line a byte stands
text_even : (r : List ℕ) (q m : ℕ) → m < size → text_at r (line_length size * q + digits m) ≡ letter_of (get_or r (size * q + m) 0 / 16)
unfolding text_at
text_even r q m h =
    let a : (line_length size * q + digits m) % line_length size ≡ digits m = omega arith in
    let d : (line_length size * q + digits m) / line_length size ≡ q = omega arith in
    let i : size * q + digits m / 2 ≡ size * q + m = omega arith in
    rw (a, d, i) (simp (ne_eqb (digits m) (digits size) (omega arith), eq-eqb (digits m % 2) 0 (omega arith)))

text_odd : (r : List ℕ) (q m : ℕ) → m < size → text_at r (line_length size * q + digits m + 1) ≡ letter_of (get_or r (size * q + m) 0)
unfolding text_at
text_odd r q m h =
    let a : (line_length size * q + digits m + 1) % line_length size ≡ digits m + 1 = omega arith in
    let d : (line_length size * q + digits m + 1) / line_length size ≡ q = omega arith in
    let i : size * q + (digits m + 1) / 2 ≡ size * q + m = omega arith in
    rw (a, d, i) (simp (ne_eqb (digits m + 1) (digits size) (omega arith), ne_eqb ((digits m + 1) % 2) 0 (omega arith)))

text_end : (r : List ℕ) (q : ℕ) → text_at r (line_length size * q + digits size) ≡ lf
unfolding text_at
text_end r q = let a : (line_length size * q + digits size) % line_length size ≡ digits size = omega arith in rw a

even_or_odd : (k : ℕ) → (k ≡ digits (k / 2)) ⊎ (k ≡ digits (k / 2) + 1)
even_or_odd k =
    let h : k % 2 ≤ 1 = omega arith in
    ⊎_elim (λ e. inr (omega arith)) (λ l. inl (omega arith)) (eq-or-lt_of_le h)

-- ---- the text that n records make
module _ (r : List ℕ) (n : ℕ) where
  at_even : (q m : ℕ) → q < n → m < size → get_or (tab (text_at r) (line_length size * n)) (line_length size * q + digits m) 0 ≡ letter_of (get_or r (size * q + m) 0 / 16)
  at_even q m g h = get_d_tab (text_at r) (line_length size * n) (line_length size * q + digits m) (omega arith) ∙ text_even r q m h

  at_odd : (q m : ℕ) → q < n → m < size → get_or (tab (text_at r) (line_length size * n)) (line_length size * q + digits m + 1) 0 ≡ letter_of (get_or r (size * q + m) 0)
  at_odd q m g h = get_d_tab (text_at r) (line_length size * n) (line_length size * q + digits m + 1) (omega arith) ∙ text_odd r q m h

  at_end : (q : ℕ) → q < n → get_or (tab (text_at r) (line_length size * n)) (line_length size * q + digits size) 0 ≡ lf
  at_end q g = get_d_tab (text_at r) (line_length size * n) (line_length size * q + digits size) (omega arith) ∙ text_end r q

  -- each line is good
  digit_back : (j k : ℕ) → j < n → k < digits size → digit_at (tab (text_at r) (line_length size * n)) (line_length size * j) k ≡ true
  digit_back j k g h =
      let digit : ℕ → Bool = λ i. is_digit (get_or (tab (text_at r) (line_length size * n)) i 0) in
      ⊎_elim
      (λ e. ap digit (omega arith) ∙ ap is_digit (at_even j (k / 2) g (omega arith)) ∙ digit_letter (get_or r (size * j + k / 2) 0 / 16))
      (λ e. ap digit (omega arith) ∙ ap is_digit (at_odd j (k / 2) g (omega arith)) ∙ digit_letter (get_or r (size * j + k / 2) 0))
      (even_or_odd k)

  line_back : (j : ℕ) → j < n → good_line size (tab (text_at r) (line_length size * n)) (line_length size * j) ≡ true
  unfolding good_line
  line_back j g =
      simp (
        le-leb (line_length size * j + line_length size) (length (tab (text_at r) (line_length size * n))) (omega (arith, length_tab (text_at r) (line_length size * n))),
        eq-eqb (get_or (tab (text_at r) (line_length size * n)) (line_length size * j + digits size) 0) lf (at_end j g),
        all_of (digit_at (tab (text_at r) (line_length size * n)) (line_length size * j)) (digits size) (λ k h. digit_back j k g h),
      )

  -- line 1 is a long one
  width_back : width (tab (text_at r) (line_length size * n)) ≡ size
  width_back = width_of (eq-or-lt_of_le {n = 0} {m = n} zero-le)
    where
      width_of : (0 ≡ n) ⊎ (0 < n) → width (tab (text_at r) (line_length size * n)) ≡ size
      width_of (inl e) = width_none _ (omega (arith, length_tab (text_at r) (line_length size * n)))
      width_of (inr g) = width_long _ (digit_no_lf _ (digit_back 0 (digits short_size) g (omega arith)))

  -- each byte is read back
  byte_back : Bytes r → (i : ℕ) → i < size * n → byte_at (tab (text_at r) (line_length size * n)) i ≡ get_or r i 0
  unfolding byte_at start
  byte_back bytes i h =
      let k : size * (i / size) + i % size ≡ i = omega arith in
      rw width_back (simp (lt-ltb (i % size) size (omega arith))
      (rw (at_even (i / size) (i % size) (omega arith) (omega arith), at_odd (i / size) (i % size) (omega arith) (omega arith), k)
      (simp (value_letter (get_or r i 0 / 16), value_letter (get_or r i 0)) (omega (arith, bytes i)))))

  judged_back : (most : ℕ) → n ≤ most → judge_from size (tab (text_at r) (line_length size * n)) most 0 ≡ Ok n
  unfolding start
  judged_back most h = judge_good size (tab (text_at r) (line_length size * n)) most 0 n (length_tab (text_at r) (line_length size * n)) zero-le (omega arith) (λ j _ g. line_back j g)

pub written_is_read : WrittenIsRead
written_is_read k r room room' m bytes w h =
    let v : WasWritten k room r m = was_written k r room m w in
    let n : ℕ = length r / size in
    let l : size * n ≡ length r = omega (arith, v.whole) in
    let back : read_of k (tab (text_at r) (line_length size * n)) room' ≡ Ok (size * n) =
    read_done k (tab (text_at r) (line_length size * n)) room' n (sym (width_back r n)) (judged_back r n k.most v.few) (sym (missing_lines k n) ∙ rw l v.some) (omega arith) in
    rw v.is (
      back ∙ ap Ok l,
      ext_get_or 0 _ r (length_tab _ (length r)) (λ i g. get_d_tab _ (length r) i (rw length_tab at g) ∙ byte_back r n bytes i (omega (arith, length_tab (byte_at (tab (text_at r) (line_length size * n))) (length r)))),
    )

-- ---- the records of a text of n good lines
module _ (s : List ℕ) (n : ℕ) (bytes : Bytes s) (good : (j : ℕ) → j < n → good_line (width s) s (start (width s) j) ≡ true) where
  byte_said : (q m : ℕ) → q < n → m < width s
      → get_or (tab (byte_at s) (size * n)) (size * q + m) 0 ≡ 16 * digit_value (get_or s (start (width s) q + digits m) 0) + digit_value (get_or s (start (width s) q + digits m + 1) 0)
  byte_said q m g h =
      let wide : width s ≤ size = (width_within s).1 in
      let a : (size * q + m) / size ≡ q = omega arith in
      let b : (size * q + m) % size ≡ m = omega arith in
      get_d_tab (byte_at s) (size * n) (size * q + m) (omega arith) ∙ rw (a, b) at (said s (size * q + m) (width s) refl (omega arith))

  byte_unsaid : (q m : ℕ) → q < n → width s ≤ m → m < size → get_or (tab (byte_at s) (size * n)) (size * q + m) 0 ≡ 0
  byte_unsaid q m g h l =
      let b : (size * q + m) % size ≡ m = omega arith in
      get_d_tab (byte_at s) (size * n) (size * q + m) (omega arith) ∙ unsaid s (size * q + m) (width s) refl (omega arith)

  -- what a line says comes back as capitals ..
  capital_even : (q m : ℕ) → q < n → m < width s → text_at (tab (byte_at s) (size * n)) (line_length size * q + digits m) ≡ upper (get_or s (start (width s) q + digits m) 0)
  capital_even q m g h =
      let wide : width s ≤ size = (width_within s).1 in
      let at : ℕ = start (width s) q + digits m in
      let e : get_or (tab (byte_at s) (size * n)) (size * q + m) 0 / 16 ≡ digit_value (get_or s at 0) =
      omega (arith, byte_said q m g h, value_small (get_or s (at + 1) 0) (bytes (at + 1))) in
      text_even (tab (byte_at s) (size * n)) q m (omega arith) ∙ ap letter_of e ∙ letter_value (get_or s at 0) (bytes at) (good_digit (width s) s (start (width s) q) (good q g) (digits m) (omega arith))

  capital_odd : (q m : ℕ) → q < n → m < width s → text_at (tab (byte_at s) (size * n)) (line_length size * q + digits m + 1) ≡ upper (get_or s (start (width s) q + digits m + 1) 0)
  capital_odd q m g h =
      let wide : width s ≤ size = (width_within s).1 in
      let at : ℕ = start (width s) q + digits m + 1 in
      let e : get_or (tab (byte_at s) (size * n)) (size * q + m) 0 % 16 ≡ digit_value (get_or s at 0) = omega (arith, byte_said q m g h, value_small (get_or s at 0) (bytes at)) in
      let i : start (width s) q + (digits m + 1) ≡ at = omega arith in
      text_odd (tab (byte_at s) (size * n)) q m (omega arith) ∙ letter_last _ ∙ ap letter_of e ∙ letter_value (get_or s at 0) (bytes at) (rw i at (good_digit (width s) s (start (width s) q) (good q g) (digits m + 1) (omega arith)))

  capital : (q k : ℕ) → q < n → k < digits (width s) → text_at (tab (byte_at s) (size * n)) (line_length size * q + k) ≡ upper (get_or s (start (width s) q + k) 0)
  capital q k g h =
      let Same : ℕ → ℕ → Type 0 = λ i j. text_at (tab (byte_at s) (size * n)) i ≡ upper (get_or s j 0) in
      ⊎_elim
      (λ e. rw (← e) at (capital_even q (k / 2) g (omega arith)))
      (λ e. subst (λ (i : ℕ). Same i (start (width s) q + k)) (omega arith) (subst (Same (line_length size * q + digits (k / 2) + 1)) (omega arith) (capital_odd q (k / 2) g (omega arith))))
      (even_or_odd k)

  -- .. and zeros come back for the rest of it
  zero_even : (q m : ℕ) → q < n → width s ≤ m → m < size → text_at (tab (byte_at s) (size * n)) (line_length size * q + digits m) ≡ zero_digit
  unfolding letter_of
  zero_even q m g h l = text_even (tab (byte_at s) (size * n)) q m l ∙ rw (byte_unsaid q m g h l)

  zero_odd : (q m : ℕ) → q < n → width s ≤ m → m < size → text_at (tab (byte_at s) (size * n)) (line_length size * q + digits m + 1) ≡ zero_digit
  unfolding letter_of
  zero_odd q m g h l = text_odd (tab (byte_at s) (size * n)) q m l ∙ rw (byte_unsaid q m g h l)

  zeros : (q k : ℕ) → q < n → digits (width s) ≤ k → k < digits size → text_at (tab (byte_at s) (size * n)) (line_length size * q + k) ≡ zero_digit
  zeros q k g h l =
      ⊎_elim
      (λ e. ap (text_at (tab (byte_at s) (size * n))) (omega arith) ∙ zero_even q (k / 2) g (omega arith) (omega arith))
      (λ e. ap (text_at (tab (byte_at s) (size * n))) (omega arith) ∙ zero_odd q (k / 2) g (omega arith) (omega arith))
      (even_or_odd k)

  -- all of a long line comes back, its LF too
  long_back : width s ≡ size → (j : ℕ) → j < line_length size * n → text_at (tab (byte_at s) (size * n)) j ≡ upper (get_or s j 0)
  unfolding start
  long_back e j h =
      let q : ℕ = j / line_length size in
      let k : ℕ = j % line_length size in
      let g : q < n = omega arith in
      let le : k ≤ digits size = omega arith in
      let at : line_length size * q + k ≡ j = omega arith in
      let from : start (width s) q ≡ line_length size * q = ap (λ (w : ℕ). start w q) e in
      ⊎_elim
      (λ z. ap (text_at (tab (byte_at s) (size * n))) (omega arith) ∙ text_end (tab (byte_at s) (size * n)) q ∙ ap upper (sym (ap (λ (i : ℕ). get_or s i 0) (omega arith) ∙ good_end (width s) s (start (width s) q) (good q g))))
      (λ l. rw (from, at) at (capital q k g (omega arith)))
      (eq-or-lt_of_le le)

  -- a short line comes back with zeros before its LF
  short_back : width s ≡ short_size → length s ≡ start (width s) n → tab (text_at (tab (byte_at s) (size * n))) (line_length size * n) ≡ lengthened (map upper s)
  unfolding start
  short_back e long =
      let r : List ℕ = tab (byte_at s) (size * n) in
      longer (text_at r) (map upper s) n
      (length-map s upper ∙ long ∙ ap (λ (w : ℕ). start w n) e)
      (λ q k g h. rw e at (capital q k g (rw e h)) ∙ sym (get_or-map upper s (line_length short_size * q + k) 0))
      (λ q k g h z. capital_no_lf (get_or s (line_length short_size * q + k) 0) (bytes (line_length short_size * q + k)) (rw e at (good_digit (width s) s (start (width s) q) (good q g) k (rw e h))) (sym (get_or-map upper s (line_length short_size * q + k) 0) ∙ z))
      (λ q g. get_or-map upper s (line_length short_size * q + digits short_size) 0 ∙ ap upper (rw e at (good_end (width s) s (start (width s) q) (good q g))))
      (λ q k g h l. zeros q k g (rw e h) l)
      (λ q g. text_end r q)

-- what comes back, by what the records of the lines make
comes_back : (s other : List ℕ) → ((most n : ℕ) → Lined (width s) s most 0 n → tab (text_at (tab (byte_at s) (size * n))) (line_length size * n) ≡ other) → ComesBack s other
comes_back s other same k room room' m w h =
    let v : WasRead k room (judge_from (width s) s k.most 0) m = was_read k s room m w in
    let n : ℕ = v.n in
    let l : Lined (width s) s k.most 0 n = judge_lined (width s) s k.most 0 n (start_first (width s) s) v.judged in
    let e : tab (text_at (tab (byte_at s) (size * n))) (line_length size * n) ≡ other = same k.most n l in
    let z : length other ≡ line_length size * n = ap length (sym e) ∙ length_tab _ (line_length size * n) in
    let long : length (tab (byte_at s) (size * n)) ≡ size * n = length_tab (byte_at s) (size * n) in
    let d : length (tab (byte_at s) (size * n)) / size ≡ n = omega arith in
    let done : write_of k (tab (byte_at s) (size * n)) room' ≡ Ok (line_length size * (length (tab (byte_at s) (size * n)) / size)) =
    write_done k (tab (byte_at s) (size * n)) room' (rw long (missing_lines k n ∙ v.some)) (omega arith) (omega (arith, l.few)) (omega arith) in
    rw (v.is, z) (done ∙ ap (λ (x : ℕ). Ok (line_length size * x)) d, e)

-- the text that the records of n lines make, by the width
long_made : (s : List ℕ) → Bytes s → width s ≡ size → {most : ℕ} (n : ℕ) → Lined (width s) s most 0 n → tab (text_at (tab (byte_at s) (size * n))) (line_length size * n) ≡ map upper s
long_made s bytes e n l =
    let z : length s ≡ line_length size * n = l.long ∙ ap (λ (w : ℕ). start w n) e ∙ start_long n in
    ext_get_or 0 _ (map upper s) (length_tab _ (line_length size * n) ∙ sym z ∙ sym (length-map s upper))
    (λ i g. let g' : i < line_length size * n = rw length_tab at g in get_d_tab _ (line_length size * n) i g' ∙ long_back s n bytes (λ j a. l.good j zero-le a) e i g' ∙ sym (get_or-map upper s i 0))

short_made : (s : List ℕ) → Bytes s → width s ≡ short_size → {most : ℕ} (n : ℕ) → Lined (width s) s most 0 n → tab (text_at (tab (byte_at s) (size * n))) (line_length size * n) ≡ lengthened (map upper s)
short_made s bytes e n l = short_back s n bytes (λ j a. l.good j zero-le a) e l.long

made : (s : List ℕ) → Bytes s → {most : ℕ} (n : ℕ) → Lined (width s) s most 0 n → tab (text_at (tab (byte_at s) (size * n))) (line_length size * n) ≡ restored s
made s bytes n l =
    ⊎_elim
    (λ e. short_made s bytes e n l ∙ sym (rw e))
    (λ e. long_made s bytes e n l ∙ sym (rw e))
    (width_either s)

-- it has a written line's length for each line
pub restored_long : (s : List ℕ) → Bytes s → {most : ℕ} (n : ℕ) → Lined (width s) s most 0 n → length (restored s) ≡ line_length size * n
restored_long s bytes n l = ap length (sym (made s bytes n l)) ∙ length_tab _ (line_length size * n)

pub read_is_written : ReadIsWritten
read_is_written s bytes e = comes_back s (map upper s) (λ most n l. long_made s bytes e n l)

pub short_is_lengthened : ShortIsLengthened
short_is_lengthened s bytes e = comes_back s (lengthened (map upper s)) (λ most n l. short_made s bytes e n l)

pub read_is_restored : ReadIsRestored
read_is_restored s bytes = comes_back s (restored s) (λ most n l. made s bytes n l)
