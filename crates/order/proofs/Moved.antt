-- A row of children of a book that keeps the rules, reordered: its parts stand in both books, and all else is as it was. Assumes nothing.
use mathlib.Core.Path.{◌≡◌, refl, sym, ap, ◌∙◌}
use mathlib.Core.Bool.{Bool, true}
use mathlib.Core.List.{List, [], ◌∷◌, ◌++◌, append_assoc, append-nil}
use mathlib.Core.Logic.{⊎_elim}
use Prim.Native.Nat.{ℕ, zero, suc, ◌+◌, ◌-◌, ◌*◌, ◌≤◌, ◌<◌}
use native.Mathlib.Nat.{add-zero, eq-or-lt_of_le}
use native.Mathlib.Omega.{arith}
use lib.Dec.{eqb, ltb}
use lib.ListN.{length, take, drop, length-append, length-drop, take-append-drop, get_or-append, get_or-eq_default}
use lib.Seq.{length-take-le, get_or-append-add, get_or-take, get_or-drop}
use borrow.Author.Tests.{ltb-true, ltb-false}
use Rattle.record.specs.Bytes.{size, byte_of, span_of}
use Rattle.record.proofs.Choose.{no_false}
use Rattle.fields.specs.First.{count_below, last_below}
use Rattle.fields.specs.Fields.{obligations_of}
use Rattle.fields.proofs.First.{by, count_same}
use Rattle.operands.specs.Parent.{end_of, parent_of}
use Rattle.operands.proofs.Parent.{span_end}
use Rattle.placement.specs.Keeps.{Keeps}
use Rattle.placement.proofs.Laws.{ends_within}
use Rattle.judge.proofs.Sound.{kept_nests}
use Rattle.structure.specs.Subtrees.{slice_of, SameRecord, SameRecords}
use Rattle.structure.proofs.Records.{but_span, kind_byte, span_same}
use Rattle.structure.proofs.Subtrees.{same_first}
use Rattle.structure.proofs.Parts.{slice_bytes}
use Rattle.order.specs.Reordered.{Reordered, none, keep, swap, then}
use Rattle.order.specs.Books.{moves, movable, Row, together}
use Rattle.order.proofs.Reordered.{Each, each_reordered, none_reordered, single_reordered}
use Rattle.order.proofs.Rows.{Part, Standing, RowMoved}

-- a number of each, added up
abbrev total : {A : Type 0} → (A → ℕ) → List A → ℕ
total f [] = 0
total f (x ∷ xs) = f x + total f xs

total_reordered : {A : Type 0} (f : A → ℕ) {xs ys : List A} → Reordered A xs ys → total f xs ≡ total f ys
total_reordered f none = refl
total_reordered f (keep {x} r) = ap (λ (n : ℕ). f x + n) (total_reordered f r)
total_reordered f (swap {x} {y} {xs}) = omega arith
total_reordered f (then r s) = total_reordered f r ∙ total_reordered f s

-- the records of parts, and the obligation records among them
abbrev spans : List (List ℕ) → ℕ
spans xs = total (λ (x : List ℕ). span_of x 0) xs

abbrev obligations : List (List ℕ) → ℕ
obligations xs = total (λ (x : List ℕ). obligations_of x (span_of x 0)) xs

-- a record that may be moved is known by its first byte
movable_same : (b : List ℕ) (i : ℕ) (c : List ℕ) (j : ℕ) → SameRecord b i c j → movable b i ≡ movable c j
movable_same b i c j h = ap moves (kind_byte b i c j (but_span b i c j h))

-- and is there: behind the book all bytes read as zero
movable_inside : (b : List ℕ) (n i : ℕ) → length b ≡ n * size → movable b i ≡ true → i < n
movable_inside b n i l h =
    by (ltb i n) (λ t. ltb-true i n t)
    (λ t. let z = ltb-false i n t in
    let e : byte_of b i 0 ≡ 0 = get_or-eq_default b 0 (omega arith) in
    no_false (sym (ap moves e) ∙ h))

-- a record of the book
module _ (b : List ℕ) (n : ℕ) (k : Keeps b n) (i : ℕ) (l : i < n) where
  span_some : 1 ≤ span_of b i
  span_some = (kept_nests b n k).spans i l

  span_inside : i + span_of b i ≤ n
  span_inside = omega (arith, (kept_nests b n k).ends i l, span_end b i (span_of b i) refl)

  -- line 1 stands for its own parent
  span_within : i + span_of b i ≤ end_of b (parent_of b i)
  unfolding parent_of last_below
  span_within =
      let e = span_end b i (span_of b i) refl in
      ⊎_elim (λ (t : 0 ≡ i). let q : parent_of b i ≡ i = rw (← t) refl in rw q (omega arith))
      (λ (t : 0 < i). omega (arith, ends_within b i t (k.places i l)))
      (eq-or-lt_of_le (omega arith))

  slice_first : SameRecord (slice_of b i (span_of b i)) 0 b i
  slice_first = same_first (slice_of b i (span_of b i)) 0 b i (span_of b i) (slice_bytes b i (span_of b i)) span_some

  slice_span : span_of (slice_of b i (span_of b i)) 0 ≡ span_of b i
  slice_span = span_same (slice_of b i (span_of b i)) 0 b i slice_first

  slice_length : length (slice_of b i (span_of b i)) ≡ span_of b i * size
  unfolding slice_of
  slice_length = length-take-le (span_of b i * size) (drop (i * size) b) (omega (arith, length-drop (i * size) b, k.sized.bytes, span_inside))

  slice_part : movable b i ≡ true → Part (slice_of b i (span_of b i))
  slice_part m = record {
    some = rw slice_span span_some;
    whole = rw slice_span slice_length;
    moves = movable_same (slice_of b i (span_of b i)) 0 b i slice_first ∙ m;
  }

-- a row does not go back
pub row_upto : (b : List ℕ) (p : ℕ) {i e : ℕ} {xs : List (List ℕ)} → Row b p i e xs → i ≤ e
row_upto b p Row.end = omega arith
row_upto b p (Row.next q m r) = omega (arith, row_upto b p r)

-- a row of the book
module _ (b : List ℕ) (n : ℕ) (k : Keeps b n) (p : ℕ) where
  inside : {i : ℕ} → movable b i ≡ true → i < n
  inside {i} m = movable_inside b n i k.sized.bytes m

  row_empty : {i e : ℕ} {xs : List (List ℕ)} → Row b p i e xs → i ≡ e → xs ≡ []
  row_empty Row.end h = refl
  row_empty (Row.next {i} q m r) h = absurd (omega (arith, span_some b n k i (inside m), row_upto b p r))

  -- a row that is not empty begins at a child of p and ends where p does or before
  child_ends : (i : ℕ) → parent_of b i ≡ p → movable b i ≡ true → (i + span_of b i ≤ end_of b p) × (i + span_of b i ≤ n)
  child_ends i q m = (rw q at (span_within b n k i (inside m)), span_inside b n k i (inside m))

  row_ends : {i e : ℕ} {xs : List (List ℕ)} → Row b p i e xs → (i ≤ end_of b p) × (i ≤ n) → (e ≤ end_of b p) × (e ≤ n)
  row_ends Row.end h = h
  row_ends (Row.next {i} q m r) h = row_ends r (child_ends i q m)

  row_bounds : {i e : ℕ} {xs : List (List ℕ)} → Row b p i e xs → i < e → (parent_of b i ≡ p) × ((e ≤ end_of b p) × (e ≤ n))
  row_bounds Row.end h = absurd (omega arith)
  row_bounds (Row.next {i} q m r) h = (q, row_ends r (child_ends i q m))

  row_standing : {i e : ℕ} {xs : List (List ℕ)} → Row b p i e xs → Standing b i e xs
  row_standing Row.end = Standing.end
  row_standing (Row.next {i} q m r) =
      let s = slice_span b n k i (inside m) in
      Standing.next {i = i} (slice_part b n k i (inside m) m) (rw s (slice_bytes b i (span_of b i))) (rw (← s) at (row_standing r))

  -- behind the book there is no row
  row_behind : {i e : ℕ} {xs : List (List ℕ)} → Row b p i e xs → n ≤ i → (xs ≡ []) × (i ≡ e)
  row_behind Row.end h = (refl, refl)
  row_behind (Row.next q m r) h = absurd (omega (arith, inside m))

  -- and so none goes on after line 1, whose span is the book
  row_one : {i e : ℕ} {xs : List (List ℕ)} → Row b p i e xs → i ≡ 0 → i < e → (xs ≡ slice_of b 0 n ∷ []) × (e ≡ n)
  row_one Row.end h l = absurd (omega arith)
  row_one (Row.next {i} q m r) h l =
      let s : span_of b i ≡ n = ap (span_of b) h ∙ omega (arith, (kept_nests b n k).whole, span_end b 0 (span_of b 0) refl) in
      let z = row_behind r (omega arith) in
      (rw (z.0, s, h) refl, omega (arith, z.1))

-- parts that stand in a book: each is a part, and where the last ends
standing_parts : (b : List ℕ) {i e : ℕ} {xs : List (List ℕ)} → Standing b i e xs → Each Part xs
standing_parts b Standing.end = tt
standing_parts b (Standing.next w h s) = (w, standing_parts b s)

standing_end : (b : List ℕ) {i e : ℕ} {xs : List (List ℕ)} → Standing b i e xs → e ≡ i + spans xs
standing_end b Standing.end = omega arith
standing_end b (Standing.next w h s) = omega (arith, standing_end b s)

parts_length : (xs : List (List ℕ)) → Each Part xs → length (together xs) ≡ spans xs * size
parts_length [] h = refl
parts_length (x ∷ xs) h = omega (arith, length-append x (together xs), h.0.whole, parts_length xs h.1)

-- parts that are written one after another stand there
written : (c front x rest : List ℕ) (i : ℕ) → length front ≡ i * size → Part x → c ≡ front ++ (x ++ rest) → SameRecords x 0 c i (span_of x 0)
written c front x rest i l w e m h k g =
    let at : ℕ = m * size + k in
    let there : (i + m) * size + k ≡ length front + at = omega arith in
    let here : (0 + m) * size + k ≡ at = omega arith in
    rw (e, here, there, get_or-append-add front (x ++ rest) at 0, get_or-append x rest 0 at (omega (arith, w.whole))) refl

together_standing : (c : List ℕ) (xs : List (List ℕ)) (front back : List ℕ) (i : ℕ) → length front ≡ i * size → Each Part xs
    → c ≡ front ++ (together xs ++ back) → Standing c i (i + spans xs) xs
together_standing c [] front back i l h e = let z : i + 0 ≡ i = omega arith in rw z Standing.end
together_standing c (x ∷ xs) front back i l h e =
    let q : c ≡ front ++ (x ++ (together xs ++ back)) = rw append_assoc at e in
    let z : i + (span_of x 0 + spans xs) ≡ i + span_of x 0 + spans xs = omega arith in
    let more : length (front ++ x) ≡ (i + span_of x 0) * size = omega (arith, length-append front x, h.0.whole) in
    rw z (Standing.next h.0 (written c front x (together xs ++ back) i l h.0 q)
    (together_standing c xs (front ++ x) back (i + span_of x 0) more h.1 (rw append_assoc q)))

-- first some numbers, then the others
count_add : (f : ℕ → Bool) (m n : ℕ) → count_below f (m + n) ≡ count_below f m + count_below (λ (j : ℕ). f (m + j)) n
unfolding count_below
count_add f m zero = rw (add-zero m) (omega arith)
count_add f m (suc n) =
    let e : m + suc n ≡ suc (m + n) = omega arith in
    rw (e, count_add f m n) (omega arith)

-- the obligation records among the s records from i on
abbrev owes : List ℕ → ℕ → ℕ → ℕ
owes b i s = count_below (λ (m : ℕ). eqb (byte_of b (i + m) 0) 8) s

owes_same : (b : List ℕ) (i : ℕ) (c : List ℕ) (j s : ℕ) → SameRecords b i c j s → owes b i s ≡ owes c j s
owes_same b i c j s h = count_same _ _ s (λ m l. ap (λ (x : ℕ). eqb x 8) (h m l 0 (omega arith)))

owes_add : (b : List ℕ) (i s : ℕ) → obligations_of b (i + s) ≡ obligations_of b i + owes b i s
unfolding obligations_of
owes_add b i s = count_add (λ (j : ℕ). eqb (byte_of b j 0) 8) i s

owes_first : (b : List ℕ) (s : ℕ) → obligations_of b s ≡ owes b 0 s
unfolding obligations_of
owes_first b s = count_same _ _ s (λ m l. let z : m ≡ 0 + m = omega arith in ap (λ (x : ℕ). eqb (byte_of b x 0) 8) z)

standing_owes : (b : List ℕ) {i e : ℕ} {xs : List (List ℕ)} → Standing b i e xs → obligations_of b e ≡ obligations_of b i + obligations xs
standing_owes b Standing.end = omega arith
standing_owes b (Standing.next {i} {x = x} w h s) =
    let a = owes_add b i (span_of x 0) in
    let d = owes_same x 0 b i (span_of x 0) h in
    let f = owes_first x (span_of x 0) in
    omega (arith, standing_owes b s)

-- c is b with other bytes, as many, from record `first` to record `last`
module _ (b c : List ℕ) (n first last : ℕ) (row : List ℕ) (lb : length b ≡ n * size) (up : first ≤ last) (le : last ≤ n)
    (lr : length row ≡ (last - first) * size) (e : c ≡ take (first * size) b ++ (row ++ drop (last * size) b)) where
  front_length : length (take (first * size) b) ≡ first * size
  front_length = length-take-le (first * size) b (omega arith)

  same_head : SameRecords b 0 c 0 first
  same_head m h k g =
      let at : ℕ = (0 + m) * size + k in
      let f = front_length in
      rw (e, get_or-append (take (first * size) b) (row ++ drop (last * size) b) 0 at (omega arith), get_or-take (first * size) b at 0 (omega arith)) refl

  same_tail : SameRecords b last c last (n - last)
  same_tail m h k g =
      let at : ℕ = m * size + k in
      let front : List ℕ = take (first * size) b in
      let back : List ℕ = drop (last * size) b in
      let f = front_length in
      let there : (last + m) * size + k ≡ length front + (length row + at) = omega arith in
      let here : length front + (length row + at) ≡ last * size + at = omega arith in
      rw (e, there, get_or-append-add front (row ++ back) (length row + at) 0, get_or-append-add row back at 0, get_or-drop (last * size) b at 0, here) refl

  same_length : length c ≡ length b
  same_length =
      let d = length-drop (last * size) b in
      let x = length-append (take (first * size) b) (row ++ drop (last * size) b) in
      let y = length-append row (drop (last * size) b) in
      omega (arith, front_length, ap length e)

  all_else : (length (take (first * size) b) ≡ first * size) × SameRecords b 0 c 0 first × SameRecords b last c last (n - last) × (length c ≡ length b)
  all_else = (front_length, same_head, same_tail, same_length)

-- as many obligation records before the row, in it and behind it
row_owes : (b c : List ℕ) (n first last : ℕ) (before after : List (List ℕ)) → last ≤ n → SameRecords b 0 c 0 first → SameRecords b last c last (n - last)
    → Reordered (List ℕ) before after → Standing b first last before → Standing c first last after → obligations_of c n ≡ obligations_of b n
row_owes b c n first last before after le head tail r old new =
    let z : last + (n - last) ≡ n = omega arith in
    let h = owes_same b 0 c 0 first head in
    let hb = owes_first b first in
    let hc = owes_first c first in
    let mb = standing_owes b old in
    let mc = standing_owes c new in
    let m : obligations before ≡ obligations after = total_reordered _ r in
    let t = owes_same b last c last (n - last) tail in
    let tb = rw z at (owes_add b last (n - last)) in
    let tc = rw z at (owes_add c last (n - last)) in
    omega arith

-- a row of the book, reordered
module _ (b c : List ℕ) (n : ℕ) (k : Keeps b n) {p first last : ℕ} {before after : List (List ℕ)} (row : Row b p first last before)
    (r : Reordered (List ℕ) before after) (e : c ≡ take (first * size) b ++ (together after ++ drop (last * size) b)) where
  pub row_moved : 0 < first → first < last → RowMoved b c n p first last before after
  row_moved z l =
      let o = row_bounds b n k p row l in
      let old = row_standing b n k p row in
      let parts = each_reordered Part r (standing_parts b old) in
      let ends : first + spans after ≡ last = omega (arith, standing_end b old, total_reordered (λ (x : List ℕ). span_of x 0) r) in
      let whole : length (together after) ≡ (last - first) * size = omega (arith, parts_length after parts) in
      let w = all_else b c n first last (together after) k.sized.bytes (omega arith) o.1.1 whole e in
      let new : Standing c first last after =
      rw ends at (together_standing c after (take (first * size) b) (drop (last * size) b) first w.0 parts e) in
      record {
        below = z;
        some = l;
        inside = o.1.1;
        parent = o.0;
        within = o.1.0;
        head = w.1;
        tail = w.2;
        long = w.3;
        owes = row_owes b c n first last before after o.1.1 w.1 w.2 r old new;
        old = old;
        new = new;
        order = r;
      }

  -- where the row is empty
  pub row_none : first ≡ last → c ≡ b
  row_none q =
      let z : after ≡ [] = none_reordered r (row_empty b n k p row q) in
      (rw (z, ← q) at e) ∙ take-append-drop (first * size) b

  -- where it begins at line 1 it is empty or the whole book
  pub row_whole : first ≡ 0 → c ≡ b
  unfolding slice_of
  row_whole q =
      ⊎_elim row_none
      (λ (l : first < last). let w = row_one b n k p row q l in
      let z : after ≡ slice_of b 0 n ∷ [] = single_reordered (slice_of b 0 n) r w.0 in
      (rw (z, q, w.1, append-nil) at e) ∙ take-append-drop (n * size) b)
      (eq-or-lt_of_le (row_upto b p row))
