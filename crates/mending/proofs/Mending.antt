-- What each turn of `mend` knows. Assumes nothing.
use mathlib.Core.Path.{◌≡◌, refl, sym, ◌∙◌}
use mathlib.Core.List.{List, [], ◌∷◌, ◌++◌}
use Prim.Native.Nat.{ℕ, suc, ◌+◌, ◌-◌, ◌*◌, ◌/◌, ◌%◌, ◌≤◌, ◌<◌}
use native.Mathlib.Omega.{arith}
use lib.ListN.{length, drop, length-append, length-take, length-drop}
use Rattle.record.specs.Bytes.{size, byte_of, span_of}
use Rattle.record.specs.Stored.{stored}
use Rattle.record.proofs.Forests.{span_stated}
use Rattle.record.proofs.Stored.{stored_then, stored_none}
use Rattle.fields.specs.Fields.{kind_at}
use Rattle.fields.specs.declared.Kind.{Kind}
use Rattle.placement.specs.Place.{kind_number}
use Rattle.structure.specs.Subtrees.{record_count, record_at, slice_of}
use Rattle.structure.proofs.Subtrees.{count_subtrees}
use Rattle.spoilt.specs.Places.{parent, bad_at, spoilt_at}
use Rattle.record.proofs.Steps.{Left, step}
use Rattle.spoilt.proofs.Lines.{Kept, subtrees_end}
use Rattle.record.specs.Siblings.{Passes}
use Rattle.record.specs.declared.siblings.Siblings.{Siblings}
use Rattle.spoilt.proofs.Walk.{kids, rest, tree, kids_sound, kids_unsound, bad_ge, Unspoilt, unspoilt_kept, unspoilt_next}
use Rattle.mending.specs.Mending.{deny_policy, deny_rule, Replacement}
use Rattle.mending.specs.Places.{mended_from, replaced_from}
use Rattle.mending.specs.Salvaged.{bytes_of_all}
use Rattle.mending.proofs.Mended.{replaced_none, replaced_kept, replaced_new, one_bytes, bytes_none, bytes_kept, bytes_new}

-- at the end nothing is
later_none : (b : List ℕ) (n c i : ℕ) → n ≤ i → mended_from b n c i ≡ []
unfolding mended_from
later_none b n c i l = rw (subtrees_end b i n l) (bytes_none (parent 1 1 c c))

told_none : (b : List ℕ) (n c i : ℕ) → n ≤ i → replaced_from b n c i ≡ []
unfolding replaced_from
told_none b n c i l = rw (subtrees_end b i n l) (replaced_none (parent 1 1 c c) (i + 1))

-- one child of line 1, kept or replaced, by whether a line in it is bad
module _ (b : List ℕ) {i n c e : ℕ} (h : Kept b i n 1 1 c c e) {k : Kind} {a s m x : ℕ} (ek : k ≡ kind_at b i) (ea : a ≡ byte_of b i 4) (es : s ≡ span_of b i)
    (em : m ≡ kind_number k) (ex : x ≡ bad_at (parent 2 m c a) 0 b (i + 1) (i + s - (i + 1))) where
  next : i + 1 + suc (record_count (kids b i)) ≡ i + s + 1
  next = omega (arith, count_subtrees b (i + 1) (span_of b i - 1), h.some, es)

  later_kept : n * size ≤ length b → i + s ≤ x → mended_from b n c i ≡ slice_of b i s ++ mended_from b n c (i + s)
  unfolding mended_from
  later_kept long l =
      rw (
        tree b h,
        bytes_kept (parent 1 1 c c) (record_at b i) (kids b i) (rest b i n) (kids_sound b h ek ea es em ex l),
        one_bytes b i (span_of b i) h.some (span_stated b i (span_of b i) h.some (omega arith)) (omega (arith, h.within)),
        es,
      ) refl

  later_new : x < i + s → mended_from b n c i ≡ (deny_policy ++ deny_rule) ++ mended_from b n c (i + s)
  unfolding mended_from
  later_new l = rw (tree b h, bytes_new (parent 1 1 c c) (record_at b i) (kids b i) (rest b i n) (kids_unsound b h ek ea es em ex l), es) refl

  told_kept : i + s ≤ x → replaced_from b n c i ≡ replaced_from b n c (i + s)
  unfolding replaced_from
  told_kept l =
      rw (tree b h, replaced_kept (parent 1 1 c c) (record_at b i) (kids b i) (rest b i n) (i + 1) (kids_sound b h ek ea es em ex l), next, es) refl

  told_new : x < i + s → replaced_from b n c i ≡ record { line = i + 1; lines = s } ∷ replaced_from b n c (i + s)
  unfolding replaced_from
  told_new l =
      let q : suc (record_count (kids b i)) ≡ s = omega (arith, next) in
      rw (tree b h, replaced_new (parent 1 1 c c) (record_at b i) (kids b i) (rest b i n) (i + 1) (kids_unsound b h ek ea es em ex l), next, q, es) refl

-- how many bytes are stored of a replaced child, and of one that stays
deny_length : length (deny_policy ++ deny_rule) ≡ 2 * size
deny_length = refl

pub slice_long : (b : List ℕ) (i s : ℕ) → (i + s) * size ≤ length b → length (slice_of b i s) ≡ s * size
unfolding slice_of
slice_long b i s l = omega (arith, length-take (s * size) (drop (i * size) b), length-drop (i * size) b)

-- the bytes of a replacement, and of those after it: four each
bytes_more : (x : Replacement) (xs : List Replacement) → bytes_of_all (x ∷ xs) ≡ bytes_of_all (x ∷ []) ++ bytes_of_all xs
unfolding bytes_of_all
bytes_more x xs = refl

pub bytes_long : (xs : List Replacement) → length (bytes_of_all xs) ≡ length xs * 4
unfolding bytes_of_all
bytes_long [] = refl
bytes_long (x ∷ xs) = omega (arith, bytes_long xs)

pub two_pairs : (l : List ℕ) (m line lines : ℕ)
    → stored (stored l (m * 4) (line / 256 ∷ line % 256 ∷ [])) (m * 4 + 2) (lines / 256 ∷ lines % 256 ∷ [])
    ≡ stored l (m * 4) (bytes_of_all (record { line = line; lines = lines } ∷ []))
unfolding bytes_of_all
two_pairs l m line lines = sym (stored_then l (line / 256 ∷ line % 256 ∷ []) (lines / 256 ∷ lines % 256 ∷ []) (m * 4) 2 refl)

-- before record i: k records and m replacements are stored, l and q are the outputs, o and p what was lent
pub record Mending (b : List ℕ) (n c : ℕ) (o p : List ℕ) (i : ℕ) (l : List ℕ) (k : ℕ) (q : List ℕ) (m : ℕ) : Type 0 where
  pub unspoilt : Unspoilt b i n 1 1 c c
  pub wrote : stored l (k * size) (mended_from b n c i) ≡ stored o size (mended_from b n c 1)
  pub ends : k * size + length (mended_from b n c i) ≡ size + length (mended_from b n c 1)
  pub listed : stored q (m * 4) (bytes_of_all (replaced_from b n c i)) ≡ stored p 0 (bytes_of_all (replaced_from b n c 1))
  pub counted : m + length (replaced_from b n c i) ≡ length (replaced_from b n c 1)

pub mending_first : (b : List ℕ) (n c : ℕ) (o p : List ℕ) → n ≤ spoilt_at (parent 1 1 c c) 0 b 1 (n - 1) → Mending b n c o p 1 o 1 p 0
mending_first b n c o p h = record { unspoilt = record { rank = 0; none = h }; wrote = refl; ends = omega arith; listed = refl; counted = omega arith }

module _ {b : List ℕ} {n c : ℕ} {o p : List ℕ} {i : ℕ} {l : List ℕ} {k : ℕ} {q : List ℕ} {m : ℕ} (w : Mending b n c o p i l k q m) (h : i < n) where
  pub mending_kept : Kept b i n 1 1 c c w.unspoilt.rank
  mending_kept = unspoilt_kept b w.unspoilt h

  -- t records more
  store : (j t : ℕ) (xs : List ℕ) {l' : List ℕ} {k' : ℕ} → mended_from b n c i ≡ xs ++ mended_from b n c j → length xs ≡ t * size → k' ≡ k + t → l' ≡ stored l (k * size) xs
      → (stored l' (k' * size) (mended_from b n c j) ≡ stored o size (mended_from b n c 1)) × (k' * size + length (mended_from b n c j) ≡ size + length (mended_from b n c 1))
  store j t xs {l'} {k'} e long ek el =
      let r : k * size + t * size ≡ k' * size = omega arith in
      let y = rw e at w.ends in
      (rw (el, ← r) (sym (stored_then l xs (mended_from b n c j) (k * size) (t * size) long) ∙ (rw e at w.wrote)), omega (arith, y, length-append xs (mended_from b n c j)))

  module _ {kd : Kind} {a s nm x : ℕ} (ek : kd ≡ kind_at b i) (em : nm ≡ kind_number kd) (ea : a ≡ byte_of b i 4) (es : s ≡ span_of b i)
      (ex : x ≡ bad_at (parent 2 nm c a) 0 b (i + 1) (i + s - (i + 1))) where
    pub two_at_least : x < i + s → 2 ≤ s
    two_at_least y = omega (arith, bad_ge (parent 2 nm c a) 0 b (i + 1) (i + s - (i + 1)))

    pub mending_new : {l' q' : List ℕ} → x < i + s → l' ≡ stored l (k * size) (deny_policy ++ deny_rule)
        → q' ≡ stored q (m * 4) (bytes_of_all (record { line = i + 1; lines = s } ∷ [])) → Mending b n c o p (i + s) l' (k + 2) q' (m + 1)
    mending_new y el eq =
        let x : Replacement = record { line = i + 1; lines = s } in
        let e = told_new b mending_kept ek ea es em ex y in
        let z = store (i + s) 2 (deny_policy ++ deny_rule) (later_new b mending_kept ek ea es em ex y) deny_length refl el in
        let d : m * 4 + 4 ≡ (m + 1) * 4 = omega arith in
        record {
          unspoilt = unspoilt_next b w.unspoilt h es;
          wrote = z.0;
          ends = z.1;
          listed = rw (eq, ← d) (sym (stored_then q (bytes_of_all (x ∷ [])) _ (m * 4) 4 (bytes_long (x ∷ []))) ∙ (rw (e, bytes_more x _) at w.listed));
          counted = omega (arith, rw e at w.counted);
        }

    pub mending_same : {l' : List ℕ} {k' : ℕ} → n * size ≤ length b → i + s ≤ x → k' ≡ k + s → l' ≡ stored l (k * size) (slice_of b i s)
        → Mending b n c o p (i + s) l' k' q m
    mending_same long y ek' el =
        let e = told_kept b mending_kept ek ea es em ex y in
        let z = store (i + s) s (slice_of b i s) (later_kept b mending_kept ek ea es em ex long y) (slice_long b i s (omega (arith, mending_kept.within))) ek' el in
        record {
          unspoilt = unspoilt_next b w.unspoilt h es;
          wrote = z.0;
          ends = z.1;
          listed = rw e at w.listed;
          counted = rw e at w.counted;
        }

-- what a turn of the walk knows of its record, which is the next of those that are left
pub record Turn (b : List ℕ) (n c : ℕ) (o p : List ℕ) (w : Siblings) (l : List ℕ) (k : ℕ) (q : List ℕ) (m i s : ℕ) (v : Siblings) : Type 0 where
  pub mending : Mending b n c o p i l k q m
  pub place : w.at ≡ i
  pub inside : i < n
  pub span : s ≡ span_of b i
  pub some : 1 ≤ s
  pub within : i + s ≤ n
  pub next : v.at ≡ i + s
  pub left : Left v b v.at n

pub turn : {b : List ℕ} {n c : ℕ} {o p : List ℕ} {w : Siblings} {l : List ℕ} {k : ℕ} {q : List ℕ} {m i s : ℕ} {v : Siblings} → Mending b n c o p w.at l k q m
    → Left w b w.at n → Passes w i s v → Turn b n c o p w l k q m i s v
turn {b} {n} {i = i} {s = s} x f g =
    let z = step f g in
    let y = rw z.place at x in
    let h = mending_kept y z.inside in
    let span : s ≡ span_of b i = z.span ∙ span_stated b i (n - i) h.some (omega (arith, h.within)) in
    record {
      mending = y;
      place = z.place;
      inside = z.inside;
      span = span;
      some = omega (arith, span, h.some);
      within = omega (arith, span, h.within);
      next = z.next;
      left = z.left;
    }

-- at the end all is stored
pub mending_last : {b : List ℕ} {n c : ℕ} {o p : List ℕ} {i : ℕ} {l : List ℕ} {k : ℕ} {q : List ℕ} {m : ℕ} → Mending b n c o p i l k q m → n ≤ i
    → (l ≡ stored o size (mended_from b n c 1)) × (k * size ≡ size + length (mended_from b n c 1)) × (q ≡ stored p 0 (bytes_of_all (replaced_from b n c 1))) × (m ≡ length (replaced_from b n c 1))
unfolding bytes_of_all
mending_last {b} {n} {c} {o} {p} {i} {l} {k} {q} {m} w h =
    let e = later_none b n c i h in
    let f = told_none b n c i h in (
      sym (stored_none l (k * size)) ∙ (rw e at w.wrote),
      omega (arith, rw e at w.ends),
      sym (stored_none q (m * 4)) ∙ (rw f at w.listed),
      omega (arith, rw f at w.counted),
    )
