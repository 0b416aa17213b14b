-- The bytes of a rearranged book are bytes. Assumes nothing.
use Prim.Native.Nat.{ℕ, ◌+◌, ◌-◌, ◌*◌}
use mathlib.Core.Path.{◌≡◌}
use mathlib.Core.Bool.{Bool}
use mathlib.Core.List.{List, [], ◌∷◌, ◌++◌}
use native.Mathlib.Omega.{arith}
use lib.Dec.{ltb}
use lib.ListN.{length, take, drop, length-take, get_or-append, get_or-eq_default}
use lib.Seq.{get_or-append-add, get_or-take, get_or-drop}
use borrow.Author.Tests.{ltb-true, ltb-false}
use Rattle.record.specs.Bytes.{Bytes, size, span_of}
use Rattle.fields.proofs.First.{by}
use Rattle.meaning.specs.Policy.{Tree}
use Rattle.structure.specs.Subtrees.{slice_of}
use Rattle.order.specs.Books.{Row, end, next, together, RowReordered, RearrangedBook, as_is, reorders}
use Rattle.order.proofs.Reordered.{Each, each_reordered}

both_small : (xs ys : List ℕ) → Bytes xs → Bytes ys → Bytes (xs ++ ys)
both_small xs ys x y i =
    by (ltb i (length xs))
    (λ t. rw (get_or-append xs ys 0 i (ltb-true i (length xs) t)) (x i))
    (λ t. let l = ltb-false i (length xs) t in
    let e : i ≡ length xs + (i - length xs) = omega arith in
    rw (e, get_or-append-add xs ys (i - length xs) 0) (y (i - length xs)))

taken_small : (n : ℕ) (xs : List ℕ) → Bytes xs → Bytes (take n xs)
taken_small n xs x i =
    by (ltb i n)
    (λ t. rw (get_or-take n xs i 0 (ltb-true i n t)) (x i))
    (λ t. let l = ltb-false i n t in
    rw (get_or-eq_default (take n xs) 0 {n = i} (omega (arith, l, length-take n xs))) (omega arith))

dropped_small : (n : ℕ) (xs : List ℕ) → Bytes xs → Bytes (drop n xs)
dropped_small n xs x i = rw (get_or-drop n xs i 0) (x (n + i))

row_small : (b : List ℕ) (p : ℕ) {i e : ℕ} {xs : List (List ℕ)} → Bytes b → Row b p i e xs → Each Bytes xs
unfolding slice_of
row_small b p small end = tt
row_small b p small (next {i = i} q m r) = (taken_small (span_of b i * size) (drop (i * size) b) (dropped_small (i * size) b small), row_small b p small r)

together_small : (xs : List (List ℕ)) → Each Bytes xs → Bytes (together xs)
together_small [] h = λ i. omega arith
together_small (x ∷ xs) h = both_small x (together xs) h.0 (together_small xs h.1)

reordered_small : (may : Tree → Bool) (b c : List ℕ) → RowReordered may b c → Bytes b → Bytes c
reordered_small may b c w small =
    let parts = each_reordered Bytes w.reordered (row_small b w.parent small w.row) in
    rw w.bytes
    (both_small (take (w.first * size) b) (together w.after ++ drop (w.last * size) b) (taken_small (w.first * size) b small)
    (both_small (together w.after) (drop (w.last * size) b) (together_small w.after parts) (dropped_small (w.last * size) b small)))

pub rearranged_small : (may : Tree → Bool) {b c : List ℕ} → RearrangedBook may b c → Bytes b → Bytes c
rearranged_small may as_is small = small
rearranged_small may (reorders {b = b} {c = c} w r) small = rearranged_small may r (reordered_small may b c w small)
