-- Every record that is not replaced keeps its bytes, but line 1 its span. Assumes nothing.
use mathlib.Core.Path.{◌≡◌, refl}
use mathlib.Core.Bool.{true, false}
use mathlib.Core.List.{List, [], ◌∷◌, ◌++◌, append_assoc, append-nil}
use Prim.Native.Nat.{ℕ, zero, suc, ◌+◌, ◌-◌, ◌*◌, ◌≤◌, ◌<◌}
use native.Mathlib.Omega.{arith}
use lib.ListN.{length}
use Rattle.record.specs.Bytes.{size}
use Rattle.record.specs.Forest.{span_in}
use Rattle.record.proofs.Forests.{span_pos, span_le}
use Rattle.fields.proofs.First.{by}
use Rattle.structure.specs.Subtrees.{Subtrees, no_subtree, subtree, record_count, record_at, subtrees_of, bytes_of, slice_of}
use Rattle.structure.specs.Sound.{Parent, as_parent, line_one, sound}
use Rattle.structure.proofs.Subtrees.{subtrees_none, subtrees_step, count_subtrees}
use Rattle.structure.proofs.Written.{slice_add, slice_record}
use Rattle.mending.specs.Mending.{deny_policy, deny_rule, mended, Replacement, replacements}
use Rattle.mending.specs.Claims.{exchanged, OthersKeep}
use Rattle.mending.proofs.Mended.{replaced_none, replaced_kept, replaced_new, one_bytes, bytes_none, bytes_kept, bytes_new, headed_count, headed_bytes}
use Rattle.mending.proofs.Answers.{answer}

-- no records have no bytes
pub slice_none : (b : List ℕ) (i : ℕ) → slice_of b i 0 ≡ []
unfolding slice_of
slice_none b i = refl

-- a span, counted within itself, is all of it
span_again : (b : List ℕ) (i left : ℕ) → span_in b i (span_in b i left) ≡ span_in b i left
unfolding span_in
span_again b i left = omega arith

-- the exchange of no replacement, and of one and then others
exchanged_none : (b : List ℕ) (n i : ℕ) → exchanged b n i [] ≡ slice_of b i (n - i)
unfolding exchanged
exchanged_none b n i = refl

exchanged_more : (b : List ℕ) (n j i s : ℕ) (xs : List Replacement)
    → exchanged b n j (record { line = i + 1; lines = s } ∷ xs) ≡ slice_of b j (i - j) ++ ((deny_policy ++ deny_rule) ++ exchanged b n (i + s) xs)
unfolding exchanged
exchanged_more b n j i s xs = let q : i + 1 - 1 ≡ i = omega arith in rw q refl

-- the records from j on and below i, and the subtrees from i on mended, are the exchange of what is replaced of these
module _ (u : Parent) (b : List ℕ) (n : ℕ) where
  abbrev Written : ℕ → ℕ → Subtrees → Type 0
  Written j i x = slice_of b j (i - j) ++ bytes_of (mended u x) ≡ exchanged b n j (replacements u (i + 1) x)

  written_none : (j i : ℕ) → i ≡ n → Written j i no_subtree
  written_none j i e = rw (bytes_none u, append-nil (slice_of b j (i - j)), replaced_none u (i + 1), exchanged_none b n j, e) refl

  -- a child of s records, and those after it
  module _ (i s : ℕ) (r : List ℕ) (kids rest : Subtrees) (c : suc (record_count kids) ≡ s) where
    next : i + 1 + s ≡ i + s + 1
    next = omega arith

    written_kept : (j : ℕ) → j ≤ i → sound (as_parent u r 0) 0 kids ≡ true → bytes_of (subtree r kids no_subtree) ≡ slice_of b i s → Written j (i + s) rest
        → Written j i (subtree r kids rest)
    written_kept j l k q others =
        let x : i + s - j ≡ i - j + s = omega arith in
        let y : j + (i - j) ≡ i = omega arith in
        let whole = rw y at (slice_add b j (i - j) s) in
        rw (
          bytes_kept u r kids rest k,
          q,
          replaced_kept u r kids rest (i + 1) k,
          c,
          next,
          ← append_assoc (slice_of b j (i - j)) (slice_of b i s) (bytes_of (mended u rest)),
          ← whole,
          ← x,
        ) others

    written_new : (j : ℕ) → sound (as_parent u r 0) 0 kids ≡ false → Written (i + s) (i + s) rest → Written j i (subtree r kids rest)
    written_new j k others =
        let z : i + s - (i + s) ≡ 0 = omega arith in
        rw (
          bytes_new u r kids rest k,
          replaced_new u r kids rest (i + 1) k,
          c,
          next,
          exchanged_more b n j i s (replacements u (i + s + 1) rest),
          ← (rw (z, slice_none b (i + s)) at others),
        ) refl

-- so of all records from i on
written_f : (f : ℕ) (u : Parent) (b : List ℕ) (n j i left : ℕ) → left ≤ f → j ≤ i → i + left ≡ n → n * size ≤ length b → Written u b n j i (subtrees_of b i left)
written_f zero u b n j i zero g a e l = rw (subtrees_none b i) (written_none u b n j i (omega arith))
written_f (suc f) u b n j i zero g a e l = rw (subtrees_none b i) (written_none u b n j i (omega arith))
written_f zero u b n j i (suc k) g a e l = absurd (omega arith)
written_f (suc f) u b n j i (suc k) g a e l =
    let s : ℕ = span_in b i (suc k) in
    let p : 0 < s = span_pos b i (suc k) (omega arith) in
    let q : s ≤ suc k = span_le b i (suc k) in
    let r : List ℕ = record_at b i in
    let kids : Subtrees = subtrees_of b (i + 1) (s - 1) in
    let rest : Subtrees = subtrees_of b (i + s) (suc k - s) in
    let c : suc (record_count kids) ≡ s = omega (arith, count_subtrees b (i + 1) (s - 1)) in
    rw (subtrees_step b i (suc k) (omega arith))
    (by (sound (as_parent u r 0) 0 kids)
    (λ t. written_kept u b n i s r kids rest c j a t (one_bytes b i s p (span_again b i (suc k)) (omega arith))
    (written_f f u b n j (i + s) (suc k - s) (omega arith) (omega arith) (omega arith) l))
    (λ t. written_new u b n i s r kids rest c j t
    (written_f f u b n (i + s) (i + s) (suc k - s) (omega arith) (omega arith) (omega arith) l)))

pub others_keep : OthersKeep
others_keep b n sz x xs e =
    let w = answer b n x xs e in
    let some = sz.some in
    let l = sz.bytes in
    let u : Parent = line_one b in
    let kids : Subtrees = mended u (subtrees_of b 1 (n - 1)) in
    let r : List ℕ = record_at b 0 in
    let z = written_f (n - 1) u b n 1 1 (n - 1) (omega arith) (omega arith) (omega arith) (omega arith) in
    rw (← w.tree, ← w.list, ← slice_record b 0 (omega arith), headed_bytes r kids, headed_count r kids, ← (rw (slice_none b 1) at z)) refl
