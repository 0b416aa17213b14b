-- The number of a broken place rule, and what it says of the line: both ways. Assumes nothing.
use mathlib.Core.Path.{◌≡◌, refl, sym, ◌∙◌}
use mathlib.Core.Bool.{true, false, true≢false}
use mathlib.Core.List.{List}
use mathlib.Core.Logic.{⊎_elim}
use Prim.Native.Nat.{ℕ, ◌+◌, ◌≤◌, ◌<◌}
use native.Mathlib.Nat.{eq-or-lt_of_le}
use native.Mathlib.Omega.{arith}
use lib.Dec.{leb}
use borrow.Author.Tests.{le-leb, lt-leb, leb-true, leb-false, ne_eqb}
use Rattle.record.specs.Refusals.{bad_place}
use Rattle.fields.proofs.First.{by}
use Rattle.operands.specs.Parent.{end_of, parent_of}
use Rattle.placement.specs.Place.{most_depth, depth_of, child_rule, child_broken, top_ok, broken_at, place_ok}
use Rattle.judge.specs.Sound.{Allowed, Placed}
use Rattle.judge.specs.Exactly.{KeptTo, Breaks, top, past, misplaced, deep}
use Rattle.judge.proofs.Sound.{fits_at, fits_allowed, allowed_fits, placed_is_ok}

-- line 1
top_ok_lem : (b : List ℕ) → top_ok b ≡ true → place_ok b 0 ≡ true
unfolding place_ok broken_at
top_ok_lem b t = rw t

pub nine : (b : List ℕ) → top_ok b ≡ false → broken_at b 0 ≡ 9
unfolding broken_at
nine b t = rw t

-- any other
module _ (b : List ℕ) {n i : ℕ} (k : KeptTo b n i) (h : 0 < i) where
  child : broken_at b i ≡ child_rule (end_of b i) (end_of b (parent_of b i)) (depth_of b i) (fits_at b i)
  unfolding broken_at child_broken
  child = rw (ne_eqb i 0 (λ x. omega arith))

  allowed : fits_at b i ≡ true → Allowed b i
  allowed = fits_allowed b n i k.sized k.inside k.before

  pub ten : end_of b (parent_of b i) < end_of b i → broken_at b i ≡ 10
  unfolding child_rule
  ten l = child ∙ rw (lt-leb (end_of b i) (end_of b (parent_of b i)) l)

  module _ (w : end_of b i ≤ end_of b (parent_of b i)) where
    pub eleven : (Allowed b i → ⊥) → broken_at b i ≡ 11
    unfolding child_rule
    eleven bad = by (fits_at b i)
        (λ t. absurd (bad (allowed t)))
        (λ t. child ∙ rw (le-leb (end_of b i) (end_of b (parent_of b i)) w, t))

    module _ (a : Allowed b i) where
      fits : fits_at b i ≡ true
      fits = allowed_fits b n i k.sized h k.inside k.before (k.fields i k.inside) a

      pub twelve : most_depth < depth_of b i → broken_at b i ≡ 12
      unfolding child_rule
      twelve l = child ∙ rw (le-leb (end_of b i) (end_of b (parent_of b i)) w, fits, lt-leb (depth_of b i) most_depth l)

  -- and back: what the line breaks, by the lowest number
  child_breaks : place_ok b i ≡ false → Breaks b (bad_place (broken_at b i) (i + 1))
  child_breaks e =
      let p : ℕ = parent_of b i in
      by (leb (end_of b i) (end_of b p))
      (λ t. let w = leb-true (end_of b i) (end_of b p) t in
      by (fits_at b i)
      (λ u. let a = allowed u in
      by (leb (depth_of b i) most_depth)
      (λ v. let o : Placed b i = record { within = w; allowed = a; depth = leb-true (depth_of b i) most_depth v } in
      absurd (true≢false (sym (placed_is_ok b n i k.sized h k.inside k.before (k.fields i k.inside) o) ∙ e)))
      (λ v. let l = leb-false (depth_of b i) most_depth v in deep n i (rw (twelve w a l) refl) k h w a l))
      (λ u. let wrong : Allowed b i → ⊥ = λ a. true≢false (sym (fits w a) ∙ u) in misplaced n i (rw (eleven w wrong) refl) k h w wrong))
      (λ t. let l = leb-false (end_of b i) (end_of b p) t in past n i (rw (ten l) refl) k h l)

pub broken_breaks : (b : List ℕ) {n i : ℕ} → KeptTo b n i → place_ok b i ≡ false → Breaks b (bad_place (broken_at b i) (i + 1))
broken_breaks b {n} {i} k e =
    ⊎_elim
    (λ (z : 0 ≡ i). by (top_ok b)
    (λ t. absurd (true≢false (sym (top_ok_lem b t) ∙ (rw (← z) at e))))
    (λ t. top n (rw (← z, nine b t) refl) (rw (← z) at k) t))
    (λ (h : 0 < i). child_breaks b k h e)
    (eq-or-lt_of_le (omega arith))
