-- The forest of an accepted book nests no deeper than 16. Assumes nothing.
use Prim.Native.Nat.{ℕ, zero, suc, ◌+◌, ◌-◌, ◌≤◌, ◌<◌, max}
use mathlib.Core.Path.{◌≡◌, refl, ap}
use mathlib.Core.Bool.{Bool, true, false}
use mathlib.Core.List.{List}
use lib.Dec.{ltb}
use borrow.Author.Tests.{ltb-true, ltb-false}
use mathlib.Core.Logic.{⊎_elim}
use native.Mathlib.Nat.{eq-or-lt_of_le}
use native.Mathlib.Omega.{arith}
use Rattle.record.specs.Bytes.{span_of}
use Rattle.record.specs.Forest.{Forest, none, node, span_in, forest, height}
use Rattle.record.proofs.Forests.{span_stated, forest_none, forest_step}
use Rattle.operands.specs.Parent.{end_of}
use Rattle.placement.specs.Place.{depth_of}
use Rattle.fields.specs.First.{count_below}
use Rattle.judge.specs.Sound.{Nested}
use Rattle.placement.specs.Keeps.{Keeps}
use Rattle.judge.specs.Judge.{judge_of, accepted_with}
use Rattle.judge.proofs.Exactly.{accepted_keeps}
use Rattle.judge.proofs.Sound.{kept_nests}
use Rattle.placement.proofs.Laws.{depth_under}

height_none : (f : Forest) → f ≡ none → height f ≡ 0
unfolding height
height_none f e = rw e refl

height_node : (f : Forest) (i : ℕ) (kids rest : Forest) → f ≡ node i kids rest → height f ≡ max (suc (height kids)) (height rest)
unfolding height
height_node f i kids rest e = rw e refl

module _ (b : List ℕ) (n : ℕ) (w : Nested b n) where
  end_is : (i : ℕ) → end_of b i ≡ i + span_of b i
  unfolding end_of
  end_is i = refl

  -- the children of p from i on, and what stands below them
  deep : (f p i left : ℕ) → left ≤ f → p < i → i + left ≡ end_of b p → p < n → ((j : ℕ) → p < j → j < i → end_of b j ≤ i) → height (forest b i left) + depth_of b p ≤ 16
  deep zero p i left l a e m inner = let h = height_none (forest b i left) (forest_none b i left (omega (arith, l))) in let d = w.depths p m in omega (arith, h, d)
  deep (suc f) p i zero l a e m inner = let h = height_none (forest b i 0) (forest_none b i 0 (omega arith)) in let d = w.depths p m in omega (arith, h, d)
  deep (suc f) p i (suc k) l a e m inner =
      let ends = w.ends p m in
      let i_in : i < n = omega (arith, e, ends) in
      let within : end_of b i ≤ end_of b p = w.nests p i a i_in (omega (arith, e)) in
      let at = end_is i in
      let some = w.spans i i_in in
      let s : span_in b i (suc k) ≡ span_of b i = span_stated b i (suc k) some (omega (arith, within, e, at)) in
      let d : depth_of b i ≡ depth_of b p + 1 = depth_under b p i a (omega (arith, e)) inner (λ j x y. let z = w.nests j p x m y in omega (arith, z, e)) in
      let kids = deep f i (i + 1) (span_in b i (suc k) - 1) (omega (arith, l, s, within, at, e)) (omega arith) (omega (arith, s, at, some)) i_in (λ j x y. absurd (omega (arith, x, y))) in
      let rest = deep f p (i + span_in b i (suc k)) (suc k - span_in b i (suc k)) (omega (arith, l, s, some)) (omega (arith, a)) (omega (arith, s, at, within, e)) m (λ j x y. past j x y s at i_in) in
      let h = height_node (forest b i (suc k)) i (forest b (i + 1) (span_in b i (suc k) - 1)) (forest b (i + span_in b i (suc k)) (suc k - span_in b i (suc k))) (forest_step b i (suc k) (omega arith)) in
      omega (arith, h, kids, rest, d)
    where
      past : (j : ℕ) → p < j → j < i + span_in b i (suc k) → span_in b i (suc k) ≡ span_of b i → end_of b i ≡ i + span_of b i → i < n → end_of b j ≤ i + span_in b i (suc k)
      past j x y s at i_in = go (ltb j i) refl
        where
          go : (t : Bool) → ltb j i ≡ t → end_of b j ≤ i + span_in b i (suc k)
          go true z = let q = inner j x (ltb-true j i z) in omega (arith, q)
          go false z =
              let le : i ≤ j = ltb-false j i z in
              let ends = w.ends i i_in in
              ⊎_elim (λ (t : i ≡ j). let q = ap (end_of b) t in omega (arith, q, s, at))
              (λ (t : i < j). let q = w.nests i j t (omega (arith, ends, y, s, at)) (omega (arith, y, s, at)) in omega (arith, q, s, at))
              (eq-or-lt_of_le le)

  pub book_deep : 0 < n → suc (height (forest b 1 (n - 1))) ≤ 16
  unfolding depth_of count_below
  book_deep h =
      let e = w.whole in
      let d : depth_of b 0 ≡ 1 = refl in
      let z = deep (n - 1) 0 1 (n - 1) (omega arith) (omega arith) (omega (arith, e, h)) h (λ j x y. absurd (omega (arith, x, y))) in
      omega (arith, z, d)

pub accepted_deep : (b : List ℕ) (n o : ℕ) → judge_of b ≡ accepted_with n o → height (forest b 1 (n - 1)) ≤ 15
accepted_deep b n o e =
    let k : Keeps b n = (accepted_keeps b n o e).0 in
    let d = book_deep b n (kept_nests b n k) k.sized.some in
    omega (arith, d)
