-- Lists that a loop fills, maps or tests, element by element. Assumes nothing.
use Rattle.std.specs.List.{list_all}
use Rattle.std.specs.Prelude.{◌&&◌}
use Rattle.std.proofs.lemmas.List.Folds.{list_all_more}
use Rattle.std.proofs.lemmas.List.{length-drop, length-map, length-take, map-append, get_or_at, set_at}
use mathlib.Core.Path.{◌≡◌, refl, sym, ◌∙◌}
use mathlib.Core.Bool.{Bool, true, false}
use mathlib.Core.List.{List, [], ◌∷◌, ◌++◌, map, append_assoc}
use Prim.Native.Nat.{ℕ, zero, suc, ◌+◌, ◌<◌, ◌≤◌}
use native.Mathlib.Omega.{arith}
use lib.ListN.{length, get_or, set, take, drop}
use lib.Seq.{get_or-drop, drop-cons, take-suc}
use Rattle.record.specs.Choose.{both}
use Rattle.record.specs.Below.{all_below}
use Rattle.record.specs.Table.{tab}
use Rattle.record.proofs.Table.{length_tab}

-- a turn of the loop that fills a list by a table
pub tab_next : (f : ℕ → ℕ) (d : List ℕ) {out : List ℕ} {i x : ℕ}
    → out ≡ tab f i ++ drop i d → i < length d → x ≡ f i → set out i x ≡ tab f (i + 1) ++ drop (i + 1) d
unfolding tab
tab_next f d {out} {i} e h g =
    let m : i + 1 ≡ suc i = omega arith in
    rw (e, m, g, drop-cons d i 0 h) (set_at (tab f i) _ _ (f i) i (length_tab f i) ∙ sym (append_assoc (tab f i) (f i ∷ []) _))

-- a turn of the loop that maps a list in its place
pub map_next : (f : ℕ → ℕ) (d : List ℕ) {out : List ℕ} {i x : ℕ}
    → out ≡ map f (take i d) ++ drop i d → i < length d → x ≡ f (get_or out i 0) → set out i x ≡ map f (take (i + 1) d) ++ drop (i + 1) d
map_next f d {out} {i} e h g =
    let m : i + 1 ≡ suc i = omega arith in
    let y : ℕ = get_or d i 0 in
    let done : List ℕ = map f (take i d) in
    let l : length done ≡ i = omega (arith, length-map (take i d) f, length-take i d) in
    let z : get_or out i 0 ≡ y = rw (e, drop-cons d i 0 h) (get_or_at done y (drop (suc i) d) 0 i l) in
    rw (g, z, e, m, take-suc d i 0 h, map-append f (take i d) (y ∷ []), drop-cons d i 0 h)
    (set_at done _ _ (f y) i l ∙ sym (append_assoc done (f y ∷ []) _))

-- what a part of a list is mapped to, by its places
module _ (f : ℕ → ℕ) (s : List ℕ) (at : ℕ) where
  pub mapped : (n : ℕ) → at + n ≤ length s → map f (take n (drop at s)) ≡ tab (λ (j : ℕ). f (get_or s (at + j) 0)) n
  unfolding tab
  mapped zero h = refl
  mapped (suc n) h =
      let l : n < length (drop at s) = omega (arith, length-drop at s) in
      rw (take-suc (drop at s) n 0 l, map-append f (take n (drop at s)) (get_or (drop at s) n 0 ∷ []), mapped n (omega arith), get_or-drop at s n 0)

and_both : (a b : Bool) → (a && b) ≡ both a b
and_both true b = refl
and_both false b = refl

-- whether all of a part pass, by their places
module _ (f : ℕ → Bool) (s : List ℕ) (at : ℕ) where
  abbrev passes : ℕ → Bool
  passes j = f (get_or s (at + j) 0)

  pub all_placed : (n : ℕ) → at + n ≤ length s → list_all f (take n (drop at s)) ≡ all_below passes n
  unfolding all_below
  all_placed zero h = refl
  all_placed (suc n) h =
      let e : suc n ≡ n + 1 = omega arith in
      let l : n < length (drop at s) = omega (arith, length-drop at s) in
      rw e (list_all_more f (drop at s) n 0 l ∙ rw (all_placed n (omega arith), get_or-drop at s n 0) (and_both (all_below passes n) (passes n)))
