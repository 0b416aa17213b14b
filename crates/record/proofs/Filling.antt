-- A loop that fills a lent list from a place on, whatever the width of its numbers. Assumes nothing.
use mathlib.Core.Path.{◌≡◌, refl, sym, ◌∙◌}
use mathlib.Core.List.{List, ◌++◌}
use Prim.Native.Nat.{ℕ, suc, ◌+◌, ◌<◌}
use native.Mathlib.Omega.{arith}
use lib.ListN.{length, get_or, set, take, drop, length-set}
use lib.Seq.{paste, paste-zero, paste-suc, take_all}
use Rattle.record.specs.Table.{tab}
use Rattle.record.proofs.Table.{length_tab, get_d_tab}

-- the first j of xs stand in d from the place `at` on
pub record Filled (d : List ℕ) (at : ℕ) (xs : List ℕ) (j : ℕ) (out : List ℕ) : Type 0 where
  pub long : length out ≡ length d
  pub holds : out ≡ paste d at xs j

pub fill_none : {j : ℕ} (d : List ℕ) (at : ℕ) (xs : List ℕ) → j ≡ 0 → Filled d at xs j d
fill_none d at xs e = record { long = refl; holds = rw e (paste-zero d at xs) }

pub fill_more : {d : List ℕ} {at : ℕ} {xs : List ℕ} {i j k x : ℕ} {out : List ℕ} → Filled d at xs j out → k ≡ at + j → i ≡ suc j → k < length d → j < length xs
    → x ≡ get_or xs j 0 → Filled d at xs i (set out k x)
fill_more {d} {at} {xs} {i} {j} {k} {x} {out} w e f h l g = record {
  long = length-set out k x ∙ w.long;
  holds = rw (w.holds, e, f, g) (paste-suc d at xs j 0 (omega arith) l);
}

-- a list copied to the first places
pub copy_done : (n : ℕ) {d xs out : List ℕ} {j : ℕ} → Filled d 0 xs j out → j ≡ n → out ≡ take n xs ++ drop n d
copy_done n w e = let f : 0 + n ≡ n = omega arith in rw (e, f) at w.holds

-- or the n numbers f 0, f 1, ..
module _ (f : ℕ → ℕ) (n : ℕ) {d out : List ℕ} {j : ℕ} (w : Filled d 0 (tab f n) j out) where
  pub tab_more : {x : ℕ} → j < n → j < length d → x ≡ f j → Filled d 0 (tab f n) (j + 1) (set out j x)
  tab_more h l e = fill_more w (omega arith) (omega arith) l (omega (arith, length_tab f n)) (e ∙ sym (get_d_tab f n j h))

  pub tab_done : j ≡ n → out ≡ tab f n ++ drop n d
  tab_done e = copy_done n w e ∙ rw (take_all n (tab f n) (omega (arith, length_tab f n)))
