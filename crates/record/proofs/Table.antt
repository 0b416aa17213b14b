-- Laws of `specs/Table.antt`. Assumes nothing.
use mathlib.Core.Path.{◌≡◌, refl, sym, ap, ◌∙◌}
use mathlib.Core.Logic.{⊎_elim}
use mathlib.Core.List.{[], ◌∷◌}
use Prim.Native.Nat.{ℕ, zero, suc, ◌<◌}
use native.Mathlib.Nat.{eq-or-lt_of_le, le_of_suc-le-suc, not-suc-le-zero}
use native.Mathlib.Omega.{arith}
use lib.ListN.{length, get_or, length-append, get_or-append}
use lib.Seq.{get_or_at}
use Rattle.record.specs.Table.{tab}

pub length_tab : (f : ℕ → ℕ) (n : ℕ) → length (tab f n) ≡ n
unfolding tab
length_tab f zero = refl
length_tab f (suc n) = length-append (tab f n) (f n ∷ []) ∙ omega (arith, length_tab f n)

pub get_d_tab : (f : ℕ → ℕ) (n i : ℕ) → i < n → get_or (tab f n) i 0 ≡ f i
unfolding tab
get_d_tab f zero i h = absurd (not-suc-le-zero h)
get_d_tab f (suc n) i h =
    ⊎_elim (λ q. get_or_at (tab f n) (f n) [] 0 i (length_tab f n ∙ sym q) ∙ ap f (sym q))
    (λ l. get_or-append (tab f n) (f n ∷ []) 0 i (omega (arith, length_tab f n)) ∙ get_d_tab f n i l)
    (eq-or-lt_of_le (le_of_suc-le-suc h))
