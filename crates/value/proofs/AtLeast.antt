-- Greater or equal is greater, or equal, of doubles too. Assumes nothing.
use mathlib.Core.Path.{◌≡◌, refl, sym, ap, ◌∙◌}
use mathlib.Core.Bool.{Bool, true, false, beq}
use Prim.Native.Nat.{ℕ, ◌*◌}
use borrow.Author.Tests.{eqb-true}
use lib.Dec.{eqb}
use lib.Ieee.{Float, nan, inf, fin, up, down, level, lt, eq, le}
use Rattle.record.specs.Choose.{either}
use Rattle.value.proofs.Laws.{same_test}

pub equal_swap : (a b : ℕ) → eqb a b ≡ eqb b a
equal_swap a b = same_test a b b a sym sym

-- the equality of doubles, either way round
sign_swap : (s t : Bool) → beq s t ≡ beq t s
sign_swap true true = refl
sign_swap true false = refl
sign_swap false true = refl
sign_swap false false = refl

level_swap : (s t : Bool) (a b : ℕ) → level s a t b ≡ level t b s a
level_swap s t a b = go (eqb a b) refl
  where
    go : (x : Bool) → eqb a b ≡ x → level s a t b ≡ level t b s a
    go true e = rw (eqb-true a b e, sign_swap s t) refl
    go false e = rw (e, equal_swap b a ∙ e) refl

eq_swap : (x y : Float) → eq x y ≡ eq y x
unfolding eq
eq_swap nan nan = refl
eq_swap nan (inf t) = refl
eq_swap nan (fin t n d) = refl
eq_swap (inf s) nan = refl
eq_swap (inf s) (inf t) = sign_swap s t
eq_swap (inf s) (fin t n d) = refl
eq_swap (fin s m e) nan = refl
eq_swap (fin s m e) (inf t) = refl
eq_swap (fin s m e) (fin t n d) = level_swap s t (m * up e * down d) (n * up d * down e)

pub at_least_double : (x y : Float) → le y x ≡ either (lt y x) (eq x y)
unfolding le
at_least_double x y = ap (either (lt y x)) (eq_swap y x)
