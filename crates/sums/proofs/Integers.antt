-- An operator of two values of type 1 is that of the signed numbers that their eight bytes stand for. Assumes nothing.
use mathlib.Core.Path.{◌≡◌}
use Prim.Native.Nat.{ℕ}
use Rattle.sums.specs.Worth.{Worth}
use lib.IntN.{ℤ}
use Rattle.value.specs.Value.{signed64, value_of}
use Rattle.sums.specs.Sums.{of_integers}

pub of_integers_lem : (f : ℤ → ℤ → Worth) (a b : ℕ) {x y : ℤ} {r : Worth} → x ≡ signed64 a → y ≡ signed64 b → r ≡ f x y → r ≡ of_integers f (value_of 1 a) (value_of 1 b)
unfolding value_of
of_integers_lem f a b p q e = rw (← p, ← q) e
