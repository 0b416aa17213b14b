-- The library's checked operations on signed numbers give what document 02 asks. Assumes nothing.
use Rattle.std.specs.Prelude.{Some, None, Option, Ok}
use Rattle.std.specs.Int.{CanDivide}
use Rattle.std.specs.Option.{SomeIff}
use mathlib.Core.Path.{◌≡◌, refl}
use mathlib.Core.Bool.{Bool, true, false}
use Prim.Native.Nat.{◌^◌, ◌<◌}
use native.Mathlib.Omega.{arith}
use borrow.Author.Tests.{ltb-true, lt-ltb, eqb-true, eqb-false}
use lib.Dec.{ltb, eqb}
use lib.IntN.{ℤ, pos, negsuc, nat_abs}
use lib.Signed.{mag, quot_z}
use mir.Syntax.{w64}
use mir.Val.{SFits, of_z}
use Rattle.record.specs.Choose.{if}
use Rattle.value.specs.declared.Value.TheVariants.{Integer}
use Rattle.sums.specs.Sums.{failed, fitted, whole_of, div_of}

-- a number that is there exactly where it fits
pub fits : (r : Option ℤ) (z : ℤ) → SomeIff r (SFits w64 z) z → whole_of r ≡ fitted z
fits (Some x) z s = rw (s.1, lt-ltb (mag z) (2 ^ 63) s.0.sfits)
fits None z s = go (ltb (mag z) (2 ^ 63)) refl
  where
    go : (b : Bool) → ltb (mag z) (2 ^ 63) ≡ b → failed ≡ if b (Ok (Integer z)) failed
    go true e = absurd (s (record { sfits = ltb-true _ _ e }))
    go false e = refl

-- no bits of a number that is not 0 are 0
pub some_bits : (y : ℤ) → (nat_abs y ≡ 0 → ⊥) → SFits w64 y → 0 < of_z w64 y
some_bits (pos b) n F = omega (arith, n)
some_bits (negsuc b) n F = let l : b < 2 ^ 63 = F.sfits in omega arith

pub zero_bits : (y : ℤ) → nat_abs y ≡ 0 → of_z w64 y ≡ 0
zero_bits (pos b) e = e
zero_bits (negsuc b) e = absurd (omega (arith, e))

pub divides : (r : Option ℤ) (x y : ℤ) → SFits w64 y → SomeIff r (CanDivide w64 x y) (quot_z x y) → whole_of r ≡ div_of x y
divides r x y Y s = go (eqb (nat_abs y) 0) refl
  where
    go : (b : Bool) → eqb (nat_abs y) 0 ≡ b → whole_of r ≡ if b failed (fitted (quot_z x y))
    go true e = none r s
      where
        none : (o : Option ℤ) → SomeIff o (CanDivide w64 x y) (quot_z x y) → whole_of o ≡ failed
        none (Some z) t = absurd (omega (arith, t.0.0, zero_bits y (eqb-true _ _ e)))
        none None t = refl
    go false e = fits r (quot_z x y) (same r s)
      where
        same : (o : Option ℤ) → SomeIff o (CanDivide w64 x y) (quot_z x y) → SomeIff o (SFits w64 (quot_z x y)) (quot_z x y)
        same (Some z) t = (t.0.1, t.1)
        same None t = λ F. t (some_bits y (eqb-false _ _ e) Y, F)
