-- The functions say of doubles what they say of their whole numbers of units: so one of less, equal and greater holds, and equal values stand alike. Assumes nothing.
use mathlib.Core.Path.{◌≡◌, refl, sym, ap, ap₂, subst, ◌∙◌}
use mathlib.Core.Bool.{Bool, true, false}
use mathlib.Core.Logic.{◌⊎◌, inl, inr}
use Prim.Native.Nat.{ℕ}
use native.Mathlib.Omega.{arith}
use borrow.Author.Tests.{eqb-true, eqb-false, lt-ltb, le-ltb, ltb-true, ltb-false}
use lib.Dec.{T, eqb, ltb, eqb→eq, eqb_refl}
use lib.IntN.{ℤ, pos, negsuc}
use lib.Signed.{lt_z}
use lib.Ieee.{Float, binary64, of_bits}
use Rattle.record.specs.Choose.{if, either}
use Rattle.value.specs.declared.Value.{Value}
use Rattle.value.specs.declared.Value.TheVariants.{Integer, Name, Double}
use Rattle.value.specs.declared.Function.{Function}
use Rattle.value.specs.declared.Function.TheVariants.{Equal, Greater, GreaterOrEqual, Less, LessOrEqual}
use Rattle.value.specs.Value.{signed64, finite_of, value_of, eq_z, equal_of, test_of}
use Rattle.value.specs.Units.{units_of, exactly_one, FunctionIsOfUnits, OneOfThree, EqualToItself, EqualStandAlike}
use Rattle.value.proofs.AtLeast.{equal_swap}
use Rattle.value.proofs.Sizes.{double_value}
use Rattle.value.proofs.Order.{lt_units, order_of_units}
use Rattle.value.proofs.Equality.{eq_units, equality_of_units}

-- the functions, of doubles and of their whole numbers of units
of_doubles_lem : (f : Function) (a b : ℕ) → T (finite_of a) → T (finite_of b)
    → test_of f (Double (of_bits binary64 a)) (Double (of_bits binary64 b)) ≡ test_of f (Integer (units_of a)) (Integer (units_of b))
of_doubles_lem Equal a b p q = eq_units a b p q
of_doubles_lem Greater a b p q = lt_units b a q p
of_doubles_lem GreaterOrEqual a b p q = ap₂ either (lt_units b a q p) (eq_units a b p q)
of_doubles_lem Less a b p q = lt_units a b p q
of_doubles_lem LessOrEqual a b p q = ap₂ either (lt_units a b p q) (eq_units b a q p)

pub function_of_units : FunctionIsOfUnits
function_of_units f a b p q = rw (double_value a p, double_value b q) (of_doubles_lem f a b p q)

-- of numbers, and of whole numbers
one_of_numbers : (a b : ℕ) → T (exactly_one (ltb a b) (eqb a b) (ltb b a))
one_of_numbers a b = go (ltb a b) (eqb a b) refl refl
  where
    go : (x y : Bool) → ltb a b ≡ x → eqb a b ≡ y → T (exactly_one x y (ltb b a))
    go true true p q = absurd (let l = ltb-true a b p in let e = eqb-true a b q in omega (arith, l, e))
    go true false p q = let l = ltb-true a b p in rw (le-ltb b a (omega (arith, l))) tt
    go false true p q = let e = eqb-true a b q in rw (le-ltb b a (omega (arith, e))) tt
    go false false p q =
        let l = ltb-false a b p in
        let n = eqb-false a b q in
        rw (lt-ltb b a (omega (arith, l, n))) tt

one_of_wholes : (x y : ℤ) → T (exactly_one (lt_z x y) (eq_z x y) (lt_z y x))
one_of_wholes (pos a) (pos b) = one_of_numbers a b
one_of_wholes (pos a) (negsuc b) = tt
one_of_wholes (negsuc a) (pos b) = tt
one_of_wholes (negsuc a) (negsuc b) = rw (equal_swap a b) (one_of_numbers b a)

pub one_of_three : OneOfThree
one_of_three a b p q = rw (order_of_units b a q p, equality_of_units a b p q, order_of_units a b p q) (one_of_wholes (units_of a) (units_of b))

-- the value of eight bytes, by what the tests of its type say
abbrev by_test : Bool → ℕ → Value
by_test t m = if t (Double (of_bits binary64 m)) (Name m)

abbrev by_type : Bool → Bool → ℕ → Value
by_type s t m = if s (Integer (signed64 m)) (if t (Name m) (by_test (finite_of m) m))

-- a value is equal to itself
whole_itself : (x : ℤ) → T (eq_z x x)
whole_itself (pos a) = eqb_refl a
whole_itself (negsuc a) = eqb_refl a

pub equal_to_itself : EqualToItself
unfolding value_of
equal_to_itself kind n = go (eqb kind 1) (eqb kind 2)
  where
    double : (f : Bool) → finite_of n ≡ f → T (equal_of (by_test f n) (by_test f n))
    double true e = let p : T (finite_of n) = rw e tt in rw (eq_units n n p p) (whole_itself (units_of n))
    double false e = eqb_refl n

    go : (s t : Bool) → T (equal_of (by_type s t n) (by_type s t n))
    go true t = whole_itself (signed64 n)
    go false true = eqb_refl n
    go false false = double (finite_of n) refl

-- equal values are the same number, the same name, or doubles of the same number of units
pub same_whole : (x y : ℤ) → T (eq_z x y) → x ≡ y
same_whole (pos a) (pos b) t = ap pos (eqb→eq a b t)
same_whole (pos a) (negsuc b) t = absurd t
same_whole (negsuc a) (pos b) t = absurd t
same_whole (negsuc a) (negsuc b) t = ap negsuc (eqb→eq a b t)

abbrev pub SameUnits : ℕ → ℕ → Type 0
SameUnits a b = T (finite_of a) × T (finite_of b) × (units_of a ≡ units_of b)

abbrev pub SameName : ℕ → ℕ → Type 0
SameName a b = (finite_of a ≡ false) × (finite_of b ≡ false) × (a ≡ b)

pub equal_doubles : (a b : ℕ) → T (equal_of (value_of 3 a) (value_of 3 b)) → SameUnits a b ⊎ SameName a b
unfolding value_of
equal_doubles a b = go (finite_of a) (finite_of b) refl refl
  where
    go : (s t : Bool) → finite_of a ≡ s → finite_of b ≡ t → T (equal_of (by_test s a) (by_test t b)) → SameUnits a b ⊎ SameName a b
    go true true p q e =
        let f : T (finite_of a) = rw p tt in
        let g : T (finite_of b) = rw q tt in
        inl (f, g, same_whole (units_of a) (units_of b) (subst T (eq_units a b f g) e))
    go true false p q e = absurd e
    go false true p q e = absurd e
    go false false p q e = inr (p, q, eqb→eq a b e)

-- a name and a double are neither equal nor in order
name_value : (n : ℕ) → finite_of n ≡ false → value_of 3 n ≡ Name n
unfolding value_of
name_value n e = rw e

no_order : (f : Function) (n m : ℕ) (x y : Float)
    → (test_of f (Name n) (Double x) ≡ test_of f (Name m) (Double y)) × (test_of f (Double x) (Name n) ≡ test_of f (Double y) (Name m))
no_order Equal n m x y = (refl, refl)
no_order Greater n m x y = (refl, refl)
no_order GreaterOrEqual n m x y = (refl, refl)
no_order Less n m x y = (refl, refl)
no_order LessOrEqual n m x y = (refl, refl)

module _ (f : Function) (a b c d : ℕ) where
  doubles_alike : SameUnits a c ⊎ SameName a c → SameUnits b d ⊎ SameName b d → test_of f (value_of 3 a) (value_of 3 b) ≡ test_of f (value_of 3 c) (value_of 3 d)
  doubles_alike (inl u) (inl v) =
      function_of_units f a b u.0 v.0
      ∙ ap₂ (λ (x y : ℤ). test_of f (Integer x) (Integer y)) u.2 v.2
      ∙ sym (function_of_units f c d u.1 v.1)
  doubles_alike (inl u) (inr v) = rw (double_value a u.0, double_value c u.1, name_value b v.0, name_value d v.1) (no_order f b d _ _).1
  doubles_alike (inr u) (inl v) = rw (name_value a u.0, name_value c u.1, double_value b v.0, double_value d v.1) (no_order f a c _ _).0
  doubles_alike (inr u) (inr v) = rw (u.2, v.2)

  alike : (s t : Bool) → T (equal_of (by_type s t a) (by_type s t c)) → T (equal_of (by_type s t b) (by_type s t d))
      → test_of f (by_type s t a) (by_type s t b) ≡ test_of f (by_type s t c) (by_type s t d)
  unfolding value_of
  alike true t p q = ap₂ (λ (x y : ℤ). test_of f (Integer x) (Integer y)) (same_whole (signed64 a) (signed64 c) p) (same_whole (signed64 b) (signed64 d) q)
  alike false true p q = ap₂ (λ (x y : ℕ). test_of f (Name x) (Name y)) (eqb→eq a c p) (eqb→eq b d q)
  alike false false p q = doubles_alike (equal_doubles a c p) (equal_doubles b d q)

pub equal_stand_alike : EqualStandAlike
unfolding value_of
equal_stand_alike f kind a b c d p q = alike f a b c d (eqb kind 1) (eqb kind 2) p q
