-- The eight bytes of a value: the claims of specs/Bytes.antt. Assumes nothing.
use Rattle.std.specs.Prelude.{Err, Ok}
use mathlib.Core.Path.{◌≡◌, refl, sym, subst, ap, ◌∙◌}
use mathlib.Core.Bool.{Bool, true, false, not, cond, true≢false}
use Prim.Native.Nat.{ℕ, zero, suc, ◌-◌, ◌/◌, ◌%◌, ◌^◌, ◌<◌, ◌≤◌}
use Rattle.sums.specs.Worth.{Worth}
use native.Mathlib.Nat.{lt_of_le_of_lt}
use native.Mathlib.Omega.{arith}
use borrow.Author.Tests.{ltb-true, ltb-false}
use lib.Dec.{T, ltb, leb, eqb}
use lib.IntN.{ℤ, pos, negsuc, nat_abs, ◌+ℤ◌, ◌-ℤ◌, ◌*ℤ◌}
use lib.Signed.{mag, quot_z, rem_z, mag_rem}
use lib.Ieee.{Float, nan, inf, fin, binary64, fits, of_fields, of_bits, to_bits, add}
use lib.Ieee.Bits.{of_bits-to_bits, to_bits-lt}
use lib.Ieee.Fits.{add-fits}
use Rattle.record.specs.Choose.{if}
use Rattle.value.specs.Value.{signed64, finite_of, value_of}
use Rattle.value.specs.declared.Value.{Value}
use Rattle.value.specs.declared.Value.TheVariants.{Integer, Name, Double}
use Rattle.value.proofs.Halves.{low, high}
use Rattle.sums.specs.declared.Operator.{Operator}
use Rattle.sums.specs.declared.Operator.TheVariants.{Add, Subtract, Multiply, Divide, Remainder, DoubleAdd}
use Rattle.sums.specs.Sums.{failed, unsigned64, bytes_of, fitted, add_of, sub_of, mul_of, div_of, rem_of, plus_of, of_integers, of_doubles, result_of, kind_of}
use Rattle.sums.specs.Bytes.{Of, BytesBack, AsItIs, ResultOfKind}
use Rattle.sums.proofs.Finite.{finite_or, bits_back, sum_is}

-- integers
pub unsigned_back : (z : ℤ) → mag z < 2 ^ 63 → signed64 (unsigned64 z) ≡ z
unsigned_back (pos n) h = low n h
unsigned_back (negsuc n) h =
    let e : 18446744073709551615 - (18446744073709551616 - suc n) ≡ n = omega (arith, h) in
    high (18446744073709551616 - suc n) (omega (arith, h)) (omega (arith, h)) ∙ ap negsuc e

pub unsigned_short : (z : ℤ) → mag z < 2 ^ 63 → unsigned64 z < 2 ^ 64
unsigned_short (pos n) h = omega (arith, h)
unsigned_short (negsuc n) h = omega arith

pub signed_back : (n : ℕ) → n < 2 ^ 64 → unsigned64 (signed64 n) ≡ n
signed_back n h = go (ltb n (2 ^ 63)) refl
  where
    go : (b : Bool) → ltb n (2 ^ 63) ≡ b → unsigned64 (signed64 n) ≡ n
    go true e = ap unsigned64 (low n (ltb-true _ _ e))
    go false e = let l : 2 ^ 63 ≤ n = ltb-false _ _ e in ap unsigned64 (high n l h) ∙ omega (arith, l, h)

pub signed_fits : (n : ℕ) → n < 2 ^ 64 → mag (signed64 n) < 2 ^ 63
signed_fits n h = go (ltb n (2 ^ 63)) refl
  where
    go : (b : Bool) → ltb n (2 ^ 63) ≡ b → mag (signed64 n) < 2 ^ 63
    go true e = let l : n < 2 ^ 63 = ltb-true _ _ e in rw (low n l) l
    go false e = let l : 2 ^ 63 ≤ n = ltb-false _ _ e in rw (high n l h) (omega (arith, l, h))

pub bytes_back : BytesBack
unfolding value_of
bytes_back kind n h = by_kind (eqb kind 1) (eqb kind 2)
  where
    double : (b : Bool) → finite_of n ≡ b → bytes_of (if b (Double (of_bits binary64 n)) (Name n)) ≡ n
    double true e = bits_back n h (subst T (sym e) tt)
    double false e = refl

    by_kind : (s t : Bool) → bytes_of (if s (Integer (signed64 n)) (if t (Name n) (if (finite_of n) (Double (of_bits binary64 n)) (Name n)))) ≡ n
    by_kind true t = signed_back n h
    by_kind false true = refl
    by_kind false false = double (finite_of n) refl

pub as_it_is : AsItIs
as_it_is kind v h = rw (h.stands, bytes_back kind h.bytes h.short) refl

-- what operators give
of_integer : (z : ℤ) → mag z < 2 ^ 63 → Of 1 (Integer z)
unfolding value_of
of_integer z h = record { bytes = unsigned64 z; short = unsigned_short z h; stands = ap Integer (sym (unsigned_back z h)) }

Made : ℕ → Worth → Type 0
Made k (Ok v) = Of k v
Made k (Err s) = Unit

made : (k : ℕ) (w : Worth) (v : Value) → Made k w → w ≡ Ok v → Of k v
unfolding Made
made k w v h e = subst (Made k) e h

made_fitted : (z : ℤ) → Made 1 (fitted z)
unfolding Made
made_fitted z = go (ltb (mag z) (2 ^ 63)) refl
  where
    go : (b : Bool) → ltb (mag z) (2 ^ 63) ≡ b → Made 1 (if b (Ok (Integer z)) failed)
    go true e = of_integer z (ltb-true _ _ e)
    go false e = tt

made_if : (k : ℕ) (b : Bool) (w : Worth) → Made k w → Made k (if b failed w)
unfolding Made
made_if k true w h = tt
made_if k false w h = h

-- the bytes of a finite double are those of a finite double
unfoldable pub is_fin : Float → Bool
is_fin nan = false
is_fin (inf s) = false
is_fin (fin s m e) = true

all_ones : (s : Bool) (x t : ℕ) → eqb x 2047 ≡ true → is_fin (of_fields binary64 s x t) ≡ false
unfolding of_fields is_fin
all_ones s zero t h = absurd (true≢false (sym h))
all_ones s (suc x) t h = rw h (go (eqb t 0))
  where
    go : (b : Bool) → is_fin (cond b (inf s) nan) ≡ false
    go true = refl
    go false = refl

field : (n : ℕ) → n % 2 ^ 63 / 2 ^ 52 ≡ n / 2 ^ 52 % 2048
field n = omega arith

finite_bits : (n : ℕ) → is_fin (of_bits binary64 n) ≡ true → finite_of n ≡ true
unfolding finite_of of_bits
finite_bits n h = go (eqb (n / 2 ^ 52 % 2048) 2047) refl
  where
    go : (b : Bool) → eqb (n / 2 ^ 52 % 2048) 2047 ≡ b → not b ≡ true
    go true e = absurd (true≢false (sym h ∙ all_ones (leb (2 ^ 63) n) (n % 2 ^ 63 / 2 ^ 52) (n % 2 ^ 52) (rw (field n) e)))
    go false e = refl

pub double_back : (x : Float) → T (fits binary64 x) → is_fin x ≡ true → value_of 3 (to_bits binary64 x) ≡ Double x
unfolding value_of
double_back x h f = rw (finite_bits (to_bits binary64 x) (ap is_fin (of_bits-to_bits binary64 x h) ∙ f)) (ap Double (of_bits-to_bits binary64 x h))

of_double : (x : Float) → T (fits binary64 x) → is_fin x ≡ true → Of 3 (Double x)
of_double x h f = record { bytes = to_bits binary64 x; short = to_bits-lt binary64 x h; stands = sym (double_back x h f) }

made_finite : (x : Float) → T (fits binary64 x) → Made 3 (finite_or x)
unfolding Made is_fin
made_finite nan h = tt
made_finite (inf s) h = tt
made_finite (fin s m e) h = of_double (fin s m e) h refl

-- a value of type 3 is a double that its finite eight bytes stand for, or a name
made_sum : (a b : ℕ) → a < 2 ^ 64 → b < 2 ^ 64 → (s t : Bool) → finite_of a ≡ s → finite_of b ≡ t → Made 3 (of_doubles plus_of (value_of 3 a) (value_of 3 b))
unfolding Made value_of
made_sum a b A B true true e f =
    let p : T (finite_of a) = subst T (sym e) tt in
    let q : T (finite_of b) = subst T (sym f) tt in
    subst (Made 3) (sum_is a b A B p q) (made_finite (add binary64 (of_bits binary64 a) (of_bits binary64 b)) (add-fits binary64 (of_bits binary64 a) (of_bits binary64 b)))
made_sum a b A B true false e f = rw (e, f) tt
made_sum a b A B false t e f = rw e tt

made_doubles : (x y : Value) → Of 3 x → Of 3 y → Made 3 (of_doubles plus_of x y)
made_doubles x y p q = rw (p.stands, q.stands) (made_sum p.bytes q.bytes p.short q.short (finite_of p.bytes) (finite_of q.bytes) refl refl)

-- integers of 64 bits
number : Value → ℤ
number (Integer x) = x
number (Name n) = pos 0
number (Double x) = pos 0

fits_of : (a : ℤ) → Of 1 (Integer a) → mag a < 2 ^ 63
unfolding value_of number
fits_of a h = subst (λ (z : ℤ). mag z < 2 ^ 63) (sym (ap number h.stands)) (signed_fits h.bytes h.short)

made_integers : (f : ℤ → ℤ → Worth) → ((a b : ℤ) → mag a < 2 ^ 63 → Made 1 (f a b)) → (x y : Value) → Of 1 x → Made 1 (of_integers f x y)
unfolding Made
made_integers f k (Integer x) (Integer y) h = k x y (fits_of x h)
made_integers f k (Integer x) (Name y) h = tt
made_integers f k (Integer x) (Double y) h = tt
made_integers f k (Name x) b h = tt
made_integers f k (Double x) b h = tt

made_result : (o : Operator) (x y : Value) → Of (kind_of o) x → Of (kind_of o) y → Made (kind_of o) (result_of o x y)
unfolding Made
made_result Add x y h k = made_integers add_of (λ a b l. made_fitted (a +ℤ b)) x y h
made_result Subtract x y h k = made_integers sub_of (λ a b l. made_fitted (a -ℤ b)) x y h
made_result Multiply x y h k = made_integers mul_of (λ a b l. made_fitted (a *ℤ b)) x y h
made_result Divide x y h k = made_integers div_of (λ a b l. made_if 1 (eqb (nat_abs b) 0) (fitted (quot_z a b)) (made_fitted (quot_z a b))) x y h
made_result Remainder x y h k = made_integers rem_of (λ a b l. made_if 1 (eqb (nat_abs b) 0) (Ok (Integer (rem_z a b))) (of_integer (rem_z a b) (lt_of_le_of_lt (mag_rem a b) l))) x y h
made_result DoubleAdd x y h k = made_doubles x y h k

pub result_of_kind : ResultOfKind
result_of_kind o x y v p q e = made (kind_of o) (result_of o x y) v (made_result o x y p q) e
