-- Where operands are of their operator's type, it sees their values themselves: the claims of specs/Typed.antt. Assumes nothing.
use Rattle.std.specs.Prelude.{Err, Ok}
use Prim.Native.Nat.{ℕ, zero, suc, ◌+◌, ◌*◌, ◌/◌, ◌^◌, ◌<◌}
use mathlib.Core.Path.{◌≡◌, refl, sym, subst}
use mathlib.Core.Bool.{Bool, true, false}
use mathlib.Core.List.{List, [], ◌∷◌, ◌++◌}
use Rattle.sums.specs.Worth.{Worth}
use lib.ListN.{length}
use native.Mathlib.Omega.{arith}
use Rattle.record.specs.Choose.{if}
use Rattle.record.specs.Bytes.{size, Bytes, big_of}
use Rattle.value.specs.declared.Function.{Function}
use Rattle.value.specs.declared.Value.{Value}
use Rattle.sums.specs.Sums.{kind_of, result_of}
use Rattle.sums.specs.Bytes.{Of}
use Rattle.sums.proofs.Bytes.{as_it_is, result_of_kind}
use Rattle.sums.specs.declared.Operator.{Operator}
use Rattle.meaning.specs.Numbers.{key_by, key_of, value_under, literal_of}
use Rattle.meaning.specs.Policy.{Key, Expr, literal, attribute, operate}
use Rattle.meaning.specs.Meaning.{Bags, gives, comparison_in, comparison_of, the_only, operated, type_of, worth, weighed, condition_of}
use Rattle.meaning.specs.Reading.{bag_from, bags_of, key_in, takes}
use Rattle.meaning.specs.Typed.{Typed, All, Fair, RequestsAreFair, WorthIsTyped, operated_plain, weighed_plain, OperatesPlainly, WeighsPlainly, ComparesAsWeighed}

-- requests
byte_more : (a b n : ℕ) → a < n → b < 256 → a * 256 + b < n * 256
byte_more a b n h k = omega (arith, h, k)

pub eight : (b : List ℕ) (at : ℕ) → Bytes b → big_of b at 8 < 2 ^ 64
unfolding big_of
eight b at h =
    byte_more _ _ (2 ^ 56) (byte_more _ _ (2 ^ 48) (byte_more _ _ (2 ^ 40) (byte_more _ _ (2 ^ 32) (byte_more _ _ (2 ^ 24) (byte_more _ _ (2 ^ 16) (byte_more _ _ 256 (byte_more 0 _ 1 (omega arith) (h (at + 0))) (h (at + 1))) (h (at + 2))) (h (at + 3))) (h (at + 4))) (h (at + 5))) (h (at + 6))) (h (at + 7))

from_fair : (q : List ℕ) → Bytes q → (key : Key) (left k : ℕ) → All key.type (bag_from q key left k)
unfolding bag_from All
from_fair q h key zero k = tt
from_fair q h key (suc left) k = go (takes key (key_in q k)) (from_fair q h key left (k + 1))
  where
    n : ℕ
    n = big_of q (k * size + 8) 8

    go : (b : Bool) → All key.type (bag_from q key left (k + 1))
        → All key.type (if b (value_under key (big_of q (k * size + 8) 8) ∷ []) [] ++ bag_from q key left (k + 1))
    go true r = (record { bytes = big_of q (k * size + 8) 8; short = eight q (k * size + 8) h; stands = refl }, r)
    go false r = r

pub requests_are_fair : RequestsAreFair
unfolding bags_of
requests_are_fair q h key = from_fair q h key (length q / size) 0

-- worths
Made : ℕ → Worth → Type 0
Made k (Ok v) = Of k v
Made k (Err s) = Unit

plain : (o : Operator) (x y : Worth) → Made (kind_of o) x → Made (kind_of o) y → operated o x y ≡ operated_plain o x y
unfolding Made
plain o (Err s) y p q = refl
plain o (Ok x) (Err s) p q = refl
plain o (Ok x) (Ok y) p q = rw (as_it_is (kind_of o) x p, as_it_is (kind_of o) y q) refl

made_plain : (o : Operator) (x y : Worth) → Made (kind_of o) x → Made (kind_of o) y → Made (kind_of o) (operated_plain o x y)
unfolding Made
made_plain o (Err s) y p q = tt
made_plain o (Ok x) (Err s) p q = tt
made_plain o (Ok x) (Ok y) p q = go (result_of o x y) refl
  where
    go : (w : Worth) → result_of o x y ≡ w → Made (kind_of o) w
    go (Ok v) e = result_of_kind o x y v p q e
    go (Err s) e = tt

made_only : (k : ℕ) (vs : List Value) → All k vs → Made k (the_only vs)
unfolding Made All
made_only k [] h = tt
made_only k (v ∷ []) h = h.0
made_only k (v ∷ w ∷ vs) h = tt

made_worth : (g : Bags) → Fair g → (e : Expr) → Typed e → Made (type_of e) (worth g e)
unfolding worth Typed Made
made_worth g h (literal k n) t = record { bytes = n; short = t; stands = refl }
made_worth g h (attribute key) t = made_only (key_by key).type (g (key_by key)) (h (key_by key))
made_worth g h (operate o a b) t =
    let x : Made (kind_of o) (worth g a) = subst (λ (k : ℕ). Made k (worth g a)) t.0 (made_worth g h a t.2) in
    let y : Made (kind_of o) (worth g b) = subst (λ (k : ℕ). Made k (worth g b)) t.1 (made_worth g h b t.3) in
    rw (plain o (worth g a) (worth g b) x y) (made_plain o (worth g a) (worth g b) x y)

pub worth_is_typed : WorthIsTyped
unfolding Made
worth_is_typed g h e t v q = subst (Made (type_of e)) q (made_worth g h e t)

pub operates_plainly : OperatesPlainly
unfolding worth Typed
operates_plainly g h o a b t =
    plain o (worth g a) (worth g b) (subst (λ (k : ℕ). Made k (worth g a)) t.0 (made_worth g h a t.2))
    (subst (λ (k : ℕ). Made k (worth g b)) t.1 (made_worth g h b t.3))

weigh_plain : (f : Function) (k : ℕ) (x y : Worth) → Made k x → Made k y → weighed f k x y ≡ weighed_plain f x y
unfolding Made
weigh_plain f k (Err s) y p q = refl
weigh_plain f k (Ok x) (Err s) p q = refl
weigh_plain f k (Ok x) (Ok y) p q = rw (as_it_is k x p, as_it_is k y q) refl

pub weighs_plainly : WeighsPlainly
unfolding condition_of
weighs_plainly g h f a b e t u =
    weigh_plain f (type_of a) (worth g a) (worth g b) (made_worth g h a t) (subst (λ (k : ℕ). Made k (worth g b)) (sym e) (made_worth g h b u))

-- the literal and the only value of the key's type, as they are
pub compares_as_weighed : ComparesAsWeighed
unfolding condition_of worth comparison_of gives All
compares_as_weighed g h t l = go (g (key_of t)) (h (key_of t))
  where
    go : (vs : List Value) → All (key_of t).type vs → comparison_in t (the_only vs) ≡ weighed t.function (key_of t).type (Ok (literal_of t)) (the_only vs)
    go [] a = refl
    go (v ∷ []) a =
        rw (as_it_is (key_of t).type (literal_of t) (record { bytes = t.literal; short = l; stands = refl }), as_it_is (key_of t).type v a.0) refl
    go (v ∷ w ∷ vs) a = refl
