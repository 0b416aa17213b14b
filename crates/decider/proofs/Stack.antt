-- Laws of the stack in lent places. Assumes nothing.
use mathlib.Core.Path.{◌≡◌, refl, sym, ap, ◌∙◌}
use mathlib.Core.Bool.{Bool, true, false}
use mathlib.Core.List.{List, [], ◌∷◌, ◌++◌, append-nil, append_assoc}
use Prim.Native.Nat.{ℕ, ◌+◌, ◌-◌, ◌≤◌, ◌<◌}
use native.Mathlib.Omega.{arith}
use native.Mathlib.Numerals.{add-one}
use lib.ListN.{length, take, drop, set, replicate, length-append, length-take, length-drop, take-append-drop}
use lib.Seq.{take-take, take_at, drop_at, take-add, take-suc-set, length-take-le, paste}
use Rattle.record.specs.Choose.{if}
use Rattle.decider.specs.Places.{Holds, Stacked, between}

pub holds_none : (l : List ℕ) (n : ℕ) → Holds l n [] l n
holds_none l n = record { front = sym (append-nil (take n l)); count = omega arith }

-- one on top of another
pub holds_both : {l e f : List ℕ} {n m r : ℕ} {xs ys : List ℕ} → Holds l n xs e m → Holds e m ys f r → Holds l n (xs ++ ys) f r
holds_both {l} {n = n} {xs = xs} {ys = ys} p q =
    record {
      front = q.front ∙ ap (λ z. z ++ ys) p.front ∙ append_assoc (take n l) xs ys;
      count = omega (arith, p.count, q.count, length-append xs ys);
    }

-- a store on top
pub holds_store : {l e : List ℕ} {n m : ℕ} {xs : List ℕ} (x : ℕ) → Holds l n xs e m → m < length e → Holds l n (xs ++ (x ∷ [])) (set e m x) (m + 1)
holds_store {l} {e} {n} {m} {xs} x p h =
    holds_both p (record { front = ap (λ k. take k (set e m x)) (add-one m) ∙ take-suc-set e m x h; count = refl })

-- what was put on top, and that what is below still stands
pub on_top : {l e : List ℕ} {n m : ℕ} {ys : List ℕ} → Holds l n ys e m → n ≤ length l → length e ≡ length l → between n m e ≡ ys
unfolding between
on_top {l} {e} {n} {m} {ys} p h k =
    let c : n + (m - n) ≡ m = omega (arith, p.count) in
    let a : take m e ≡ take n e ++ take (m - n) (drop n e) = ap (λ z. take z e) (sym c) ∙ take-add n (m - n) e in
    sym (drop_at (take n e) (take (m - n) (drop n e)) n (length-take-le n e (omega arith)))
    ∙ ap (drop n) (sym a ∙ p.front) ∙ drop_at (take n l) ys n (length-take-le n l h)

pub below : {l e : List ℕ} {n m : ℕ} {ys : List ℕ} → Holds l n ys e m → n ≤ length l → take n e ≡ take n l
below {l} {e} {n} {m} {ys} p h =
    sym (take-take n m e (omega (arith, p.count))) ∙ ap (take n) p.front ∙ take_at (take n l) ys n (length-take-le n l h)

-- what stands below the height of a stack
holds_below : {l e : List ℕ} {n m : ℕ} {xs : List ℕ} → Stacked l n xs e m → n ≤ length l → Holds l n xs e m
holds_below {l} {e} {n} {m} {xs} p h =
    let k : length (take n l ++ xs) ≡ m = length-append (take n l) xs ∙ omega (arith, length-take-le n l h, p.count) in
    record { front = rw p.places (take_at (take n l ++ xs) (drop m l) m k); count = p.count }

-- a child was put on top of what was there; then some of the two stay
pub settled : (old new : Bool) {l o e f : List ℕ} {n m k r : ℕ} {xs ys : List ℕ} → Holds l n xs o m → Holds o m ys e k
    → n ≤ length l → m ≤ length o → length e ≡ length o
    → Stacked e (if old m n) (if new (between m k e) []) f r → Holds l n (if old xs [] ++ if new ys []) f r
settled true new {l} {o} {e} {f} {n} {m} {k} {r} {xs} {ys} p q hl ho he w =
    holds_both (record { front = below q ho ∙ p.front; count = p.count }) (rw (on_top q ho he) at (holds_below w (omega arith)))
settled false new {l} {o} {e} {f} {n} {m} {k} {r} {xs} {ys} p q hl ho he w =
    let a : take n e ≡ take n l =
    sym (take-take n m e (omega (arith, p.count))) ∙ ap (take n) (below q ho ∙ p.front) ∙ take_at (take n l) xs n (length-take-le n l hl) in
    holds_both (record { front = a ∙ sym (append-nil (take n l)); count = omega arith }) (rw (on_top q ho he) at (holds_below w (omega (arith, p.count))))

-- .. and no more than there was
pub settled_within : (old new : Bool) {l o : List ℕ} {n m e r : ℕ} → n ≤ m → m ≤ e → Stacked l (if old m n) (if new (between m e l) []) o r → r ≤ e
unfolding between
settled_within true true {l} {m = m} {e = e} h g w = omega (arith, w.count, length-take (e - m) (drop m l))
settled_within true false h g w = omega (arith, w.count)
settled_within false true {l} {m = m} {e = e} h g w = omega (arith, w.count, length-take (e - m) (drop m l))
settled_within false false h g w = omega (arith, w.count)

-- the whole, once the rest is cleared
pub cleared : {l e f : List ℕ} {m : ℕ} {xs : List ℕ} → Holds l 0 xs e m → length e ≡ length l → f ≡ take m e ++ replicate (length e - m) 0
    → f ≡ xs ++ replicate (length l - length xs) 0
cleared {l} {e} {f} {m} {xs} p k w =
    let c : length e - m ≡ length l - length xs = omega (arith, p.count) in
    w ∙ ap (λ z. z ++ replicate (length e - m) 0) p.front ∙ ap (λ z. xs ++ replicate z 0) c

length_between : (l : List ℕ) (m e : ℕ) → m ≤ e → e ≤ length l → length (between m e l) ≡ e - m
unfolding between
length_between l m e h g = length-take-le (e - m) (drop m l) (omega (arith, length-drop m l))

-- what is moved down
pub shifted : (l : List ℕ) (at m e : ℕ) {o : List ℕ} → m ≤ e → e ≤ length l → o ≡ paste l at (drop m l) (e - m) → Stacked l at (between m e l) o (at + (e - m))
unfolding between
shifted l at m e g j q = record { places = q; count = omega (arith, length_between l m e g j) }

-- nothing is moved
pub keep_both : (l : List ℕ) (m e : ℕ) → m ≤ e → e ≤ length l → Stacked l m (between m e l) l e
unfolding between
keep_both l m e h g =
    let c : m + (e - m) ≡ e = omega arith in
    record {
      places = sym (take-append-drop e l) ∙ ap (λ z. z ++ drop e l) (ap (λ z. take z l) (sym c) ∙ take-add m (e - m) l);
      count = omega (arith, length_between l m e h g);
    }

pub keep_first : (l : List ℕ) (n : ℕ) → Stacked l n [] l n
keep_first l n = record { places = sym (rw (append-nil (take n l)) (take-append-drop n l)); count = omega arith }
