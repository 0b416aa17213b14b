-- Laws of reordered lists. Assumes nothing.
use mathlib.Core.Path.{◌≡◌, refl, ap, ◌∙◌}
use mathlib.Core.Bool.{Bool, true, false}
use mathlib.Core.List.{List, [], ◌∷◌, ◌++◌, map}
use Prim.Native.Nat.{suc}
use lib.ListN.{length}
use Rattle.record.specs.Choose.{either}
use Rattle.meaning.specs.Logic.{some}
use Rattle.order.specs.Reordered.{Reordered, none, keep, swap, then}

pub same_order : {A : Type 0} (xs : List A) → Reordered A xs xs
same_order [] = none
same_order (x ∷ xs) = keep (same_order xs)

-- whether any passes a test
either_swap : (p q r : Bool) → either p (either q r) ≡ either q (either p r)
either_swap true true r = refl
either_swap true false r = refl
either_swap false q r = refl

pub some_reordered : {A : Type 0} (f : A → Bool) {xs ys : List A} → Reordered A xs ys → some f xs ≡ some f ys
some_reordered f none = refl
some_reordered f (keep {x} r) = ap (either (f x)) (some_reordered f r)
some_reordered f (swap {x} {y} {xs}) = either_swap (f x) (f y) (some f xs)
some_reordered f (then r s) = some_reordered f r ∙ some_reordered f s

-- a list before, and a list behind
pub front : {A : Type 0} (xs : List A) {ys zs : List A} → Reordered A ys zs → Reordered A (xs ++ ys) (xs ++ zs)
front [] r = r
front (x ∷ xs) r = keep (front xs r)

pub behind : {A : Type 0} {xs ys : List A} (zs : List A) → Reordered A xs ys → Reordered A (xs ++ zs) (ys ++ zs)
behind zs none = same_order zs
behind zs (keep r) = keep (behind zs r)
behind zs swap = swap
behind zs (then r s) = then (behind zs r) (behind zs s)

-- one of each
pub map_reordered : {A B : Type 0} (f : A → B) {xs ys : List A} → Reordered A xs ys → Reordered B (map f xs) (map f ys)
map_reordered f none = none
map_reordered f (keep r) = keep (map_reordered f r)
map_reordered f swap = swap
map_reordered f (then r s) = then (map_reordered f r) (map_reordered f s)

-- what is gathered from each
abbrev pub gather : {A B : Type 0} → (A → List B) → List A → List B
gather f [] = []
gather f (x ∷ xs) = f x ++ gather f xs

past : {A : Type 0} (xs : List A) (y : A) (zs : List A) → Reordered A (xs ++ (y ∷ zs)) (y ∷ (xs ++ zs))
past [] y zs = same_order (y ∷ zs)
past (x ∷ xs) y zs = then (keep (past xs y zs)) swap

blocks : {A : Type 0} (xs ys zs : List A) → Reordered A (xs ++ (ys ++ zs)) (ys ++ (xs ++ zs))
blocks xs [] zs = same_order (xs ++ zs)
blocks xs (y ∷ ys) zs = then (past xs y (ys ++ zs)) (keep (blocks xs ys zs))

pub gather_reordered : {A B : Type 0} (f : A → List B) {xs ys : List A} → Reordered A xs ys → Reordered B (gather f xs) (gather f ys)
gather_reordered f none = none
gather_reordered f (keep {x} r) = front (f x) (gather_reordered f r)
gather_reordered f (swap {x} {y} {xs}) = blocks (f x) (f y) (gather f xs)
gather_reordered f (then r s) = then (gather_reordered f r) (gather_reordered f s)

-- what holds of each
abbrev pub Each : {A : Type 0} → (A → Type 0) → List A → Type 0
Each P [] = Unit
Each P (x ∷ xs) = P x × Each P xs

pub each_reordered : {A : Type 0} (P : A → Type 0) {xs ys : List A} → Reordered A xs ys → Each P xs → Each P ys
each_reordered P none h = h
each_reordered P (keep r) h = (h.0, each_reordered P r h.1)
each_reordered P swap h = (h.1.0, (h.0, h.1.1))
each_reordered P (then r s) h = each_reordered P s (each_reordered P r h)

-- how many there are
pub as_many : {A : Type 0} {xs ys : List A} → Reordered A xs ys → length xs ≡ length ys
as_many none = refl
as_many (keep r) = ap suc (as_many r)
as_many swap = refl
as_many (then r s) = as_many r ∙ as_many s

pub none_reordered : {A : Type 0} {xs ys : List A} → Reordered A xs ys → xs ≡ [] → ys ≡ []
none_reordered none e = refl
none_reordered (keep r) e = cc
none_reordered swap e = cc
none_reordered (then r s) e = none_reordered s (none_reordered r e)

pub single_reordered : {A : Type 0} (x : A) {xs ys : List A} → Reordered A xs ys → xs ≡ x ∷ [] → ys ≡ x ∷ []
single_reordered x none e = e
single_reordered x (keep {xs = xs} {ys = ys} r) e =
    let t : xs ≡ [] = cc in
    let u : ys ≡ [] = none_reordered r t in
    cc
single_reordered x swap e = cc
single_reordered x (then r s) e = single_reordered x s (single_reordered x r e)
