-- The claims of specs/Sight.antt. Assumes nothing.
use Prim.Native.Nat.{ℕ, zero, suc, ◌+◌, ◌-◌, ◌≤◌, ◌<◌}
use mathlib.Core.Path.{◌≡◌, refl, sym, ap, ◌∙◌}
use mathlib.Core.Bool.{Bool, true, false}
use mathlib.Core.Logic.{◌⊎◌, inl, inr, ⊎_elim}
use mathlib.Core.List.{List}
use lib.Dec.{ltb, leb, eqb}
use lib.ListN.{length, get_or, set, get_or-eq_default}
use lib.Seq.{get_or-set_same, get_or-set_other}
use native.Mathlib.Omega.{arith}
use borrow.Author.Tests.{eqb-true, eqb-false, ne_eqb, ltb-true, ltb-false, leb-true, leb-false}
use Rattle.record.specs.Choose.{if, both}
use Rattle.meaning.specs.Meaning.{Bags, match_of, comparison_of}
use Rattle.layout.specs.declared.Head.{Head}
use Rattle.layout.specs.declared.State.{State}
use Rattle.layout.specs.declared.Frame.{Frame}
use Rattle.moves.specs.declared.Placing.{Placing}
use Rattle.moves.specs.declared.Placing.TheVariants.{Rest, AddPermit, AddDeny, FallPermit, FallDeny, FallBoth, Cut, Down}
use Rattle.layout.specs.Entry.{loads, asks, works, tests, Entry, begin, match, further, opens, compare, close, sum, rule, enter, applies, conclude, oblige, leave, finish}
use Rattle.moves.specs.Core.{Changing, keep, push, swap, below, back, Out, core}
use Rattle.layout.specs.Room.{room_f, room_l, room_p}
use Rattle.stacks.specs.Machine.{stack_after, copies, places_after}
use Rattle.layout.specs.Layout.{frame_word, fetch}
use Rattle.stacks.specs.Carry.{in_words}
use Rattle.programme.specs.Step.{after, seen, may_step, step_of, is_over, fresh_of}
use Rattle.moves.proofs.Placings.{ByEntry, placing_by}
use Rattle.stacks.proofs.Bounds.{stack_length, places_length, copies_before, copies_behind, copies_at}
use Rattle.run.specs.Run.{go_on, run_of}
use Rattle.promises.specs.Place.{head_of, Place, frame, level, place, Sized, There, held, touched, In}
use Rattle.promises.specs.Sight.{asked, Sight, sight_of, head_in, entry_in, out_in, may_in, first_after, Source, stays, number, from, given, in_stack, in_places, source_of, BySight, AtMostEleven, Obliges, Plain, Puts, Within, TouchesNoMore, ElseStays, Alike, Local, StaysSized, RunsStaySized, FreshSized}

pub at_most_eleven : AtMostEleven
at_most_eleven h = omega arith

-- one bag
core_bag : (e : Entry) (g : Bags) (x : Head) (l m : ℕ) (f b : Frame) → core g x e l m f b ≡ core (λ k. g (asked e)) x e l m f b
unfolding core match_of comparison_of
core_bag (begin al c) g x l m f b = refl
core_bag (match t k c s i j y) g x l m f b = refl
core_bag further g x l m f b = refl
core_bag (opens op) g x l m f b = refl
core_bag (compare t n) g x l m f b = refl
core_bag (close n) g x l m f b = refl
core_bag (sum (loads k n)) g x l m f b = refl
core_bag (sum (asks key)) g x l m f b = refl
core_bag (sum (works o)) g x l m f b = refl
core_bag (sum (tests y k)) g x l m f b = refl
core_bag (rule y n) g x l m f b = refl
core_bag (enter al) g x l m f b = refl
core_bag (applies n) g x l m f b = refl
core_bag (conclude n) g x l m f b = refl
core_bag (oblige y n) g x l m f b = refl
core_bag (leave n) g x l m f b = refl
core_bag finish g x l m f b = refl

-- what a step does, as its sight says
abbrev out_of : List ℕ → Bags → State → Out
out_of p g s = seen g s (head_of s) (fetch p (head_of s).at)

same_out : (p : List ℕ) (g : Bags) (s : State) → out_of p g s ≡ out_in (sight_of p g s)
unfolding seen fetch
same_out p g s = core_bag (entry_in (sight_of p g s)) g _ _ _ _ _

-- one store
module _ (s : State) (x : Place) (xs : List ℕ) (k : ℕ) (is : held s x ≡ get_or xs k 0) (there : k < length xs) where
  stored : (i v : ℕ) → get_or (set xs i v) k 0 ≡ given (if (eqb k i) (number v) stays) s x
  stored i v = go (eqb k i) refl
    where
      go : (b : Bool) → eqb k i ≡ b → get_or (set xs i v) k 0 ≡ given (if b (number v) stays) s x
      go true e = let z : k ≡ i = eqb-true k i e in rw (← z) (get_or-set_same xs k v 0 there)
      go false e = get_or-set_other xs i k v 0 (eqb-false k i e) ∙ sym is

  pub in_stack_lem : (room : ℕ) → length xs ≡ room → (z : Changing ℕ) (n : ℕ) → get_or (stack_after room z n xs) k 0 ≡ given (in_stack z n k) s x
  in_stack_lem room long keep n = sym is
  in_stack_lem room long (push v) n = go (ltb (suc n) room) refl
    where
      go : (b : Bool) → ltb (suc n) room ≡ b → get_or (if b (set xs (suc n) v) xs) k 0 ≡ given (if (eqb k (suc n)) (number v) stays) s x
      go true e = stored (suc n) v
      go false e =
          let l = ltb-false (suc n) room e in
          rw (ne_eqb k (suc n) (λ z. omega (arith, l, z, there, long))) (sym is)
  in_stack_lem room long (swap v) n = stored n v
  in_stack_lem room long (below v) n = stored (n - 1) v
  in_stack_lem room long (back v) n = stored (n - 1) v

-- the obligation places
module _ (s : State) (xs : List ℕ) (k : ℕ) (is : s.places ≡ xs) (long : length xs ≡ room_p) (there : k < room_p) where
  pub in_places_lem : (z : Placing) (h : Head) → get_or (places_after z h.cut h.permits h.denies xs) k 0 ≡ given (in_places z h k) s (place k)
  in_places_lem Rest h = rw is refl
  in_places_lem (AddPermit n) h = go (ltb h.permits h.cut)
    where
      go : (b : Bool) → get_or (if b (set xs h.permits n) xs) k 0 ≡ given (if (both b (eqb k h.permits)) (number n) stays) s (place k)
      go true = stored s (place k) xs k (rw is refl) (omega (arith, long, there)) h.permits n
      go false = rw is refl
  in_places_lem (AddDeny n) h = go (ltb (h.cut + h.denies) (length xs)) refl
    where
      go : (b : Bool) → ltb (h.cut + h.denies) (length xs) ≡ b
          → get_or (if b (set xs (h.cut + h.denies) n) xs) k 0 ≡ given (if (eqb k (h.cut + h.denies)) (number n) stays) s (place k)
      go true e = stored s (place k) xs k (rw is refl) (omega (arith, long, there)) (h.cut + h.denies) n
      go false e =
          let l = ltb-false (h.cut + h.denies) (length xs) e in
          rw (ne_eqb k (h.cut + h.denies) (λ z. omega (arith, l, z, there, long)), is) refl
  in_places_lem (FallPermit a) h = rw is refl
  in_places_lem (FallDeny b) h = rw is refl
  in_places_lem (FallBoth a b) h = rw is refl
  in_places_lem (Cut c) h = rw is refl
  in_places_lem (Down n) h = go (leb h.permits k) (ltb k (h.permits + n)) refl refl
    where
      go : (a b : Bool) → leb h.permits k ≡ a → ltb k (h.permits + n) ≡ b
          → get_or (copies n h.cut h.permits xs) k 0 ≡ given (if (both a b) (from (h.cut + k)) stays) s (place k)
      go true true e f = copies_at n h.cut h.permits xs k (leb-true _ _ e) (ltb-true _ _ f) (omega (arith, long, there)) ∙ rw is refl
      go true false e f = copies_behind n h.cut h.permits xs k (ltb-false _ _ f) ∙ rw is refl
      go false b e f = copies_before n h.cut h.permits xs k (leb-false _ _ e) ∙ rw is refl

pub by_sight : BySight
unfolding may_step step_of after fetch
by_sight p g s w = (refl, rw (← same_out p g s) refl, each)
  where
    each : (x : Place) → There x → held (step_of p g s) x ≡ given (source_of (sight_of p g s) x) s x
    each (frame k) l =
        let e = w.frames in
        rw (← same_out p g s) (in_stack_lem s (frame k) s.frames k refl (omega (arith, l, e)) room_f e (in_words frame_word (out_of p g s).frames) (head_of s).depth)
    each (level k) l =
        let e = w.levels in
        rw (← same_out p g s) (in_stack_lem s (level k) s.levels k refl (omega (arith, l, e)) room_l e (out_of p g s).levels (head_of s).nest)
    each (place k) l = rw (← same_out p g s) (in_places_lem s s.places k refl w.places l (out_of p g s).placing (head_of s))

-- places: a step brings down no more than two, and puts none but the number that it met
Modest : Entry → Placing → Type 0
Modest e Rest = Unit
Modest e (AddPermit n) = Obliges e n
Modest e (AddDeny n) = Obliges e n
Modest e (FallPermit h) = Unit
Modest e (FallDeny h) = Unit
Modest e (FallBoth h k) = Unit
Modest e (Cut c) = Unit
Modest e (Down n) = n ≤ 2

modest_core : (e : Entry) (g : Bags) (h : Head) (l m : ℕ) (f b : Frame) → Modest e (core g h e l m f b).placing
unfolding Modest Obliges
modest_core e g h l m f b = placing_by (λ e over z. Modest e z) h modest g e l m f b
  where
    modest : ByEntry (λ e over z. Modest e z) h
    modest = record { rests = λ e. tt; cuts = λ a c. tt; falls = λ n p d. (tt, tt, tt); adds = λ n. (refl, refl); ends = tt; downs = λ k. omega arith }

-- where the eleven stand in their list
abbrev Touched : Sight → Place → Type 0
Touched w x = In x (touched (head_in w))

plain_puts : (w : Sight) (x : Place) (n : ℕ) → Plain x → Puts w x n
plain_puts w (frame k) n m = tt
plain_puts w (level k) n m = tt
plain_puts w (place k) n m = absurd m

-- of a stack whose top is the n-th, the top, the one below and the one above
module _ (w : Sight) (x : Place) (plain : Plain x) (n k : ℕ) (top : k ≡ n → Touched w x) (under : k ≡ n - 1 → Touched w x) (above : k ≡ suc n → Touched w x) where
  one : (i v : ℕ) → (k ≡ i → Touched w x) → Within w x (if (eqb k i) (number v) stays)
  one i v h = go (eqb k i) refl
    where
      go : (b : Bool) → eqb k i ≡ b → Within w x (if b (number v) stays)
      go true e = (h (eqb-true k i e), plain_puts w x v plain)
      go false e = tt

  within_stack : (z : Changing ℕ) → Within w x (in_stack z n k)
  within_stack keep = tt
  within_stack (push v) = one (suc n) v above
  within_stack (swap v) = one n v top
  within_stack (below v) = one (n - 1) v under
  within_stack (back v) = one (n - 1) v under

module _ (w : Sight) (k : ℕ) where
  at_permits : k ≡ (head_in w).permits → Touched w (place k)
  at_permits e = inr (inr (inr (inr (inr (inr (inl (ap place e)))))))

  at_next : k ≡ suc (head_in w).permits → Touched w (place k)
  at_next e = inr (inr (inr (inr (inr (inr (inr (inl (ap place e))))))))

  at_denies : k ≡ (head_in w).cut + (head_in w).denies → Touched w (place k)
  at_denies e = inr (inr (inr (inr (inr (inr (inr (inr (inl (ap place e)))))))))

  over_permits : k ≡ (head_in w).permits → Touched w (place ((head_in w).cut + k))
  over_permits e = inr (inr (inr (inr (inr (inr (inr (inr (inr (inl (ap (λ (i : ℕ). place ((head_in w).cut + i)) e))))))))))

  over_next : k ≡ suc (head_in w).permits → Touched w (place ((head_in w).cut + k))
  over_next e = inr (inr (inr (inr (inr (inr (inr (inr (inr (inr (inl (ap (λ (i : ℕ). place ((head_in w).cut + i)) e)))))))))))

  within_places : (z : Placing) → Modest (entry_in w) z → Within w (place k) (in_places z (head_in w) k)
  unfolding Modest
  within_places Rest m = tt
  within_places (AddPermit n) m = go (ltb (head_in w).permits (head_in w).cut) (eqb k (head_in w).permits) refl
    where
      go : (a b : Bool) → eqb k (head_in w).permits ≡ b → Within w (place k) (if (both a b) (number n) stays)
      go true true e = (at_permits (eqb-true _ _ e), m)
      go true false e = tt
      go false b e = tt
  within_places (AddDeny n) m = go (eqb k ((head_in w).cut + (head_in w).denies)) refl
    where
      go : (b : Bool) → eqb k ((head_in w).cut + (head_in w).denies) ≡ b → Within w (place k) (if b (number n) stays)
      go true e = (at_denies (eqb-true _ _ e), m)
      go false e = tt
  within_places (FallPermit a) m = tt
  within_places (FallDeny b) m = tt
  within_places (FallBoth a b) m = tt
  within_places (Cut c) m = tt
  within_places (Down n) m = go (leb (head_in w).permits k) (ltb k ((head_in w).permits + n)) (eqb k (head_in w).permits) refl refl refl
    where
      go : (a b c : Bool) → leb (head_in w).permits k ≡ a → ltb k ((head_in w).permits + n) ≡ b → eqb k (head_in w).permits ≡ c
          → Within w (place k) (if (both a b) (from ((head_in w).cut + k)) stays)
      go true true true e f h = let z = eqb-true _ _ h in (at_permits z, λ q. q, over_permits z)
      go true true false e f h =
          let x = leb-true (head_in w).permits k e in
          let y = ltb-true k ((head_in w).permits + n) f in
          let u = eqb-false k (head_in w).permits h in
          let z : k ≡ suc (head_in w).permits = omega (arith, x, y, u, m) in
          (at_next z, λ q. q, over_next z)
      go true false c e f h = tt
      go false b c e f h = tt

pub touches_no_more : TouchesNoMore
touches_no_more w (frame k) =
    within_stack w (frame k) tt (head_in w).depth k (λ e. inl (ap frame e)) (λ e. inr (inl (ap frame e))) (λ e. inr (inr (inl (ap frame e))))
    (in_words frame_word (out_in w).frames)
touches_no_more w (level k) =
    within_stack w (level k) tt (head_in w).nest k (λ e. inr (inr (inr (inl (ap level e))))) (λ e. inr (inr (inr (inr (inl (ap level e))))))
    (λ e. inr (inr (inr (inr (inr (inl (ap level e))))))) (out_in w).levels
touches_no_more w (place k) = within_places w k (out_in w).placing (modest_core (entry_in w) (λ x. w.bag) (head_in w) _ _ _ _)

-- the same sight
pub same_sight : (p q : List ℕ) (g h : Bags) (s t : State) → Alike p q g h s t → sight_of p g s ≡ sight_of q h t
same_sight p q g h s t w =
    rw (
      ← w.first,
      w.long,
      ← w.entry,
      ← w.second,
      ← w.third,
      w.plain (frame (head_of s).depth) (inl refl) tt,
      w.plain (frame ((head_of s).depth - 1)) (inr (inl refl)) tt,
      w.plain (level (head_of s).nest) (inr (inr (inr (inl refl)))) tt,
      w.plain (level ((head_of s).nest - 1)) (inr (inr (inr (inr (inl refl))))) tt,
      w.bag,
    ) refl

plain_given : (w : Sight) (s t : State) (x : Place) (a : Source) → Within w x a → Plain x → held s x ≡ held t x → given a s x ≡ given a t x
plain_given w s t x stays v m e = e
plain_given w s t x (number n) v m e = refl
plain_given w s t x (from j) v m e = absurd (v.1 m)

pub local : Local
local p q g h s t ss st w =
    let e : sight_of p g s ≡ sight_of q h t = same_sight p q g h s t w in
    let a = by_sight p g s ss in
    let b = by_sight q h t st in
    let z : (x : Place) → There x → held (step_of q h t) x ≡ given (source_of (sight_of p g s) x) t x =
    λ x l. b.2 x l ∙ ap (λ (u : Sight). given (source_of u x) t x) (sym e) in (
      e,
      a.0 ∙ ap may_in e ∙ sym b.0,
      a.1 ∙ ap first_after e ∙ sym b.1,
      λ x l i m.
          a.2 x l ∙ plain_given (sight_of p g s) s t x (source_of (sight_of p g s) x) (touches_no_more (sight_of p g s) x) m (w.plain x i m) ∙ sym (z x l),
      λ x l. (a.2 x l, z x l),
    )

-- how many numbers
pub stays_sized : StaysSized
unfolding step_of after
stays_sized p g s w = record {
  frames = stack_length room_f (in_words frame_word (out_of p g s).frames) (head_of s).depth s.frames ∙ w.frames;
  levels = stack_length room_l (out_of p g s).levels (head_of s).nest s.levels ∙ w.levels;
  places = places_length (out_of p g s).placing (head_of s).cut (head_of s).permits (head_of s).denies s.places ∙ w.places;
}

pub fresh_sized : FreshSized
unfolding fresh_of
fresh_sized = record { frames = refl; levels = refl; places = refl }

pub runs_stay_sized : RunsStaySized
unfolding run_of
runs_stay_sized p g zero s w = w
runs_stay_sized p g (suc n) s w = go (is_over s) (may_step p s) (runs_stay_sized p g n (step_of p g s) (stays_sized p g s w))
  where
    go : (x y : Bool) → Sized (run_of p g n (step_of p g s)).state → Sized (go_on x y s (run_of p g n (step_of p g s))).state
    go true y ih = w
    go false false ih = w
    go false true ih = ih

-- a number that a state does not have
beyond : (xs ys : List ℕ) (room k : ℕ) → length xs ≡ room → length ys ≡ room → room ≤ k → get_or xs k 0 ≡ get_or ys k 0
beyond xs ys room k e f l =
    let a : length xs ≤ k = rw e l in
    let b : length ys ≤ k = rw f l in
    get_or-eq_default xs 0 a ∙ sym (get_or-eq_default ys 0 b)

there_or : (s t : State) → Sized s → Sized t → (x : Place) → There x ⊎ (held s x ≡ held t x)
there_or s t u v (frame k) = go (ltb k room_f) refl
  where
    go : (b : Bool) → ltb k room_f ≡ b → (k < room_f) ⊎ (get_or s.frames k 0 ≡ get_or t.frames k 0)
    go true e = inl (ltb-true k room_f e)
    go false e = inr (beyond s.frames t.frames room_f k u.frames v.frames (ltb-false k room_f e))
there_or s t u v (level k) = go (ltb k room_l) refl
  where
    go : (b : Bool) → ltb k room_l ≡ b → (k < room_l) ⊎ (get_or s.levels k 0 ≡ get_or t.levels k 0)
    go true e = inl (ltb-true k room_l e)
    go false e = inr (beyond s.levels t.levels room_l k u.levels v.levels (ltb-false k room_l e))
there_or s t u v (place k) = go (ltb k room_p) refl
  where
    go : (b : Bool) → ltb k room_p ≡ b → (k < room_p) ⊎ (get_or s.places k 0 ≡ get_or t.places k 0)
    go true e = inl (ltb-true k room_p e)
    go false e = inr (beyond s.places t.places room_p k u.places v.places (ltb-false k room_p e))

else_given : (w : Sight) (s : State) (x : Place) (a : Source) → Within w x a → (Touched w x → ⊥) → given a s x ≡ held s x
else_given w s x stays v n = refl
else_given w s x (number m) v n = absurd (n v.0)
else_given w s x (from j) v n = absurd (n v.0)

pub else_stays : ElseStays
else_stays p g s w x n =
    let o : Sight = sight_of p g s in
    ⊎_elim (λ (l : There x). (by_sight p g s w).2 x l ∙ else_given o s x (source_of o x) (touches_no_more o x) n)
    (λ (e : held (step_of p g s) x ≡ held s x). e) (there_or (step_of p g s) s (stays_sized p g s w) w x)

-- what an obligation place holds after a step stood in one, or is the number of the obligation met
pub record Stood (s : State) (v : ℕ) : Type 0 where
  pub place : ℕ
  pub same : v ≡ get_or s.places place 0

module _ (p : List ℕ) (g : Bags) (s : State) (w : Sized s) (k : ℕ) where
  abbrev Told : ℕ → Type 0
  Told v = Stood s v ⊎ Obliges (fetch p (head_of s).at) v

  told : (a : Source) → Within (sight_of p g s) (place k) a → Told (given a s (place k))
  unfolding fetch
  told stays v = inl (record { place = k; same = refl })
  told (number n) v = inr v.1
  told (from j) v = inl (record { place = j; same = refl })

  pub stood_or : Told (held (step_of p g s) (place k))
  stood_or =
      ⊎_elim (λ (l : k < room_p). rw ((by_sight p g s w).2 (place k) l) (told (source_of (sight_of p g s) (place k)) (touches_no_more (sight_of p g s) (place k))))
      (λ (e : held (step_of p g s) (place k) ≡ held s (place k)). inl (record { place = k; same = e }))
      (there_or (step_of p g s) s (stays_sized p g s w) w (place k))
