-- The claims of specs/Steps.antt. Assumes nothing.
use Prim.Native.Nat.{ℕ, zero, suc, ◌+◌, ◌-◌, ◌≤◌, ◌<◌}
use mathlib.Core.Path.{◌≡◌, refl, sym, ap, ◌∙◌}
use mathlib.Core.Logic.{◌⊎◌, inl, inr, ⊎_elim}
use mathlib.Core.Bool.{Bool, true, false}
use mathlib.Core.List.{List}
use lib.Dec.{ltb, leb-zero, leb-suc-zero, leb-suc-suc}
use lib.ListN.{length, get_or, replicate, get_or-replicate, length-replicate, get_or-eq_default}
use native.Mathlib.Nat.{zero-add, suc-min-suc, zero-min, min-zero}
use native.Mathlib.Numerals.{one-add}
use native.Mathlib.Omega.{arith}
use borrow.Author.Tests.{ltb-true, ltb-false}
use Rattle.record.proofs.Choose.{no_false}
use Rattle.meaning.specs.Meaning.{Bags}
use Rattle.layout.specs.declared.State.{State}
use Rattle.programme.specs.Step.{may_step, step_of, is_over, fresh_of}
use Rattle.run.specs.Run.{go_on, run_of}
use Rattle.run.specs.Runs.{steps_left}
use Rattle.run.proofs.Runs.{no_more_than_entries, the_smaller}
use Rattle.promises.specs.Steps.{after_steps, Goes, Ends, Left, StepsLeft, OneEnd, RunsAre, entry_at, Met, OnlyMet}
use Rattle.promises.specs.Place.{place, Sized, held}
use Rattle.promises.specs.Sight.{Obliges}
use Rattle.promises.proofs.Sight.{stays_sized, fresh_sized, Stood, stood_or}
use Rattle.layout.specs.Room.{room_p}

module _ (p : List ℕ) (g : Bags) where
  -- a run is its number of single steps, and each could be taken
  pub single : (n : ℕ) (s : State) → (run_of p g n s).state ≡ after_steps p g (run_of p g n s).steps s
  unfolding run_of after_steps
  single zero s = refl
  single (suc n) s = go (is_over s) (may_step p s) (single n (step_of p g s))
    where
      go : (x y : Bool) → (run_of p g n (step_of p g s)).state ≡ after_steps p g (run_of p g n (step_of p g s)).steps (step_of p g s)
          → (go_on x y s (run_of p g n (step_of p g s))).state ≡ after_steps p g (go_on x y s (run_of p g n (step_of p g s))).steps s
      go true y ih = refl
      go false false ih = refl
      go false true ih = rw one-add ih

  pub taken : (n : ℕ) (s : State) (i : ℕ) → i < (run_of p g n s).steps → Goes p (after_steps p g i s)
  unfolding run_of after_steps
  taken zero s i l = absurd (omega (arith, l))
  taken (suc n) s i l = go (is_over s) (may_step p s) refl refl i l (taken n (step_of p g s))
    where
      go : (x y : Bool) → is_over s ≡ x → may_step p s ≡ y → (i : ℕ) → i < (go_on x y s (run_of p g n (step_of p g s))).steps
          → ((j : ℕ) → j < (run_of p g n (step_of p g s)).steps → Goes p (after_steps p g j (step_of p g s))) → Goes p (after_steps p g i s)
      go true y e f i l ih = absurd (omega (arith, l))
      go false false e f i l ih = absurd (omega (arith, l))
      go false true e f zero l ih = record { running = e; may = f }
      go false true e f (suc i) l ih = ih i (omega (arith, l))

  -- a run that takes fewer steps than it might has come to an end
  stops : (n : ℕ) (s : State) → (run_of p g n s).steps < n → Ends p (run_of p g n s).state
  unfolding run_of
  stops zero s l = absurd (omega (arith, l))
  stops (suc n) s l = go (is_over s) (may_step p s) refl refl l (stops n (step_of p g s))
    where
      go : (x y : Bool) → is_over s ≡ x → may_step p s ≡ y → (go_on x y s (run_of p g n (step_of p g s))).steps < suc n
          → ((run_of p g n (step_of p g s)).steps < n → Ends p (run_of p g n (step_of p g s)).state) → Ends p (go_on x y s (run_of p g n (step_of p g s))).state
      go true y e f l ih = inl e
      go false false e f l ih = inr (e, f)
      go false true e f l ih = ih (omega (arith, l))

pub steps_left_lem : StepsLeft
steps_left_lem p g s long ok =
    let most = no_more_than_entries p g (length p) s long ok in
    let same : (run_of p g (suc (length p)) s).steps ≡ steps_left p g s = the_smaller p g (suc (length p)) s long ok ∙ omega (arith, most) in
    let e : (run_of p g (suc (length p)) s).state ≡ after_steps p g (steps_left p g s) s =
    single p g (suc (length p)) s ∙ ap (λ (k : ℕ). after_steps p g k s) same in
    record {
      goes = taken p g (length p) s;
      ends = rw e at (stops p g (suc (length p)) s (rw same (omega (arith, most))));
    }

no_end : (p : List ℕ) (s : State) → Goes p s → Ends p s → ⊥
no_end p s w e =
    ⊎_elim (λ (o : is_over s ≡ true). no_false (sym w.running ∙ o))
    (λ (o : (is_over s ≡ false) × (may_step p s ≡ false)). no_false (sym o.1 ∙ w.may)) e

pub one_end : OneEnd
one_end p g s j k v w = go (ltb j k) (ltb k j) refl refl
  where
    go : (x y : Bool) → ltb j k ≡ x → ltb k j ≡ y → j ≡ k
    go true y e f = absurd (no_end p _ (w.goes j (ltb-true j k e)) v.ends)
    go false true e f = absurd (no_end p _ (v.goes k (ltb-true k j f)) w.ends)
    go false false e f = let a = ltb-false j k e in let b = ltb-false k j f in omega (arith, a, b)

module _ (p : List ℕ) (g : Bags) where
  later : (s : State) (k : ℕ) → Left p g s (suc k) → Left p g (step_of p g s) k
  unfolding after_steps
  later s k w = record { goes = λ i l. w.goes (suc i) (omega (arith, l)); ends = w.ends }

  first : (s : State) (k : ℕ) → Left p g s (suc k) → Goes p s
  unfolding after_steps
  first s k w = w.goes 0 (omega arith)

  none : (s : State) → Left p g s 0 → Ends p s
  unfolding after_steps
  none s w = w.ends

  -- after some of the steps left, the others are left
  pub steps_add : (a b : ℕ) (s : State) → after_steps p g b (after_steps p g a s) ≡ after_steps p g (a + b) s
  unfolding after_steps
  steps_add zero b s = rw (zero-add b) refl
  steps_add (suc a) b s = let e : suc a + b ≡ suc (a + b) = omega arith in rw e (steps_add a b (step_of p g s))

  pub left_after : (a k : ℕ) (s : State) → a ≤ k → Left p g s k → Left p g (after_steps p g a s) (k - a)
  left_after a k s l w =
      let e : a + (k - a) ≡ k = omega (arith, l) in
      record {
        goes = λ i h. rw (steps_add a i s) (w.goes (a + i) (omega (arith, h)));
        ends = rw (steps_add a (k - a) s, e) w.ends;
      }

pub runs_are : RunsAre
unfolding run_of after_steps
runs_are p g zero s k w = rw (zero-min k, leb-zero k) refl
runs_are p g (suc n) s zero w =
    ⊎_elim (λ (o : is_over s ≡ true). rw (o, leb-suc-zero n, min-zero (suc n)) refl)
    (λ (o : (is_over s ≡ false) × (may_step p s ≡ false)). rw (o.0, o.1, leb-suc-zero n, min-zero (suc n)) refl)
    (none p g s w)
runs_are p g (suc n) s (suc k) w =
    let f = first p g s k w in
    rw (f.running, f.may, runs_are p g n (step_of p g s) k (later p g s k w), leb-suc-suc n k, suc-min-suc n k, one-add) refl

-- what an obligation place holds after n steps stood in one before, or is the number of an obligation that was met
module _ (p : List ℕ) (g : Bags) where
  whence : (n : ℕ) (s : State) → Sized s → (v k : ℕ) → v ≡ get_or (after_steps p g n s).places k 0 → Stood s v ⊎ Met p g s n v
  unfolding after_steps
  whence zero s w v k e = inl (record { place = k; same = e })
  whence (suc n) s w v k e = ⊎_elim stood met (whence n (step_of p g s) (stays_sized p g s w) v k e)
    where
      stood : Stood (step_of p g s) v → Stood s v ⊎ Met p g s (suc n) v
      stood u =
          ⊎_elim (λ (a : Stood s (held (step_of p g s) (place u.place))). inl (record { place = a.place; same = u.same ∙ a.same }))
          (λ (o : Obliges (entry_at p s) (held (step_of p g s) (place u.place))). inr (record { step = 0; before = omega arith; obliges = rw u.same o }))
          (stood_or p g s w u.place)

      met : Met p g (step_of p g s) n v → Stood s v ⊎ Met p g s (suc n) v
      met u = let l = u.before in inr (record { step = suc u.step; before = omega (arith, l); obliges = u.obliges })

fresh_zero : (k : ℕ) → get_or fresh_of.places k 0 ≡ 0
unfolding fresh_of
fresh_zero k = go (ltb k room_p) refl
  where
    go : (b : Bool) → ltb k room_p ≡ b → ◌≡◌ {A = ℕ} (get_or (replicate room_p 0) k 0) 0
    go true e = get_or-replicate room_p k 0 0 (ltb-true k room_p e)
    go false e =
        let xs : List ℕ = replicate room_p 0 in
        let l : length xs ≤ k = rw (length-replicate {A = ℕ} room_p 0) (ltb-false k room_p e) in
        get_or-eq_default xs 0 l

pub only_met : OnlyMet
only_met p g n k =
    ⊎_elim (λ (w : Stood fresh_of (get_or (run_of p g n fresh_of).state.places k 0)). inl (w.same ∙ fresh_zero w.place))
    (λ (w : Met p g fresh_of (run_of p g n fresh_of).steps (get_or (run_of p g n fresh_of).state.places k 0)). inr w)
    (whence p g (run_of p g n fresh_of).steps fresh_of fresh_sized (get_or (run_of p g n fresh_of).state.places k 0) k (ap (λ (s : State). get_or s.places k 0) (single p g n fresh_of)))
