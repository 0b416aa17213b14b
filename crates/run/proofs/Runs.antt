-- The claims of specs/Runs.antt. Assumes nothing.
use Prim.Native.Nat.{ℕ, zero, suc, ◌+◌, ◌-◌, ◌≤◌, min}
use mathlib.Core.Path.{◌≡◌, refl, sym, ap, ◌∙◌}
use mathlib.Core.Bool.{Bool, true, false}
use mathlib.Core.List.{List}
use lib.ListN.{length}
use native.Mathlib.Nat.{zero-add, add_assoc, suc-min-suc, zero-min, min-zero}
use native.Mathlib.Numerals.{one-add}
use native.Mathlib.Omega.{arith}
use Rattle.meaning.specs.Meaning.{Bags}
use Rattle.layout.specs.declared.State.{State}
use Rattle.layout.specs.Layout.{unpack_of, allowed}
use Rattle.programme.specs.Step.{may_step, step_of, is_over}
use Rattle.programme.proofs.Forward.{still_allowed, further_on}
use Rattle.run.specs.Run.{stay, one_more, go_on, run_of, Ran}
use Rattle.run.specs.Runs.{and_then, RunsAdd, NoMoreThanEntries, TheSmaller, FinishedStays, RunsStayAllowed}

pub finished_stays : FinishedStays
unfolding run_of
finished_stays p g zero s e = refl
finished_stays p g (suc n) s e = rw e refl

module _ (p : List ℕ) (g : Bags) where
  one_more_then : (k : Bool) (r : Ran) (b : ℕ) → one_more (and_then p g k r b) ≡ and_then p g k (one_more r) b
  one_more_then true r b = rw (add_assoc 1 r.steps (run_of p g b r.state).steps) refl
  one_more_then false r b = refl

  after_zero : (b : ℕ) (s : State) → and_then p g true (stay true s) b ≡ run_of p g b s
  after_zero b s = rw (zero-add (run_of p g b s).steps) refl

pub runs_add : RunsAdd
unfolding run_of
runs_add p g zero b s = rw (zero-add b) (sym (after_zero p g b s))
runs_add p g (suc a) b s =
    let e : suc a + b ≡ suc (a + b) = omega arith in
    rw e (go (is_over s) (may_step p s) refl (runs_add p g a b (step_of p g s)))
  where
    go : (x y : Bool) → is_over s ≡ x
        → run_of p g (a + b) (step_of p g s) ≡ and_then p g (run_of p g a (step_of p g s)).ok (run_of p g a (step_of p g s)) b
        → go_on x y s (run_of p g (a + b) (step_of p g s)) ≡ and_then p g (go_on x y s (run_of p g a (step_of p g s))).ok (go_on x y s (run_of p g a (step_of p g s))) b
    go true y f ih = sym (after_zero p g b s ∙ finished_stays p g b s f)
    go false false f ih = refl
    go false true f ih = ap one_more ih ∙ one_more_then p g (run_of p g a (step_of p g s)).ok (run_of p g a (step_of p g s)) b

abbrev at : State → ℕ
at s = (unpack_of s.head).at

-- no more steps than there are entries from its place on
bounded : (p : List ℕ) (g : Bags) (n : ℕ) (s : State) → length p ≤ 8008 → allowed s.head ≡ true → (run_of p g n s).steps ≤ length p - at s
unfolding run_of
bounded p g zero s l a = omega arith
bounded p g (suc n) s l a = go (is_over s) (may_step p s) refl (λ e. bounded p g n (step_of p g s) l (still_allowed p g s l a e))
  where
    go : (x y : Bool) → may_step p s ≡ y → (may_step p s ≡ true → (run_of p g n (step_of p g s)).steps ≤ length p - at (step_of p g s))
        → (go_on x y s (run_of p g n (step_of p g s))).steps ≤ length p - at s
    go true y e ih = omega arith
    go false false e ih = omega arith
    go false true e ih = let f = further_on p g s l a e in let i = ih e in omega (arith, f.0, f.1, i)

pub no_more_than_entries : NoMoreThanEntries
no_more_than_entries p g n s l a = let h = bounded p g n s l a in omega (arith, h)

smaller : (p : List ℕ) (g : Bags) (b m : ℕ) (s : State) → length p ≤ 8008 → allowed s.head ≡ true → length p - at s ≤ m → (run_of p g b s).steps ≡ min b (run_of p g m s).steps
unfolding run_of
smaller p g zero m s l a k = sym (zero-min _)
smaller p g (suc b) zero s l a k = go (is_over s) (may_step p s) refl
  where
    go : (x y : Bool) → may_step p s ≡ y → (go_on x y s (run_of p g b (step_of p g s))).steps ≡ min (suc b) 0
    go true y f = sym (min-zero _)
    go false false f = sym (min-zero _)
    go false true f = let z = further_on p g s l a f in absurd (omega (arith, z.0, z.1, k))
smaller p g (suc b) (suc m) s l a k =
    go (is_over s) (may_step p s) refl (λ e d. smaller p g b m (step_of p g s) l (still_allowed p g s l a e) d)
  where
    go : (x y : Bool) → may_step p s ≡ y
        → (may_step p s ≡ true → length p - at (step_of p g s) ≤ m → (run_of p g b (step_of p g s)).steps ≡ min b (run_of p g m (step_of p g s)).steps)
        → (go_on x y s (run_of p g b (step_of p g s))).steps ≡ min (suc b) (go_on x y s (run_of p g m (step_of p g s))).steps
    go true y f ih = sym (min-zero _)
    go false false f ih = sym (min-zero _)
    go false true f ih =
        let z = further_on p g s l a f in
        let i = ih f (omega (arith, z.0, z.1, k)) in
        rw (one-add, one-add, suc-min-suc) (ap suc i)

pub the_smaller : TheSmaller
the_smaller p g n s l a = smaller p g n (length p) s l a (omega arith)

pub runs_stay_allowed : RunsStayAllowed
unfolding run_of
runs_stay_allowed p g zero s l a = a
runs_stay_allowed p g (suc n) s l a = go (is_over s) (may_step p s) refl (λ e. runs_stay_allowed p g n (step_of p g s) l (still_allowed p g s l a e))
  where
    go : (x y : Bool) → may_step p s ≡ y → (may_step p s ≡ true → allowed (run_of p g n (step_of p g s)).state.head ≡ true)
        → allowed (go_on x y s (run_of p g n (step_of p g s))).state.head ≡ true
    go true y e ih = a
    go false false e ih = a
    go false true e ih = ih e
