-- A step as it is carried out is the step of the definition. Assumes nothing.
use Prim.Native.Nat.{ℕ, ◌-◌, ◌≤◌}
use mathlib.Core.Path.{◌≡◌, refl, sym, ◌∙◌}
use mathlib.Core.Bool.{Bool, true, false}
use mathlib.Core.List.{List}
use native.Mathlib.Omega.{arith}
use lib.ListN.{length, get_or}
use Rattle.meaning.specs.Meaning.{Bags}
use Rattle.layout.specs.declared.Head.{Head}
use Rattle.layout.specs.declared.State.{State}
use Rattle.moves.specs.declared.Move.{Move}
use Rattle.programme.specs.declared.Met.{Met}
use Rattle.std.specs.Prelude.{Option, Some, None}
use Rattle.layout.specs.Entry.{Entry, extra}
use Rattle.moves.specs.Core.{Changing, keep, push, swap, below, back, Out}
use Rattle.stacks.specs.Machine.{height_after, stack_after, places_after}
use Rattle.layout.specs.Layout.{frame_of, frame_word, unpack_of, pack_of, allowed, fetch}
use Rattle.stacks.specs.Carry.{changing_of, in_words, Placed, head_with}
use Rattle.programme.specs.Step.{head_after, after, seen, may_step, step_of, stepped_of, state_of}
use Rattle.layout.specs.Ranges.{Ranged}
use Rattle.moves.specs.Moves.{move_of}
use Rattle.programme.specs.Meets.{met_if, meets}
use Rattle.layout.proofs.Coding.{ranged}
use Rattle.programme.proofs.Forward.{placed_core, lawful_parts, step_forward}

-- a change in numbers leads as high
height_same : {A : Type 0} (f : A → ℕ) (room k : ℕ) (z : Changing A) → height_after room (in_words f z) k ≡ height_after room z k
height_same f room k keep = refl
height_same f room k (push x) = refl
height_same f room k (swap x) = refl
height_same f room k (below x) = refl
height_same f room k (back x) = refl

-- and of numbers it is the same change
numbers_same : (z : Changing ℕ) → in_words (λ (n : ℕ). n) z ≡ z
numbers_same keep = refl
numbers_same (push x) = refl
numbers_same (swap x) = refl
numbers_same (below x) = refl
numbers_same (back x) = refl

with_is : (h : Head) (e : Entry) (x : Out) → head_with h (extra e) (move_of x) ≡ head_after h e x
unfolding head_with head_after
with_is h e x = rw (height_same frame_word 17 h.depth x.frames, numbers_same x.levels)

-- what was met tells whether it was lawful
found_does : (ok : Bool) (v : Move) (k : ℕ) (x : Met) → Some x ≡ met_if ok v k → (ok ≡ true) × (x ≡ record { does = v; further = k })
found_does true v k x e = (refl, cc)
found_does false v k x e = let z : ◌≡◌ {A = ℕ} 0 1 = cc in absurd (omega arith)

found_none : (ok : Bool) (v : Move) (k : ℕ) → None ≡ met_if ok v k → ok ≡ false
found_none true v k e = let z : ◌≡◌ {A = ℕ} 0 1 = cc in absurd (omega arith)
found_none false v k e = refl

-- the first number, the entry and the outcome of the step from a state
module _ (p : List ℕ) (g : Bags) (s : State) where
  abbrev heads : Head
  heads = unpack_of s.head

  abbrev entry : Entry
  entry = fetch p heads.at

  abbrev outcome : Out
  outcome = seen g s heads entry

  module _ (h : Head) (i j : ℕ) (r : Option Met) (u : h ≡ unpack_of s.head) (d : i ≡ h.depth - 1) (n : j ≡ h.nest - 1)
      (q : r ≡ meets g (length p) h (fetch p h.at) (get_or s.levels h.nest 0) (get_or s.levels j 0)
      (frame_of (get_or s.frames h.depth 0)) (frame_of (get_or s.frames i 0))) where
    met_is : r ≡ met_if (may_step p s) (move_of outcome) (extra entry)
    unfolding meets may_step seen
    met_is = rw (d, n, u) at q

    pub step_outside : r ≡ None → (false ≡ may_step p s) × (s ≡ (stepped_of p g s).state)
    unfolding stepped_of
    step_outside e =
        let k : may_step p s ≡ false = found_none (may_step p s) (move_of outcome) (extra entry) (sym e ∙ met_is) in
        rw k (refl, refl)

    module _ (a : allowed s.head ≡ true) (l : length p ≤ 8008) (x : Met) (e : r ≡ Some x) where
      found : (may_step p s ≡ true) × (x ≡ record { does = move_of outcome; further = extra entry })
      found = found_does (may_step p s) (move_of outcome) (extra entry) x (sym e ∙ met_is)

      after_ranged : Ranged (head_after heads entry outcome)
      after_ranged = (step_forward p g s l a found.0).2

      placed : Placed outcome.placing heads.permits heads.denies
      unfolding seen may_step
      placed = placed_core entry g heads _ _ _ _ (lawful_parts (length p) heads.at entry found.0).0

      pub step_needs : Ranged h × Ranged (head_with h x.further x.does) × Placed x.does.placing h.permits h.denies
      step_needs = rw (u, found.1, with_is heads entry outcome) (ranged s.head a, after_ranged, placed)

      pub step_taken : (head : Head) (frames levels places : List ℕ) → head ≡ head_with h x.further x.does
          → frames ≡ stack_after 17 (changing_of x.does.frames) h.depth s.frames
          → levels ≡ stack_after 15 (changing_of x.does.levels) h.nest s.levels
          → places ≡ places_after x.does.placing h.cut h.permits h.denies s.places
          → (true ≡ may_step p s) × (state_of (pack_of head) frames levels places ≡ (stepped_of p g s).state) × Ranged head
      unfolding stepped_of step_of after
      step_taken head frames levels places eh ef el ep =
          rw (
            found.0,
            eh,
            ef,
            el,
            ep,
            found.1,
            u,
            with_is heads entry outcome,
            numbers_same outcome.levels,
          )
          (refl, refl, after_ranged)
