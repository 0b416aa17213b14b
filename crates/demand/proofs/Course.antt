-- The run of a translated book: it ends within the programme's length, never meets 8, gives no decision before its end, and then gives the decision and the
-- obligations of the tree. Assumes nothing.
use Prim.Native.Nat.{ℕ, zero, suc, ◌≤◌, ◌<◌}
use mathlib.Core.Path.{◌≡◌, refl, sym, ap, ◌∙◌}
use mathlib.Core.Bool.{true, false}
use mathlib.Core.Logic.{inl}
use mathlib.Core.List.{List}
use lib.Dec.{ltb}
use lib.ListN.{length, get_or, take}
use lib.Seq.{length-take-le}
use native.Mathlib.Omega.{arith}
use borrow.Author.Tests.{lt-ltb}
use Rattle.record.specs.Choose.{if}
use Rattle.meaning.specs.Meaning.{Bags}
use Rattle.meaning.specs.declared.Verdict.{Verdict}
use Rattle.meaning.specs.declared.Verdict.TheVariants.{Permit, Deny, NotApplicable, Indeterminate}
use Rattle.layout.specs.declared.State.{State}
use Rattle.layout.specs.Entry.{Entry, further, is_further, lawful}
use Rattle.layout.specs.Layout.{found_code, unpack_of, pack_of, allowed, fetch}
use Rattle.programme.specs.Step.{may_step, step_of, is_over, count_by, fresh_of}
use Rattle.programme.proofs.Forward.{still_allowed}
use Rattle.run.specs.Tick.{count_of, first_places}
use Rattle.promises.specs.Steps.{after_steps, Goes}
use Rattle.code.specs.Flat.{Flat, flat_after, sees, flat_step, flat_run, flat_of, Codes}
use Rattle.code.proofs.Packed.{packed_step}
use Rattle.code.proofs.Arrays.{Going}
use Rattle.code.proofs.Whole.{Answers}
use Rattle.demand.specs.Course.{Answered, Course}
use Rattle.layout.specs.Room.{room_p}

pub fresh_allowed : allowed fresh_of.head ≡ true
unfolding allowed fresh_of pack_of found_code unpack_of
fresh_allowed = refl

-- any programme whose numbers spell its entries
module _ (p : List ℕ) (es : List Entry) (g : Bags) (same : length p ≡ length es) (long : length p ≤ 8008) (reads : Codes (fetch p) es)
    (laws : (i : ℕ) → i < length es → is_further (get_or es i further) ≡ false → lawful (length p) i (fetch p i) ≡ true) where
  goes : (s : State) → Going es (flat_of s) → Goes p s
  unfolding may_step is_over flat_of
  goes s w = record { running = w.running; may = laws (unpack_of s.head).at w.inside w.starts }

  flat_step_lem : (s : State) → allowed s.head ≡ true → Going es (flat_of s) → flat_of (step_of p g s) ≡ flat_step g (fetch p) (length es) (flat_of s)
  unfolding flat_step flat_of
  flat_step_lem s a w = packed_step p g s long a (goes s w).may ∙ go (flat_of s) w
    where
      go : (b : Flat) → Going es b → flat_after (fetch p b.head.at) (sees g (fetch p b.head.at) b) b
          ≡ if b.head.over b (if (ltb b.head.at (length es)) (flat_after (fetch p b.head.at) (sees g (fetch p b.head.at) b) b) b)
      go b w = rw (w.running, lt-ltb b.head.at (length es) w.inside) refl

  -- n steps that are on the way can be taken, and lead where the flat machine's lead
  walked : (n : ℕ) (s : State) → allowed s.head ≡ true → ((k : ℕ) → k < n → Going es (flat_run g (fetch p) (length es) k (flat_of s)))
      → ((i : ℕ) → i < n → Goes p (after_steps p g i s)) × (flat_of (after_steps p g n s) ≡ flat_run g (fetch p) (length es) n (flat_of s))
  unfolding after_steps flat_run
  walked zero s a w = (λ i l. absurd (omega (arith, l)), refl)
  walked (suc n) s a w =
      let here : Going es (flat_of s) = w 0 (omega arith) in
      let f = flat_step_lem s a here in
      let ih = walked n (step_of p g s) (still_allowed p g s long a (goes s here).may) (λ k l. rw f (w (suc k) (omega (arith, l)))) in
      (each (goes s here) ih.0, ih.1 ∙ ap (flat_run g (fetch p) (length es) n) f)
    where
      each : Goes p s → ((i : ℕ) → i < n → Goes p (after_steps p g i (step_of p g s))) → (i : ℕ) → i < suc n → Goes p (after_steps p g i s)
      each h ih zero l = h
      each h ih (suc i) l = ih i (omega (arith, l))

  -- from the fresh state, where the flat machine's run answers
  module _ (d : Verdict) (os : List ℕ) (w : Answers g (fetch p) es (flat_of fresh_of) d os) where
    reached : (n : ℕ) → n ≤ w.steps → flat_of (after_steps p g n fresh_of) ≡ flat_run g (fetch p) (length es) n (flat_of fresh_of)
    reached n l = (walked n fresh_of fresh_allowed (λ k h. w.along k (omega (arith, h, l)))).1

    at_end : flat_of (after_steps p g w.steps fresh_of) ≡ w.ends
    at_end = reached w.steps (omega arith) ∙ w.runs

    few_counted : (r : Verdict) → count_by r w.ends.head ≤ room_p
    few_counted Permit = w.small.permitted
    few_counted Deny = omega (arith, w.small.denied)
    few_counted NotApplicable = omega arith
    few_counted (Indeterminate s) = omega arith

    answered : (s : State) → flat_of s ≡ w.ends → Answered s d os
    unfolding is_over first_places count_of flat_of
    answered s e =
        let c : ℕ = count_by w.ends.head.found.reg w.ends.head in
        let m : c ≤ room_p = few_counted w.ends.head.found.reg in
        let l : length (take c w.ends.places) ≡ c = length-take-le c w.ends.places (omega (arith, m, w.small.places_long)) in
        record {
          over = ap (λ (b : Flat). b.head.over) e ∙ w.over;
          decision = ap (λ (b : Flat). b.head.found.reg) e ∙ w.decision;
          obligations = ap (λ (b : Flat). take (count_by b.head.found.reg b.head) b.places) e ∙ w.duties;
          count = ap (λ (b : Flat). count_by b.head.found.reg b.head) e ∙ sym l ∙ ap length w.duties;
        }

    pub course : Course p g d os
    course =
        let end = answered (after_steps p g w.steps fresh_of) at_end in
        record {
          steps = w.steps;
          begun = w.begun;
          few = omega (arith, w.few, same);
          left = record { goes = (walked w.steps fresh_of fresh_allowed w.along).0; ends = inl end.over };
          answer = end;
        }

    -- each step of it starts an operation
    pub on_the_way : (i : ℕ) → i < course.steps → Going es (flat_of (after_steps p g i fresh_of))
    unfolding course
    on_the_way i l = rw (reached i (omega (arith, l))) (w.along i l)
