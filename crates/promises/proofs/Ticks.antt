-- The claims of specs/Ticks.antt. Assumes nothing.
use Rattle.std.specs.Prelude.{Err, Ok}
use Prim.Native.Nat.{ℕ}
use mathlib.Core.Path.{◌≡◌, refl, sym, ap, ◌∙◌}
use mathlib.Core.Bool.{Bool, true, false}
use mathlib.Core.List.{List}
use lib.Dec.{ltb, leb}
use lib.ListN.{length}
use native.Mathlib.Omega.{arith}
use borrow.Author.Tests.{le-ltb, ltb-false}
use Rattle.record.specs.Choose.{if, both}
use Rattle.record.specs.Refusals.{no_room, bad_run}
use Rattle.record.proofs.Choose.{both_parts}
use Rattle.meaning.specs.Reading.{bags_of}
use Rattle.meaning.specs.declared.Verdict.{Verdict}
use Rattle.judge.specs.Request.{judge_request_of, JudgedRequest}
use Rattle.layout.specs.declared.State.{State}
use Rattle.layout.specs.Layout.{unpack_of, allowed}
use Rattle.programme.specs.Step.{is_over}
use Rattle.run.specs.Run.{run_of, Ran}
use Rattle.run.specs.Runs.{steps_left}
use Rattle.run.specs.Tick.{Ticked, admitted, refused, count_of, first_places, answered, ran_of, judged_tick, tick_of}
use Rattle.run.specs.declared.kinds.Answer.{Answer}
use Rattle.run.specs.declared.kinds.Answer.TheVariants.{Running, Finished, Refused}
use Rattle.run.proofs.Laws.{admit_parts}
use Rattle.run.proofs.Runs.{finished_stays, runs_stay_allowed}
use Rattle.promises.specs.Place.{head_of, Sized}
use Rattle.promises.specs.Steps.{Left, run_with}
use Rattle.promises.specs.Ticks.{Sound, tick_with, TicksAre, NotRefused, TakesTheSmaller, answer_by, out_by, FirstNumberSays, RefusedStays, AnswersAgain, TicksStaySized}
use Rattle.promises.proofs.Sight.{runs_stay_sized}
use Rattle.promises.proofs.Steps.{steps_left_lem, runs_are}
use Rattle.layout.specs.Room.{room_p}

-- a tick that nothing refuses at the start is its run
module _ (p q : List ℕ) (s : State) (b : ℕ) (out : List ℕ) where
  abbrev run : Ran
  run = run_of p (bags_of q) b s

  pub tick_run : Sound p q s out → tick_of p q s b out ≡ ran_of run.ok run s out
  unfolding tick_of
  tick_run w = rw (w.request, le-ltb _ _ w.room, w.layout) refl

  left : admitted (length p) s.head ≡ true → Left p (bags_of q) s (steps_left p (bags_of q) s)
  left a = let w = admit_parts (length p) s.head true (sym a) refl in steps_left_lem p (bags_of q) s w.0 w.1

  with_is : (ok : Bool) (r : Ran) → ran_of ok r s out ≡ if ok (answered (is_over r.state) r.state r.steps out) (refused bad_run s out)
  unfolding ran_of
  with_is true r = refl
  with_is false r = refl

  pub tick_with_lem : (k : ℕ) → Left p (bags_of q) s k → Sound p q s out → tick_of p q s b out ≡ tick_with p q s b out k
  tick_with_lem k l w = tick_run w ∙ ap (λ (r : Ran). ran_of r.ok r s out) (runs_are p (bags_of q) b s k l) ∙ with_is _ _

  -- what is not refused was run
  abbrev Unless : Ticked → Type 0
  Unless t = NotRefused t.tick.answer → Sound p q s out × (run.ok ≡ true)

  pub was_run : Unless (tick_of p q s b out)
  unfolding tick_of ran_of
  was_run = asked (judge_request_of q) refl
    where
      ran : Sound p q s out → (ok : Bool) → run.ok ≡ ok → Unless (ran_of ok run s out)
      ran w true e n = (w, e)
      ran w false e n = absurd n

      fit : (m : ℕ) → judge_request_of q ≡ Ok m → (short fits : Bool) → ltb (length out) room_p ≡ short → admitted (length p) s.head ≡ fits
          → Unless (if short (refused no_room s out) (if fits (ran_of run.ok run s out) (refused bad_run s out)))
      fit m j true fits e f n = absurd n
      fit m j false true e f n = ran (record { entries = m; request = j; room = ltb-false _ _ e; layout = f }) run.ok refl n
      fit m j false false e f n = absurd n

      asked : (j : JudgedRequest) → judge_request_of q ≡ j → Unless (judged_tick p (bags_of q) j s b out)
      asked (Err r) e n = absurd n
      asked (Ok m) e n = fit m e (ltb (length out) room_p) (admitted (length p) s.head) refl refl n

abbrev steps_of : Ticked → ℕ
steps_of t = t.tick.steps

abbrev state_of_lem : Ticked → State
state_of_lem t = t.tick.state

module _ (s : State) (n : ℕ) (out : List ℕ) where
  answered_steps : (over : Bool) → (answered over s n out).tick.steps ≡ n
  unfolding answered
  answered_steps true = refl
  answered_steps false = refl

  answered_state : (over : Bool) → (answered over s n out).tick.state ≡ s
  unfolding answered
  answered_state true = refl
  answered_state false = refl

-- a tick that was run, as its run
module _ (p q : List ℕ) (s : State) (b : ℕ) (out : List ℕ) (n : NotRefused (tick_of p q s b out).tick.answer) where
  abbrev ended : Ran
  ended = run_of p (bags_of q) b s

  pub run_answers : tick_of p q s b out ≡ answered (is_over ended.state) ended.state ended.steps out
  unfolding ran_of
  run_answers = let w = was_run p q s b out n in tick_run p q s b out w.0 ∙ rw w.1 refl

  run_with_lem : ended ≡ run_with p (bags_of q) b s (steps_left p (bags_of q) s)
  run_with_lem = runs_are p (bags_of q) b s (steps_left p (bags_of q) s) (left p q s b out (was_run p q s b out n).0.layout)

pub ticks_are : TicksAre
ticks_are p q s b out w = tick_with_lem p q s b out (steps_left p (bags_of q) s) (left p q s b out w.layout) w

pub takes_the_smaller : TakesTheSmaller
takes_the_smaller p q s b out n =
    let r : Ran = run_of p (bags_of q) b s in
    let e = run_answers p q s b out n in
    let f = run_with_lem p q s b out n in (
      ap steps_of e ∙ answered_steps r.state r.steps out (is_over r.state) ∙ ap (λ (x : Ran). x.steps) f,
      ap state_of_lem e ∙ answered_state r.state r.steps out (is_over r.state) ∙ ap (λ (x : Ran). x.state) f,
    )

-- what is told and put out, by the first number
first_says : (s : State) (n : ℕ) (out : List ℕ) (over : Bool) → is_over s ≡ over
    → ((answered over s n out).tick.answer ≡ answer_by (head_of s)) × ((answered over s n out).out ≡ out_by (head_of s) s.places out)
unfolding answered is_over count_of first_places
first_says s n out true e = (rw e refl, rw e refl)
first_says s n out false e = (rw e refl, rw e refl)

pub first_number_says : FirstNumberSays
first_number_says p q s b out n =
    let r : Ran = run_of p (bags_of q) b s in
    let e = run_answers p q s b out n in
    let f : (tick_of p q s b out).tick.state ≡ r.state = ap state_of_lem e ∙ answered_state r.state r.steps out (is_over r.state) in
    let w = first_says r.state r.steps out (is_over r.state) refl in
    (rw f (ap (λ (t : Ticked). t.tick.answer) e ∙ w.0), rw f (ap (λ (t : Ticked). t.out) e ∙ w.1))

-- refused
module _ (p q : List ℕ) (s : State) (b : ℕ) (out : List ℕ) where
  abbrev Stays : Ticked → Type 0
  Stays t = (NotRefused t.tick.answer → ⊥) → (t.tick.steps ≡ 0) × (t.tick.state ≡ s) × (t.out ≡ out)

  abbrev its : Ran
  its = run_of p (bags_of q) b s

  refused_stays_so : Stays (tick_of p q s b out)
  unfolding tick_of ran_of answered
  refused_stays_so = asked (judge_request_of q)
    where
      said : (over : Bool) → Stays (answered over its.state its.steps out)
      said true n = absurd (n tt)
      said false n = absurd (n tt)

      ran : (ok : Bool) → Stays (ran_of ok its s out)
      ran true n = said (is_over its.state) n
      ran false n = (refl, refl, refl)

      fit : (short fits : Bool) → Stays (if short (refused no_room s out) (if fits (ran_of its.ok its s out) (refused bad_run s out)))
      fit true fits n = (refl, refl, refl)
      fit false true n = ran its.ok n
      fit false false n = (refl, refl, refl)

      asked : (j : JudgedRequest) → Stays (judged_tick p (bags_of q) j s b out)
      asked (Err r) n = (refl, refl, refl)
      asked (Ok m) n = fit (ltb (length out) room_p) (admitted (length p) s.head) n

pub refused_stays : RefusedStays
refused_stays p q s b out n = refused_stays_so p q s b out n

-- the same programme, with another state that the layout allows
readmit : (long x y : ℕ) → admitted long x ≡ true → allowed y ≡ true → admitted long y ≡ true
unfolding admitted
readmit long x y a w =
    let u = both_parts (ltb 0 long) (both (leb long 8008) (allowed x)) a in
    let v = both_parts (leb long 8008) (allowed x) u.1 in
    rw (u.0, v.0, w) refl

-- a state that is over
pub over_answers : (p q : List ℕ) (s : State) (b : ℕ) (out : List ℕ) → Sound p q s out → is_over s ≡ true → tick_of p q s b out ≡ answered true s 0 out
unfolding ran_of
over_answers p q s b out w e = tick_run p q s b out w ∙ rw (finished_stays p (bags_of q) b s e, e) refl

-- where an answer is finished, the state is over and says so
module _ (s : State) (n : ℕ) (out : List ℕ) (v : Verdict) (count : ℕ) where
  finished_over : (over : Bool) → (answered over s n out).tick.answer ≡ Finished v count → over ≡ true
  unfolding answered
  finished_over true e = refl
  finished_over false e = let z : ◌≡◌ {A = ℕ} 0 1 = cc in absurd (omega arith)

  finished_says : (answered true s n out).tick.answer ≡ Finished v count
      → ((unpack_of s.head).found.reg ≡ v) × (count_of s ≡ count)
  unfolding answered
  finished_says e = (ap verdict e, ap number e)
    where
      verdict : Answer → Verdict
      verdict Running = v
      verdict (Finished x c) = x
      verdict (Refused r) = v

      number : Answer → ℕ
      number Running = 0
      number (Finished x c) = c
      number (Refused r) = 0

pub answers_again : AnswersAgain
unfolding answered
answers_again p q s b out v count e =
    let n : NotRefused (tick_of p q s b out).tick.answer = rw e tt in
    let r : Ran = run_of p (bags_of q) b s in
    let a = run_answers p q s b out n in
    let f : (answered (is_over r.state) r.state r.steps out).tick.answer ≡ Finished v count = sym (ap (λ (t : Ticked). t.tick.answer) a) ∙ e in
    let o : is_over r.state ≡ true = finished_over r.state r.steps out v count (is_over r.state) f in
    let c = finished_says r.state r.steps out v count (rw o at f) in
    let st : (tick_of p q s b out).tick.state ≡ r.state = ap state_of_lem a ∙ answered_state r.state r.steps out (is_over r.state) in
    let w = (was_run p q s b out n).0 in
    let k = admit_parts (length p) s.head true (sym w.layout) refl in
    let still = runs_stay_allowed p (bags_of q) b s k.0 k.1 in (
      rw st (ap (λ (t : Ticked). t.out) a ∙ rw (o, c.1) refl),
      λ q' m more lent j room.
          rw st (over_answers p q' r.state more lent
          (record { entries = m; request = j; room = room; layout = readmit (length p) s.head r.state.head w.layout still }) o
          ∙ rw (c.0, c.1) refl),
    )

pub ticks_stay_sized : TicksStaySized
unfolding tick_of ran_of answered
ticks_stay_sized p q s b out w = asked (judge_request_of q)
  where
    r : Ran
    r = run_of p (bags_of q) b s

    sized : Sized r.state
    sized = runs_stay_sized p (bags_of q) b s w

    said : (over : Bool) → Sized (answered over r.state r.steps out).tick.state
    said true = sized
    said false = sized

    ran : (ok : Bool) → Sized (ran_of ok r s out).tick.state
    ran true = said (is_over r.state)
    ran false = w

    fit : (short fits : Bool) → Sized (if short (refused no_room s out) (if fits (ran_of r.ok r s out) (refused bad_run s out))).tick.state
    fit true fits = w
    fit false true = ran r.ok
    fit false false = w

    asked : (j : JudgedRequest) → Sized (judged_tick p (bags_of q) j s b out).tick.state
    asked (Err x) = w
    asked (Ok m) = fit (ltb (length out) room_p) (admitted (length p) s.head)
