-- One law for each way in which a function of this crate returns, over plain variables. Assumes nothing.
use Rattle.std.specs.Prelude.{Err, Ok, Option, Some, None}
use Rattle.std.specs.Bool.{then_some}
use Prim.Native.Nat.{ℕ, zero, suc, ◌+◌, ◌-◌, ◌<◌, ◌≤◌}
use mathlib.Core.Path.{◌≡◌, refl, sym, ap, ◌∙◌}
use mathlib.Core.Bool.{Bool, true, false}
use mathlib.Core.List.{List, ◌++◌}
use lib.Dec.{ltb, leb}
use lib.ListN.{length, take, replicate}
use native.Mathlib.Nat.{sub-zero, zero-add, add-zero, add_assoc}
use native.Mathlib.Numerals.{add-one}
use native.Mathlib.Omega.{arith}
use borrow.Author.Tests.{lt-ltb, le-ltb, leb-true}
use Rattle.record.specs.Choose.{if, both}
use Rattle.record.specs.Refusals.{no_room, bad_run}
use Rattle.record.specs.declared.Refusal.{Refusal}
use Rattle.record.proofs.Choose.{both_parts}
use Rattle.meaning.specs.Meaning.{Bags}
use Rattle.meaning.specs.Reading.{bags_of}
use Rattle.meaning.specs.declared.Verdict.{Verdict}
use Rattle.meaning.specs.declared.Verdict.TheVariants.{Permit, Deny, NotApplicable, Indeterminate}
use Rattle.judge.specs.Request.{judge_request_of, JudgedRequest}
use Rattle.layout.specs.declared.Head.{Head}
use Rattle.layout.specs.declared.State.{State}
use Rattle.layout.specs.Layout.{unpack_of, pack_of, allowed}
use Rattle.layout.specs.Ranges.{Ranged}
use Rattle.programme.specs.Step.{may_step, step_of, stepped_of, state_of, seen, after, is_over, count_by}
use Rattle.layout.proofs.Coding.{ranged, ranged_back}
use Rattle.run.specs.declared.kinds.Answer.{Answer}
use Rattle.run.specs.declared.kinds.Answer.TheVariants.{Running, Finished, Refused}
use Rattle.run.specs.declared.kinds.Tick.{Tick}
use Rattle.run.specs.Run.{go_on, run_of, number_after, Ran, Ended}
use Rattle.run.specs.Tick.{admitted, count_of, first_places, answered, ran_of, tick_of}
use Rattle.run.proofs.Runs.{runs_stay_allowed}
use Rattle.layout.specs.Room.{room_p}

-- a run, after k of its steps
abbrev pub later : ℕ → Ran → Ran
later k r = record { ok = r.ok; state = r.state; steps = k + r.steps }

-- k of at most b steps have led from s to t
abbrev pub Along : List ℕ → Bags → ℕ → State → ℕ → State → Type 0
Along p g b s k t = run_of p g b s ≡ later k (run_of p g (b - k) t)

pub run_start : (p : List ℕ) (g : Bags) (b : ℕ) (s : State) → Along p g b s 0 s
run_start p g b s = rw (sub-zero, zero-add) refl

pub run_out : (p : List ℕ) (g : Bags) (b k n x : ℕ) (s : State) (fs ls ps : List ℕ) → b ≤ k → Along p g b s k (state_of n fs ls ps) → x ≡ n
    → run_of p g b s ≡ record { ok = true; state = state_of x fs ls ps; steps = k }
unfolding run_of
run_out p g b k n x s fs ls ps e i f = let z : b - k ≡ 0 = omega arith in i ∙ rw (z, add-zero, f) refl

-- the first number, taken apart, after one more step
pub number_made : (k start x : ℕ) (h : Head) → 0 < k → x ≡ pack_of h → x ≡ number_after k start h
number_made zero start x h l e = absurd (omega arith)
number_made (suc k) start x h l e = e

number_on : (k start : ℕ) (h : Head) → number_after (k + 1) start h ≡ pack_of h
number_on k start h = rw (add-one k) refl

pub apart_on : (k start : ℕ) (h : Head) → Ranged h → h ≡ unpack_of (number_after (k + 1) start h)
apart_on k start h r = rw (number_on k start h) (sym (ranged_back h r))

-- the first number after k steps, from the one in the state, which is still the one that was lent
pub number_from : (k : ℕ) (h : Head) {x y start : ℕ} → x ≡ number_after k y h → y ≡ start → x ≡ number_after k start h
number_from k h e f = e ∙ ap (λ (n : ℕ). number_after k n h) f

-- k steps have led to w, and a step from w is a step from t
module _ (p : List ℕ) (g : Bags) (b k : ℕ) (s w t : State) (l : k < b) (i : Along p g b s k w) (o : Bool) (over : is_over w ≡ o)
    (same_may : may_step p w ≡ may_step p t) (same_step : step_of p g w ≡ step_of p g t) where
  unroll : run_of p g b s ≡ later k (go_on o (may_step p t) w (run_of p g (b - (k + 1)) (step_of p g t)))
  unfolding run_of
  unroll = let e : b - k ≡ suc (b - (k + 1)) = omega arith in i ∙ rw (e, over, same_may, same_step) refl

  over_here : o ≡ true → run_of p g b s ≡ record { ok = true; state = w; steps = k }
  over_here e = unroll ∙ rw (e, add-zero) refl

  module _ (e : o ≡ false) (m : Bool) (u : State) (may : m ≡ may_step p t) (went : u ≡ (stepped_of p g t).state) where
    bad_here : m ≡ false → (run_of p g b s ≡ record { ok = false; state = w; steps = k }) × (u ≡ t)
    unfolding stepped_of
    bad_here f = (unroll ∙ rw (e, ← may, f, add-zero) refl, went ∙ rw (← may, f) refl)

    on_from_here : m ≡ true → Along p g b s (k + 1) u
    unfolding stepped_of
    on_from_here f = unroll ∙ rw (went, e, ← may, f, add_assoc) refl

-- a step from a first number n is the step from its fields h put together, whatever number n was
module _ (p : List ℕ) (g : Bags) (n : ℕ) (fs ls ps : List ℕ) (h : Head) (r : Ranged h) (u : h ≡ unpack_of n) where
  abbrev given : State
  given = state_of n fs ls ps

  abbrev made : State
  made = state_of (pack_of h) fs ls ps

  same : unpack_of n ≡ unpack_of (pack_of h)
  same = sym u ∙ sym (ranged_back h r)

  same_may : may_step p given ≡ may_step p made
  unfolding may_step
  same_may = rw same refl

  same_step : step_of p g given ≡ step_of p g made
  unfolding step_of seen after
  same_step = rw same refl

  same_over : is_over given ≡ h.over
  unfolding is_over
  same_over = ap (λ (x : Head). x.over) (sym u)

  module _ (b k : ℕ) (s : State) (l : k < b) (i : Along p g b s k given) where
    pub run_over : h.over ≡ true → (x : ℕ) → x ≡ n → run_of p g b s ≡ record { ok = true; state = state_of x fs ls ps; steps = k }
    run_over e x f = rw f (over_here p g b k s given made l i h.over same_over same_may same_step e)

    module _ (e : h.over ≡ false) (m : Bool) (t : Head) (gs ms qs : List ℕ) (may : m ≡ may_step p made)
        (went : state_of (pack_of t) gs ms qs ≡ (stepped_of p g made).state) where
      pub run_bad : m ≡ false → (x : ℕ) → x ≡ n → run_of p g b s ≡ record { ok = false; state = state_of x gs ms qs; steps = k }
      run_bad f x q =
          let w = bad_here p g b k s given made l i h.over same_over same_may same_step e m (state_of (pack_of t) gs ms qs) may went f in
          w.0 ∙ rw (q, ap (λ (z : State). z.frames) w.1, ap (λ (z : State). z.levels) w.1, ap (λ (z : State). z.places) w.1) refl

      pub run_more : (start : ℕ) → m ≡ true → Along p g b s (k + 1) (state_of (number_after (k + 1) start t) gs ms qs)
      run_more start f =
          rw (number_on k start t)
          (on_from_here p g b k s given made l i h.over same_over same_may same_step e m (state_of (pack_of t) gs ms qs) may went f)

-- the programme and the first number that a tick admits
pub stacks_small : (head : ℕ) (h : Head) → h ≡ unpack_of head → h.cut + h.denies < 2048
unfolding unpack_of
stacks_small head h u = rw u (omega arith)

pub admit_parts : (n head : ℕ) (k : Bool) → k ≡ admitted n head → k ≡ true → (n ≤ 8008) × (allowed head ≡ true)
unfolding admitted
admit_parts n head k a e =
    let r = both_parts (ltb 0 n) (both (leb n 8008) (allowed head)) (sym a ∙ e) in
    let w = both_parts (leb n 8008) (allowed head) r.1 in
    (leb-true _ _ w.0, w.1)

-- what the first number says
abbrev pub told : Bool → Head → Answer
told b h = if b (Finished h.found.reg (count_by h.found.reg h)) Running

module _ (h : Head) where
  pub answer_running : h.over ≡ false → Running ≡ told h.over h
  answer_running e = sym (ap (λ (b : Bool). told b h) e)

  pub answer_finished : (n : ℕ) → n ≡ count_by h.found.reg h → h.over ≡ true → Finished h.found.reg n ≡ told h.over h
  answer_finished n c e = rw c (sym (ap (λ (b : Bool). told b h) e))

-- a run of a lent state, from what is known of it to the contract, and back
pub run_ended : (r : Ran) (o : Bool) {u : State} {k : ℕ} → r ≡ record { ok = o; state = u; steps = k } → Ended r (then_some o k) u
run_ended r o e = rw e (refl, refl)

none_ended : (b : Bool) (k : ℕ) → None ≡ then_some b k → b ≡ false
none_ended true k e = let z : ◌≡◌ {A = ℕ} 0 1 = cc in absurd (omega arith)
none_ended false k e = refl

some_ended : (b : Bool) (n k : ℕ) → Some k ≡ then_some b n → (b ≡ true) × (k ≡ n)
some_ended true n k e = (refl, cc)
some_ended false n k e = let z : ◌≡◌ {A = ℕ} 0 1 = cc in absurd (omega arith)

module _ (r : Ran) {x : Option ℕ} {u : State} (w : Ended r x u) where
  pub ran_bad : x ≡ None → r.ok ≡ false
  ran_bad e = none_ended r.ok r.steps (sym e ∙ w.0)

  pub ran_well : {k : ℕ} → x ≡ Some k → (r.ok ≡ true) × (k ≡ r.steps)
  ran_well {k} e = some_ended r.ok r.steps k (sym e ∙ w.0)

-- a tick
abbrev pub refusal : Refusal → State → Tick
refusal why s = record { state = s; steps = 0; answer = Refused why }

module _ (p q : List ℕ) (s : State) (b : ℕ) (out : List ℕ) where
  abbrev pub TickIs : Tick → List ℕ → Type 0
  TickIs t o = (t ≡ (tick_of p q s b out).tick) × (o ≡ (tick_of p q s b out).out)

  module _ (j : JudgedRequest) (a : j ≡ judge_request_of q) where
    pub tick_request : (why : Refusal) (t : Tick) → j ≡ Err why → t ≡ refusal why s → TickIs t out
    unfolding tick_of
    tick_request why t e f = (rw (f, ← a, e) refl, rw (← a, e) refl)

    module _ (n : ℕ) (e : j ≡ Ok n) where
      pub tick_short : (t : Tick) → length out < room_p → t ≡ refusal no_room s → TickIs t out
      unfolding tick_of
      tick_short t l f = (rw (f, ← a, e, lt-ltb _ _ l) refl, rw (← a, e, lt-ltb _ _ l) refl)

      module _ (long : room_p ≤ length out) (k : Bool) (m : k ≡ admitted (length p) s.head) where
        pub tick_refused : (t : Tick) → k ≡ false → t ≡ refusal bad_run s → TickIs t out
        unfolding tick_of
        tick_refused t z f = (rw (f, ← a, e, le-ltb _ _ long, ← m, z) refl, rw (← a, e, le-ltb _ _ long, ← m, z) refl)

        pub tick_ran : (r : Ran) → k ≡ true → r ≡ run_of p (bags_of q) b s → tick_of p q s b out ≡ ran_of r.ok r s out
        unfolding tick_of
        tick_ran r z ran = rw (← a, e, le-ltb _ _ long, ← m, z, ran) refl

  module _ (r : Ran) (ran : tick_of p q s b out ≡ ran_of r.ok r s out) where
    pub tick_bad : (t : Tick) → r.ok ≡ false → t ≡ refusal bad_run s → TickIs t out
    unfolding ran_of
    tick_bad t z f = (rw (f, ran, z) refl, rw (ran, z) refl)

    module _ (ok : r.ok ≡ true) {k : ℕ} {end : State} (taken : k ≡ r.steps) (led : end ≡ r.state) (h : Head) (u : h ≡ unpack_of end.head)
        (y : Answer) (d : y ≡ told h.over h) (o : List ℕ) where
      ended : (z : Bool) → h.over ≡ z → tick_of p q s b out ≡ answered z end k out
      unfolding ran_of is_over
      ended z over = ran ∙ rw (ok, ← led, ← taken) (ap (λ (v : Bool). answered v end k out) (rw u at over))

      pub tick_running : h.over ≡ false → o ≡ out → TickIs (record { state = end; steps = k; answer = y }) o
      unfolding answered
      tick_running z f = (rw (d ∙ sym (answer_running h z), ended false z) refl, rw (f, ended false z) refl)

      pub tick_finished : (x : ℕ) → x ≡ count_by h.found.reg h → h.over ≡ true → o ≡ take x end.places ++ replicate (length out - x) 0
          → TickIs (record { state = end; steps = k; answer = y }) o
      unfolding answered count_of first_places
      tick_finished x c z f = (rw (d ∙ sym (answer_finished h x c z), ended true z, c, u) refl, rw (f, ended true z, c, u) refl)

-- a run's end is a state that the layout allows, so its obligations are at most 1,000
pub count_small : (p : List ℕ) (g : Bags) (b : ℕ) (s : State) (k : Bool) (r : Ran) (h : Head) (x : ℕ) → k ≡ admitted (length p) s.head → k ≡ true
    → r ≡ run_of p g b s → h ≡ unpack_of r.state.head → x ≡ count_by h.found.reg h → x ≤ room_p
count_small p g b s k r h x m z ran u c =
    let w = admit_parts (length p) s.head k m z in
    let d : allowed r.state.head ≡ true = rw ran (runs_stay_allowed p g b s w.0 w.1) in
    rw c (go h.found.reg (rw u (ranged r.state.head d)))
  where
    go : (y : Verdict) → Ranged h → count_by y h ≤ room_p
    go Permit l = l.permits
    go Deny l = let i = l.stacks in omega arith
    go NotApplicable l = omega arith
    go (Indeterminate s) l = omega arith
