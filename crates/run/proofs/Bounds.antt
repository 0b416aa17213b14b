-- How large the numbers of a tick are. Assumes nothing.
use Rattle.std.specs.Prelude.{Err, Ok}
use Prim.Native.Nat.{ℕ, ◌≤◌}
use mathlib.Core.Path.{◌≡◌, refl, sym}
use mathlib.Core.Bool.{Bool, true, false}
use mathlib.Core.List.{List}
use lib.Dec.{ltb}
use lib.ListN.{length}
use native.Mathlib.Omega.{arith}
use Rattle.record.specs.Choose.{if}
use Rattle.record.specs.Refusals.{line_of, no_room, bad_run}
use Rattle.meaning.specs.Meaning.{Bags}
use Rattle.meaning.specs.Reading.{bags_of}
use Rattle.judge.specs.Request.{judge_request_of, JudgedRequest}
use Rattle.judge.proofs.Bounds.{refused_request_small}
use Rattle.layout.specs.declared.State.{State}
use Rattle.layout.specs.Layout.{unpack_of, allowed}
use Rattle.programme.specs.Step.{is_over}
use Rattle.run.specs.Run.{run_of}
use Rattle.run.specs.Tick.{Ticked, admitted, refused, count_of, answered, ran_of, judged_tick, tick_of}
use Rattle.run.specs.declared.kinds.Answer.{Answer}
use Rattle.run.specs.declared.kinds.Answer.TheVariants.{Running, Finished, Refused}
use Rattle.run.specs.declared.kinds.Tick.{Tick}
use Rattle.run.proofs.Laws.{admit_parts, count_small}
use Rattle.run.proofs.Runs.{no_more_than_entries}
use Rattle.layout.specs.Room.{room_p}
use Rattle.record.specs.Bytes.{most_records}

-- an answer to a tick from s: only a state that the layout allows is run
abbrev pub Small : State → Answer → Type 0
Small s Running = allowed s.head ≡ true
Small s (Finished v count) = (allowed s.head ≡ true) × (count ≤ room_p)
Small s (Refused r) = line_of r ≤ most_records

module _ (p : List ℕ) (g : Bags) (s : State) (b : ℕ) (out : List ℕ) where
  abbrev SmallTick : Ticked → Type 0
  SmallTick t = (t.tick.steps ≤ 8008) × Small s t.tick.answer

  module _ (a : admitted (length p) s.head ≡ true) where
    ended : (over : Bool) → SmallTick (answered over (run_of p g b s).state (run_of p g b s).steps out)
    unfolding answered count_of
    ended false =
        let w = admit_parts (length p) s.head true (sym a) refl in
        (omega (arith, w.0, no_more_than_entries p g b s w.0 w.1), w.1)
    ended true =
        let w = admit_parts (length p) s.head true (sym a) refl in
        let c = count_small p g b s true (run_of p g b s) (unpack_of (run_of p g b s).state.head) _ (sym a) refl refl refl refl in
        (omega (arith, w.0, no_more_than_entries p g b s w.0 w.1), (w.1, c))

    ran : (ok : Bool) → SmallTick (ran_of ok (run_of p g b s) s out)
    unfolding ran_of
    ran true = ended (is_over (run_of p g b s).state)
    ran false = (omega arith, omega arith)

  admitted_or_not : (short fit : Bool) → admitted (length p) s.head ≡ fit
      → SmallTick (if short (refused no_room s out) (if fit (ran_of (run_of p g b s).ok (run_of p g b s) s out) (refused bad_run s out)))
  admitted_or_not true fit e = (omega arith, omega arith)
  admitted_or_not false true e = ran e (run_of p g b s).ok
  admitted_or_not false false e = (omega arith, omega arith)

pub tick_small : (p q : List ℕ) (s : State) (b : ℕ) (out : List ℕ) → ((tick_of p q s b out).tick.steps ≤ 8008) × Small s (tick_of p q s b out).tick.answer
unfolding tick_of
tick_small p q s b out = go (judge_request_of q) refl
  where
    go : (j : JudgedRequest) → judge_request_of q ≡ j → SmallTick p (bags_of q) s b out (judged_tick p (bags_of q) j s b out)
    go (Err r) e = let w = refused_request_small q r e in (omega arith, omega (arith, w.line))
    go (Ok n) e = admitted_or_not p (bags_of q) s b out (ltb (length out) room_p) (admitted (length p) s.head) refl

pub few_steps : (p q : List ℕ) (s : State) (b : ℕ) (out : List ℕ) {t : Tick} → t ≡ (tick_of p q s b out).tick → t.steps ≤ 8008
few_steps p q s b out e = rw e (tick_small p q s b out).0
