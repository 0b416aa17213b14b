-- The claims of specs/Loop.antt. Assumes nothing.
use Prim.Native.Nat.{ℕ, ◌+◌, ◌-◌, ◌*◌, ◌/◌, ◌≤◌}
use mathlib.Core.Path.{◌≡◌, refl, sym, ap, ◌∙◌}
use mathlib.Core.Bool.{Bool, true, false}
use mathlib.Core.List.{List, [], ◌∷◌, ◌++◌, append_assoc}
use lib.Dec.{ltb}
use lib.ListN.{length, get_or, take, drop, replicate, length-append, length-drop}
use lib.Seq.{take_at, drop_at}
use native.Mathlib.Omega.{arith}
use borrow.Author.Tests.{le-ltb}
use Rattle.record.specs.Choose.{if}
use Rattle.meaning.specs.Meaning.{decides, obliges}
use Rattle.meaning.specs.Reading.{book_of, bags_of}
use Rattle.meaning.specs.declared.Verdict.{Verdict}
use Rattle.layout.specs.declared.State.{State}
use Rattle.programme.specs.Step.{fresh_of, state_of}
use Rattle.run.specs.Tick.{Ticked}
use Rattle.run.specs.declared.kinds.Answer.{Answer}
use Rattle.run.specs.declared.kinds.Answer.TheVariants.{Running, Finished, Refused}
use Rattle.promises.specs.Place.{Sized}
use Rattle.promises.specs.Ticks.{NotRefused}
use Rattle.promises.proofs.Sight.{fresh_sized}
use Rattle.promises.proofs.Ticks.{refused_stays, ticks_stay_sized}
use Rattle.translator.specs.Translate.{programme_of, translate_of}
use Rattle.demand.specs.Demand.{Turn, ticked, after_turns, dealt_out, running, finished, answer_at}
use Rattle.demand.proofs.Demand.{runs_right}
use Rattle.rig.specs.Rig.{Call, put, numbers_of, state_in, over, fresh_call, tick_in, tick_call, answered, running_number, finished_number}
use Rattle.calls.specs.Loop.{HoldsState, Translates, ticks, next, row, Holds, RowsAreTicks, EveryRow}
use Rattle.layout.specs.Room.{room_p}

over_length : (xs l : List ℕ) → length xs ≤ length l → length (over xs l) ≡ length l
over_length xs l h = omega (arith, h, length-append xs (drop (length xs) l), length-drop (length xs) l)

-- the state that numbers and places hold, where they are enough
held : (ns ps : List ℕ) {fs ls hs : List ℕ} → 33 ≤ length ns → room_p ≤ length ps → fs ≡ take 17 (drop 1 ns) → ls ≡ take 15 (drop 18 ns) → hs ≡ take room_p ps
    → state_of (get_or ns 0 0) fs ls hs ≡ state_in ns ps
unfolding state_in
held ns ps numbers places f l h = rw (le-ltb _ _ numbers, le-ltb _ _ places, f, l, h) refl

module _ (s : State) (ns ps : List ℕ) (w : Sized s) (enough : 33 ≤ length ns) (room : room_p ≤ length ps) where
  abbrev rest : List ℕ
  rest = drop (length (numbers_of s)) ns

  thirty_three : length (numbers_of s) ≡ 33
  thirty_three = omega (arith, length-append s.frames s.levels, w.frames, w.levels)

  numbers_long : length (over (numbers_of s) ns) ≡ length ns
  numbers_long = over_length (numbers_of s) ns (omega (arith, thirty_three, enough))

  places_long : length (over s.places ps) ≡ length ps
  places_long = over_length s.places ps (omega (arith, w.places, room))

  frames_back : s.frames ≡ take 17 (drop 1 (over (numbers_of s) ns))
  frames_back = sym (ap (take 17) (append_assoc s.frames s.levels rest) ∙ take_at s.frames (s.levels ++ rest) 17 w.frames)

  levels_back : s.levels ≡ take 15 (drop 18 (over (numbers_of s) ns))
  levels_back =
      sym (ap (λ (l : List ℕ). take 15 (drop 17 l)) (append_assoc s.frames s.levels rest)
      ∙ ap (take 15) (drop_at s.frames (s.levels ++ rest) 17 w.frames)
      ∙ take_at s.levels rest 15 w.levels)

  places_back : s.places ≡ take room_p (over s.places ps)
  places_back = sym (take_at s.places (drop (length s.places) ps) room_p w.places)

  state_back : state_in (over (numbers_of s) ns) (over s.places ps) ≡ s
  state_back =
      sym (held (over (numbers_of s) ns) (over s.places ps) (rw numbers_long enough) (rw places_long room) frames_back levels_back places_back)

  put_holds : (x : ℕ) → Holds (put x s ns ps) s
  put_holds x = record { numbers = rw numbers_long enough; places = rw places_long room; state = state_back }

pub holds_state : HoldsState
holds_state s ns ps w enough room = state_back s ns ps w enough room

pub translates : Translates
unfolding translate_of
translates b buffer n o e room =
    let d : 256 * length (programme_of b) / 256 ≡ length (programme_of b) = omega arith in
    rw (e, le-ltb _ _ room, d) (take_at (programme_of b) (drop (length (programme_of b)) buffer) (length (programme_of b)) refl)

-- one call
module _ (p q : List ℕ) (c : Call) (s : State) (h : Holds c s) (t : Turn) where
  its_tick : ticks p q c t ≡ ticked p q s t
  unfolding tick_in
  its_tick = rw h.state refl

  next_holds : Sized s → Holds (next p q c t) (ticked p q s t).tick.state
  unfolding tick_call
  next_holds w = rw its_tick (go (ticked p q s t).tick.answer refl)
    where
      sized : Sized (ticked p q s t).tick.state
      sized = ticks_stay_sized p q s t.budget t.out w

      go : (a : Answer) → (ticked p q s t).tick.answer ≡ a → Holds (answered a (ticked p q s t).tick c.numbers c.places) (ticked p q s t).tick.state
      go Running e = put_holds (ticked p q s t).tick.state c.numbers c.places sized h.numbers h.places _
      go (Finished d n) e = put_holds (ticked p q s t).tick.state c.numbers c.places sized h.numbers h.places _
      go (Refused r) e =
          let z : NotRefused (ticked p q s t).tick.answer → ⊥ = rw e (λ n. n) in
          record { numbers = h.numbers; places = h.places; state = h.state ∙ sym (refused_stays p q s t.budget t.out z).1 }

row_holds : (p q : List ℕ) (ts : List Turn) (c : Call) (s : State) → Sized s → Holds c s → Holds (row p q ts c) (after_turns p q ts s)
unfolding row after_turns
row_holds p q [] c s w h = h
row_holds p q (t ∷ ts) c s w h =
    row_holds p q ts (next p q c t) (ticked p q s t).tick.state (ticks_stay_sized p q s t.budget t.out w) (next_holds p q c s h t w)

fresh_holds : (ns ps : List ℕ) → 33 ≤ length ns → room_p ≤ length ps → Holds (fresh_call ns ps) fresh_of × ((fresh_call ns ps).number ≡ 0)
unfolding fresh_call
fresh_holds ns ps enough room = rw (le-ltb _ _ enough, le-ltb _ _ room) (put_holds fresh_of ns ps fresh_sized enough room 0, refl)

pub rows_are_ticks : RowsAreTicks
rows_are_ticks p q ns ps enough room ts = row_holds p q ts (fresh_call ns ps) fresh_of fresh_sized (fresh_holds ns ps enough room).0

-- what an answer is as a number, and in the output
module _ (s u : State) (t : Turn) (steps : ℕ) (d : Verdict) (os : List ℕ) where
  abbrev answer : Bool → Ticked
  answer x = if x (running s t) (finished u t steps d os)

  in_number : (ns ps : List ℕ) (x : Bool) → (tick_call (answer x).tick ns ps).number ≡ if x (running_number t.budget) (finished_number d (length os) steps)
  unfolding tick_call
  in_number ns ps true = refl
  in_number ns ps false = refl

  in_out : (x : Bool) → (answer x).out ≡ if x t.out (os ++ replicate (length t.out - length os) 0)
  in_out true = refl
  in_out false = refl

pub every_row : EveryRow
every_row b q n o m bytes accepted asked buffer ns ps fits enough room =
    rw (translates b buffer n o accepted fits)
    (let p : List ℕ = programme_of b in
    let d : Verdict = decides (bags_of q) (book_of b) in
    let os : List ℕ = obliges (bags_of q) (book_of b) in
    let w = runs_right b q n o m bytes accepted asked in
    let c : List Turn → Call = λ ts. row p q ts (fresh_call ns ps) in
    let e : (ts : List Turn) (t : Turn) → room_p ≤ length t.out → ticks p q (c ts) t ≡ answer_at p (bags_of q) w.steps (dealt_out ts) t d os =
    λ ts t l. its_tick p q (c ts) (after_turns p q ts fresh_of) (rows_are_ticks p q ns ps enough room ts) t ∙ w.gives ts t l in (
      (fresh_holds ns ps enough room).1,
      record {
        steps = w.steps;
        begun = w.begun;
        few = w.few;
        number = λ ts t l.
            ap (λ (r : Ticked). (tick_call r.tick (c ts).numbers (c ts).places).number) (e ts t l)
            ∙ in_number _ _ t (w.steps - dealt_out ts) d os (c ts).numbers (c ts).places (ltb (dealt_out ts + t.budget) w.steps);
        out = λ ts t l. ap (λ (r : Ticked). r.out) (e ts t l) ∙ in_out _ _ t (w.steps - dealt_out ts) d os (ltb (dealt_out ts + t.budget) w.steps);
      },
    ))
