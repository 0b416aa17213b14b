-- Laws of the rig's calls, over plain variables. Assumes nothing.
use Rattle.std.specs.Prelude.{Err, Ok}
use Prim.Native.Nat.{ℕ, ◌≤◌}
use mathlib.Core.Path.{◌≡◌, refl, sym, ap, ◌∙◌}
use mathlib.Core.List.{List, [], ◌∷◌, ◌++◌, append_assoc}
use lib.ListN.{length, set, drop, length-append}
use lib.Seq.{take_at, drop_at, drop-drop}
use native.Mathlib.Omega.{arith}
use borrow.Rule.Slice.PartMut.{put_mid}
use Rattle.record.specs.Refusals.{line_of, refusal_number}
use Rattle.record.specs.declared.Refusal.{Refusal}
use Rattle.meaning.specs.declared.Verdict.{Verdict}
use Rattle.layout.specs.declared.State.{State}
use Rattle.run.specs.Tick.{tick_of}
use Rattle.run.specs.declared.kinds.Answer.TheVariants.{Running, Finished, Refused}
use Rattle.run.specs.declared.kinds.Tick.{Tick}
use Rattle.run.proofs.Bounds.{Small, tick_small}
use Rattle.translator.specs.Translate.{translate_of, leaves, Translated}
use Rattle.rig.specs.Rig.{state_in, numbers_of, over, call, running_number, finished_number, tick_in, tick_call, translated_number}
use Rattle.rig.proofs.Bounds.{long_enough, translate_small}
use Rattle.layout.specs.Room.{room_p}
use Rattle.record.specs.Bytes.{most_records}

-- the numbers of a state that are put into them: the first number, the frames, the levels
module _ (ns : List ℕ) (h : ℕ) (fs : List ℕ) (enough : 33 ≤ length ns) (frames : length fs ≡ 17) where
  module _ (ls : List ℕ) (levels : length ls ≡ 15) {ms os : List ℕ} (e : ms ≡ fs) (f : os ≡ ls) where
    pub put_numbers : put_mid 18 15 (put_mid 1 17 (set ns 0 h) ms) os ≡ over (h ∷ (fs ++ ls)) ns
    put_numbers = rw (e, f) (go ns enough)
      where
        go : (l : List ℕ) → 33 ≤ length l → put_mid 18 15 (put_mid 1 17 (set l 0 h) fs) ls ≡ over (h ∷ (fs ++ ls)) l
        go [] g = absurd (omega arith)
        go (x ∷ l) g =
            rw (take_at fs (drop 17 l) 17 frames, drop_at fs (drop 17 l) 17 frames, drop-drop 15 17 l, length-append, frames, levels)
            (ap (λ xs. h ∷ xs) (sym (append_assoc fs ls (drop 32 l))))

-- a tick
module _ (p q ns ps : List ℕ) (b : ℕ) (out : List ℕ) {s : State} {t : Tick} (held : s ≡ state_in ns ps) (ticked : t ≡ (tick_of p q s b out).tick) where
  is_tick : t ≡ (tick_in p q ns ps b out).tick
  unfolding tick_in
  is_tick = rw held at ticked

  small : (t.steps ≤ 8008) × Small (state_in ns ps) t.answer
  small = rw (rw held at ticked) (tick_small p q (state_in ns ps) b out)

  pub refused_line : {r : Refusal} → t.answer ≡ Refused r → line_of r ≤ most_records
  refused_line e = rw e at small.1

  pub running_fits : t.answer ≡ Running → (33 ≤ length ns) × (room_p ≤ length ps) × (t.steps ≤ 8008)
  running_fits e = let w : Small (state_in ns ps) Running = rw e at small.1 in let l = long_enough ns ps w in (l.0, l.1, small.0)

  pub finished_fits : {d : Verdict} {n : ℕ} → t.answer ≡ Finished d n → (33 ≤ length ns) × (room_p ≤ length ps) × (n ≤ room_p) × (t.steps ≤ 8008)
  finished_fits {d} {n} e = let w : Small (state_in ns ps) (Finished d n) = rw e at small.1 in let l = long_enough ns ps w.0 in (l.0, l.1, w.1, small.0)

  module _ {o : List ℕ} (left : o ≡ (tick_of p q s b out).out) where
    abbrev pub TickIs : ℕ → List ℕ → List ℕ → Type 0
    TickIs x ms rs = (call x ms rs ≡ tick_call (tick_in p q ns ps b out).tick ns ps) × (o ≡ (tick_in p q ns ps b out).out)

    is_out : o ≡ (tick_in p q ns ps b out).out
    unfolding tick_in
    is_out = rw held at left

    pub tick_refused : {r : Refusal} {x : ℕ} → t.answer ≡ Refused r → x ≡ refusal_number r → TickIs x ns ps
    unfolding tick_call
    tick_refused e number = (rw (← is_tick, e, number) refl, is_out)

    module _ {ms rs : List ℕ} (numbers : ms ≡ over (numbers_of t.state) ns) (places : rs ≡ over t.state.places ps) where
      pub tick_running : {x : ℕ} → t.answer ≡ Running → x ≡ running_number t.steps → TickIs x ms rs
      unfolding tick_call
      tick_running e number = (rw (← is_tick, e, number, numbers, places) refl, is_out)

      pub tick_finished : {d : Verdict} {n x : ℕ} → t.answer ≡ Finished d n → x ≡ finished_number d n t.steps → TickIs x ms rs
      unfolding tick_call
      tick_finished e number = (rw (← is_tick, e, number, numbers, places) refl, is_out)

-- translating
module _ (b out : List ℕ) {y : Translated} (answer : y ≡ translate_of b (length out)) where
  pub entries_few : {n : ℕ} → y ≡ Ok n → n ≤ 24024
  entries_few e = rw (sym answer ∙ e) at (translate_small b (length out))

  pub refused_translating : {r : Refusal} → y ≡ Err r → line_of r ≤ most_records
  refused_translating e = rw (sym answer ∙ e) at (translate_small b (length out))

  pub translates : {x : ℕ} {o : List ℕ} → x ≡ translated_number y → o ≡ leaves y b out
      → (x ≡ translated_number (translate_of b (length out))) × (o ≡ leaves (translate_of b (length out)) b out)
  translates number left = (rw (← answer) number, rw (← answer) left)
