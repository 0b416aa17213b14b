-- The claims of specs/Demand.antt. Assumes nothing.
use Rattle.std.specs.Prelude.{Ok}
use Prim.Native.Nat.{ℕ, ◌+◌, ◌-◌, ◌*◌, ◌/◌, ◌≤◌, ◌<◌, min}
use mathlib.Core.Path.{◌≡◌, refl, ap, ◌∙◌}
use mathlib.Core.Bool.{Bool, true, false}
use mathlib.Core.List.{List, [], ◌∷◌}
use lib.Dec.{ltb, leb}
use lib.ListN.{length, get_or}
use native.Mathlib.Nat.{zero-add, add-zero, add_assoc}
use native.Mathlib.Omega.{arith}
use borrow.Author.Tests.{lt-ltb, le-leb, ltb-true, ltb-false}
use Rattle.record.specs.Choose.{if, either}
use Rattle.record.specs.Bytes.{size, Bytes, most_records}
use Rattle.record.proofs.Laws.{two_small}
use Rattle.meaning.specs.Policy.{Tree}
use Rattle.meaning.specs.Meaning.{Bags, decides, obliges}
use Rattle.meaning.specs.Reading.{key_at, test_at, match_at, comparison_at, book_of, bags_of}
use Rattle.meaning.specs.declared.Verdict.{Verdict}
use Rattle.meaning.specs.declared.Effect.TheVariants.{Permits, Denies}
use Rattle.judge.specs.Judge.{judge_of, accepted_with}
use Rattle.judge.specs.Request.{judge_request_of}
use Rattle.placement.specs.Keeps.{Keeps}
use Rattle.judge.specs.Sound.{Nested}
use Rattle.judge.proofs.Exactly.{accepted_keeps}
use Rattle.judge.proofs.Sound.{kept_nests}
use Rattle.judge.proofs.Depth.{book_deep}
use Rattle.layout.specs.declared.State.{State}
use Rattle.layout.specs.Entry.{Entry, further, is_further, lawful}
use Rattle.moves.specs.Core.{at_once}
use Rattle.layout.specs.Layout.{fetch}
use Rattle.programme.specs.Step.{is_over, fresh_of}
use Rattle.layout.proofs.Spelling.{Key, Short}
use Rattle.run.specs.Run.{run_of, Ran}
use Rattle.run.specs.Tick.{admitted, Ticked, answered, tick_of}
use Rattle.run.proofs.Runs.{runs_stay_allowed}
use Rattle.promises.specs.Steps.{after_steps}
use Rattle.promises.proofs.Steps.{runs_are, steps_add, left_after}
use Rattle.promises.proofs.Ticks.{tick_with_lem}
use Rattle.code.specs.Code.{programme, translated, in_numbers, obligations}
use Rattle.code.specs.Flat.{flat_of, Codes}
use Rattle.code.specs.Nesting.{nest_tree, deep_tree}
use Rattle.translator.specs.Translate.{programme_of}
use Rattle.code.proofs.Holding.{InTree, book_has}
use Rattle.code.proofs.Fetch.{numbers_length, codes, lawful_at}
use Rattle.code.proofs.Size.{short, recs}
use Rattle.code.proofs.Counted.{book_records, book_nest, obligations_le}
use Rattle.code.proofs.Whole.{Answers, translated_right}
use Rattle.demand.specs.Course.{Course}
use Rattle.demand.specs.Demand.{FewEntries, Turn, ticked, after_turns, deals, dealt_out, running, finished, answer_at, RunsRight}
use Rattle.demand.proofs.Course.{course, fresh_allowed}
use Rattle.layout.specs.Room.{room_p}

-- keys and numbers that are read from bytes fit
pub key_small : (b : List ℕ) → Bytes b → (i : ℕ) → key_at b i < 281474976710656
unfolding key_at
key_small b w i =
    let a = w (i * size + 4) in
    let c = w (i * size + 6) in
    let d = w (i * size + 7) in
    omega (arith, a, c, d, two_small b w (i * size + 16))

tests_small : (b : List ℕ) → Bytes b → (i : ℕ) → Key (match_at b i) × Key (comparison_at b i)
unfolding match_at comparison_at test_at
tests_small b w i = (key_small b w i, key_small b w i)

tree_small : (b : List ℕ) → Bytes b → InTree Key Short (book_of b)
tree_small b w = book_has b Key Short (tests_small b w) (λ i e. two_small b w (i * size + 6)) (key_small b w)

-- what acceptance gives
record Sizes (b : List ℕ) (n : ℕ) : Type 0 where
  few : recs (book_of b) ≤ n
  most : n ≤ most_records
  nest : (nest_tree (book_of b) ≤ 16) × (deep_tree (book_of b) ≤ 14)

sizes : (b : List ℕ) (n o : ℕ) → judge_of b ≡ accepted_with n o → Sizes b n
sizes b n o e =
    let k : Keeps b n = (accepted_keeps b n o e).0 in
    let z = k.sized in
    let l : length b / size ≡ n = omega (arith, z.bytes) in
    let w : Nested b n = kept_nests b n k in
    record {
      few = rw l at (book_records b (omega (arith, l, z.some)));
      most = z.most;
      nest = book_nest b (rw l (book_deep b n w z.some));
    }

-- the programme of an accepted book: its numbers spell its entries, each is in its layout where an operation starts, and the flat machine's run answers
pub record Spelled (b p : List ℕ) (es : List Entry) (n : ℕ) : Type 0 where
  pub same : length p ≡ length es
  pub short : length p ≤ 4 * n
  pub long : length p ≤ 8008
  pub permitted : obligations Permits (book_of b) ≤ room_p
  pub reads : Codes (fetch p) es
  pub laws : (i : ℕ) → i < length es → is_further (get_or es i further) ≡ false → lawful (length p) i (fetch p i) ≡ true
  pub answers : (g : Bags) → Answers g (fetch p) es (flat_of fresh_of) (decides g (book_of b)) (obliges g (book_of b))

pub spelled : (b : List ℕ) (n o : ℕ) → Bytes b → judge_of b ≡ accepted_with n o → Spelled b (programme_of b) (translated (book_of b)) n
unfolding programme_of translated
spelled b n o w e =
    let s = sizes b n o e in
    let x : Tree = book_of b in
    let c : ℕ = obligations Permits x in
    let k : ℕ = (obligations Denies x - 1) / at_once in
    let le = obligations_le x in
    let room : obligations Permits x + obligations Denies x ≤ room_p = omega (arith, le, s.few, s.most) in
    let few : length (programme x c k) ≤ 4 * recs x = short x in
    let long : length (programme x c k) ≤ 8008 = omega (arith, few, s.few, s.most) in
    let small = tree_small b w in
    let same = numbers_length x c k small (omega (arith, room)) long in
    let reads = codes x c k small (omega (arith, room)) long in
    record {
      same = same;
      short = rw same (omega (arith, few, s.few));
      long = rw same long;
      permitted = omega (arith, room);
      reads = reads;
      laws = lawful_at x c k small (omega (arith, room)) long;
      answers = λ g. translated_right x g (fetch (in_numbers (programme x c k))) reads s.nest.1 s.nest.0 room;
    }

pub few_entries : FewEntries
few_entries b n o w e = (spelled b n o w e).short

-- ticks of a programme with such a run
module _ (p q : List ℕ) (m : ℕ) (asked : judge_request_of q ≡ Ok m) (long : length p ≤ 8008)
    (d : Verdict) (os : List ℕ) (w : Course p (bags_of q) d os) where
  abbrev g : Bags
  g = bags_of q

  abbrev k : ℕ
  k = w.steps

  abbrev at : ℕ → State
  at n = after_steps p g n fresh_of

  layout : (a : ℕ) → a ≤ k → admitted (length p) (at a).head ≡ true
  unfolding admitted
  layout a l =
      let e : min a k ≡ a = omega (arith, l) in
      let r : (run_of p g a fresh_of).state ≡ at a = ap (λ (r : Ran). r.state) (runs_are p g a fresh_of k w.left) ∙ ap at e in
      let some : 0 < length p = omega (arith, w.begun, w.few) in
      rw (lt-ltb 0 (length p) some, le-leb (length p) 8008 long) (rw r at (runs_stay_allowed p g a fresh_of long fresh_allowed))

  either_true : (x : Bool) → either x true ≡ true
  either_true true = refl
  either_true false = refl

  -- a tick after a steps
  tick_is : (a : ℕ) (t : Turn) → a ≤ k → room_p ≤ length t.out
      → ticked p q (at a) t ≡ answered (is_over (at (a + min t.budget (k - a)))) (at (a + min t.budget (k - a))) (min t.budget (k - a)) t.out
  tick_is a t l room =
      let e : a + (k - a) ≡ k = omega (arith, l) in
      tick_with_lem p q (at a) t.budget t.out (k - a) (left_after p g a k fresh_of l w.left)
      (record { entries = m; request = asked; room = room; layout = layout a l })
      ∙ rw (steps_add p g a (k - a) fresh_of, e, w.answer.over, either_true (leb t.budget (k - a)), steps_add p g a (min t.budget (k - a)) fresh_of) refl

  abbrev answer : ℕ → Turn → Ticked
  answer a t = answer_at p g k a t d os

  -- a tick after a steps were dealt out
  answers : (a : ℕ) (t : Turn) → room_p ≤ length t.out → ticked p q (at (min a k)) t ≡ answer a t
  unfolding answered
  answers a t room = tick_is (min a k) t (omega arith) room ∙ go (ltb (a + t.budget) k) refl
    where
      c : ℕ
      c = min t.budget (k - min a k)

      go : (x : Bool) → ltb (a + t.budget) k ≡ x → answered (is_over (at (min a k + c))) (at (min a k + c)) c t.out
          ≡ if x (running (at (a + t.budget)) t) (finished (at k) t (k - a) d os)
      go true e =
          let l = ltb-true (a + t.budget) k e in
          let f : min a k + c ≡ a + t.budget = omega (arith, l) in
          let h : c ≡ t.budget = omega (arith, l) in
          rw (f, h, (w.left.goes (a + t.budget) l).running) refl
      go false e =
          let l = ltb-false (a + t.budget) k e in
          let f : min a k + c ≡ k = omega (arith, l) in
          let h : c ≡ k - a = omega (arith, l) in
          rw (f, h, w.answer.over, w.answer.decision, w.answer.obligations, w.answer.count) refl

  -- a turn without room is refused
  stays : (a : ℕ) (t : Turn) → length t.out < room_p → (ticked p q (at a) t).tick.state ≡ at a
  unfolding tick_of
  stays a t l = rw (asked, lt-ltb (length t.out) room_p l) refl

  -- after any turns
  turn_leads : (a : ℕ) (t : Turn) → (ticked p q (at (min a k)) t).tick.state ≡ at (min (a + deals t) k)
  turn_leads a t = go (ltb (length t.out) room_p) refl
    where
      led : (x : Bool) → ltb (a + t.budget) k ≡ x → (if x (running (at (a + t.budget)) t) (finished (at k) t (k - a) d os)).tick.state ≡ at (min (a + t.budget) k)
      led true e = let l = ltb-true (a + t.budget) k e in ap at (omega (arith, l))
      led false e = let l = ltb-false (a + t.budget) k e in ap at (omega (arith, l))

      go : (x : Bool) → ltb (length t.out) room_p ≡ x → (ticked p q (at (min a k)) t).tick.state ≡ at (min (a + if x 0 t.budget) k)
      go true e = rw (add-zero a) (stays (min a k) t (ltb-true (length t.out) room_p e))
      go false e =
          ap (λ (r : Ticked). r.tick.state) (answers a t (ltb-false (length t.out) room_p e)) ∙ led (ltb (a + t.budget) k) refl

  turns_lead : (ts : List Turn) (a : ℕ) → after_turns p q ts (at (min a k)) ≡ at (min (a + dealt_out ts) k)
  unfolding after_turns dealt_out
  turns_lead [] a = rw (add-zero a) refl
  turns_lead (t ∷ ts) a = rw (turn_leads a t) (turns_lead ts (a + deals t) ∙ ap (λ (n : ℕ). at (min n k)) (add_assoc a (deals t) (dealt_out ts)))

  pub gives : (ts : List Turn) (t : Turn) → room_p ≤ length t.out → ticked p q (after_turns p q ts fresh_of) t ≡ answer (dealt_out ts) t
  unfolding after_steps
  gives ts t room =
      let z : min 0 k ≡ 0 = omega arith in
      let e : after_turns p q ts fresh_of ≡ at (min (dealt_out ts) k) = rw (z, zero-add (dealt_out ts)) at (turns_lead ts 0) in
      rw e (answers (dealt_out ts) t room)

pub runs_right : RunsRight
runs_right b q n o m bytes accepted asked =
    let s = spelled b n o bytes accepted in
    let d = decides (bags_of q) (book_of b) in
    let os = obliges (bags_of q) (book_of b) in
    let w = course (programme_of b) (translated (book_of b)) (bags_of q) s.same s.long s.reads s.laws d os (s.answers (bags_of q)) in
    record { steps = w.steps; begun = w.begun; few = w.few; gives = gives (programme_of b) q m asked s.long d os w }
