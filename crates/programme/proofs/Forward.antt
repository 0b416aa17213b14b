-- Every step moves forward, inside the programme, and leaves a first number that the layout allows. Assumes nothing.
use Prim.Native.Nat.{ℕ, zero, suc, ◌+◌, ◌≤◌, ◌<◌, max}
use mathlib.Core.Path.{◌≡◌, refl}
use mathlib.Core.Bool.{Bool, true, false}
use mathlib.Core.List.{List}
use lib.ListN.{length}
use lib.Dec.{ltb, leb}
use native.Mathlib.Omega.{arith}
use borrow.Author.Tests.{ltb-true, leb-true}
use Rattle.record.specs.Choose.{if, both}
use Rattle.record.proofs.Choose.{both_parts}
use Rattle.meaning.specs.Logic.{and_of, or_of, target_and}
use Rattle.meaning.specs.Meaning.{Bags, match_of, comparison_of, decision_in, is}
use Rattle.meaning.specs.declared.Truth.{Truth}
use Rattle.meaning.specs.declared.Truth.TheVariants.{True, False, Unknown}
use Rattle.meaning.specs.declared.Decision.TheVariants as decision
use Rattle.meaning.specs.declared.Verdict.{Verdict}
use Rattle.meaning.specs.declared.Verdict.TheVariants.{Permit, Deny, NotApplicable, Indeterminate}
use Rattle.meaning.specs.declared.Effect.TheVariants.{Permits}
use Rattle.algorithm.specs.Fold.{settled}
use Rattle.algorithm.specs.Tally.{tallied, verdict_so_far}
use Rattle.algorithm.specs.declared.Acc.{Acc}
use Rattle.algorithm.specs.declared.Acc.TheVariants.{Ranked, Nobody, Pending, Two, One}
use Rattle.layout.specs.declared.Head.{Head}
use Rattle.layout.specs.declared.Frame.{Frame}
use Rattle.moves.specs.declared.Placing.{Placing}
use Rattle.moves.specs.declared.Placing.TheVariants.{Rest, AddPermit, AddDeny, FallPermit, FallDeny, FallBoth, Cut, Down}
use Rattle.layout.specs.Entry.{loads, asks, works, tests, Entry, begin, match, further, opens, compare, close, sum, rule, enter, applies, conclude, oblige, leave, finish, extra, reach, fits, lawful}
use Rattle.moves.specs.Core.{past, settles, value_in, target_done, section_done, conjunction_done, match_done, tell, closed, concluded, noted, finished, core}
use Rattle.layout.specs.Room.{room_f, room_l, room_p}
use Rattle.stacks.specs.Machine.{permits_after, denies_after, cut_after}
use Rattle.layout.specs.Layout.{unpack_of, allowed, fetch}
use Rattle.programme.specs.Step.{head_after, after, seen, may_step, step_of}
use Rattle.layout.specs.declared.State.{State}
use Rattle.layout.proofs.Coding.{ranged, ranged_back, allowed_pack}
use Rattle.stacks.proofs.Bounds.{height_fits}
use Rattle.moves.proofs.Placings.{ByEntry, placing_by}
use Rattle.layout.specs.Ranges.{Ranged}
use Rattle.stacks.specs.Carry.{Placed}

-- how far a match leads
target_far : (v : Truth) (j x : ℕ) (r : Verdict) → (target_done v j x r).jump ≤ max j x
target_far True j x r = omega arith
target_far False j x r = omega arith
target_far (Unknown s) j x r = omega arith

section_far : (v : Truth) (l : Bool) (j x : ℕ) (t : Truth) (r : Verdict) → (section_done v l j x t r).jump ≤ max j x
section_far (Unknown s) l j x t r = target_far (target_and t (Unknown s)) j x r
section_far True true j x t r = target_far t j x r
section_far False true j x t r = target_far (target_and t False) j x r
section_far True false j x t r = omega arith
section_far False false j x t r = omega arith

conjunction_far : (v : Truth) (c l : Bool) (i j x : ℕ) (t : Truth) (r : Verdict) → (conjunction_done v c l i j x t r).jump ≤ max i (max j x)
conjunction_far True c l i j x t r = let h = section_far True l j x t r in omega (arith, h)
conjunction_far False true l i j x t r = let h = section_far False l j x t r in omega (arith, h)
conjunction_far (Unknown s) true l i j x t r = let h = section_far (Unknown s) l j x t r in omega (arith, h)
conjunction_far False false l i j x t r = omega arith
conjunction_far (Unknown s) false l i j x t r = omega arith

match_far : (v : Truth) (m c l : Bool) (i j x : ℕ) (o t : Truth) (r : Verdict) → (match_done v m c l i j x o t r).jump ≤ max i (max j x)
match_far False m c l i j x o t r = conjunction_far (or_of o False) c l i j x t r
match_far True true c l i j x o t r = conjunction_far (or_of o True) c l i j x t r
match_far (Unknown s) true c l i j x o t r = conjunction_far (or_of o (Unknown s)) c l i j x t r
match_far True false c l i j x o t r = omega arith
match_far (Unknown s) false c l i j x o t r = omega arith

past_far : (b : Bool) (n : ℕ) (r : Verdict) → (past b n r).jump ≤ n
past_far true n r = omega arith
past_far false n r = omega arith

-- a step leads no further than its entry says
pub inside : (e : Entry) (g : Bags) (long : ℕ) (h : Head) (l m : ℕ) (f b : Frame) → h.at + suc (reach e) ≤ long
    → h.at + suc (extra e + (core g h e l m f b).next.jump) ≤ long
unfolding core
inside (begin al c) g long h l m f b w = w
inside (match t k c s i j x) g long h l m f b w = let z = match_far (and_of h.found.ands (match_of g t)) k c s i j x h.found.ors h.found.sections h.found.reg in omega (arith, w, z)
inside further g long h l m f b w = w
inside (opens op) g long h l m f b w = w
inside (compare t n) g long h l m f b w = let z = go h.nest in omega (arith, w, z)
  where
    go : (k : ℕ) → (tell (comparison_of g t) n k l h.found.reg).next.jump ≤ n
    go zero = omega arith
    go (suc k) = past_far (settles l (comparison_of g t)) n h.found.reg
inside (close n) g long h l m f b w = let z = go h.nest in omega (arith, w, z)
  where
    go : (k : ℕ) → (closed n k l m h.found.reg).next.jump ≤ n
    go zero = omega arith
    go (suc zero) = omega arith
    go (suc (suc k)) = past_far (settles m (value_in l)) n h.found.reg
inside (sum (loads k n)) g long h l m f b w = w
inside (sum (asks key)) g long h l m f b w = w
inside (sum (works o)) g long h l m f b w = w
inside (sum (tests y k)) g long h l m f b w = w
inside (rule e n) g long h l m f b w = let z = past_far (settled f.alg (tallied f.alg f.tally e (Rattle.moves.specs.Core.ruled e h.found.reg)).acc) n Permit in omega (arith, w, z)
inside (enter al) g long h l m f b w = w
inside (applies n) g long h l m f b w = let z = go b.tally.acc in omega (arith, w, z)
  where
    go : (a : Acc) → (noted a b n h.found.reg).next.jump ≤ n
    go (Ranked k) = omega arith
    go Nobody = omega arith
    go Pending = omega arith
    go Two = omega arith
    go (One d) = omega arith
inside (conclude n) g long h l m f b w = let z = go (verdict_so_far f.alg f.tally) in omega (arith, w, z)
  where
    go : (v : Verdict) → (concluded v n f.permits f.denies).next.jump ≤ n
    go Permit = omega arith
    go Deny = omega arith
    go NotApplicable = omega arith
    go (Indeterminate s) = omega arith
inside (oblige e n) g long h l m f b w = w
inside (leave n) g long h l m f b w = let z = past_far (settled b.alg (tallied b.alg b.tally Permits h.found.reg).acc) n Permit in omega (arith, w, z)
inside finish g long h l m f b w = go (both (is (decision_in h.found.reg) decision.Deny) (ltb h.permits h.denies))
  where
    go : (x : Bool) → h.at + suc (0 + (finished x h).next.jump) ≤ long
    go true = w
    go false = w

-- what becomes of the obligations is within reach
pub placed_core : (e : Entry) (g : Bags) (h : Head) (l m : ℕ) (f b : Frame) → fits e ≡ true
    → Placed (core g h e l m f b).placing h.permits h.denies
placed_core e g h l m f b = placing_by (λ e over z. fits e ≡ true → Placed z h.permits h.denies) h reach_all g e l m f b
  where
    reach_all : ByEntry (λ e over z. fits e ≡ true → Placed z h.permits h.denies) h
    reach_all = record {
      rests = λ e w. tt;
      cuts = λ a c w. leb-true c room_p w;
      falls = λ n p d. (λ w. tt, λ w. tt, λ w. tt);
      adds = λ n. (λ w. ltb-true n 65536 w, λ w. ltb-true n 65536 w);
      ends = λ w. tt;
      downs = λ k w. omega (arith, k);
    }

permits_range : (h : Head) (z : Placing) → Placed z h.permits h.denies → Ranged h → permits_after z h.cut h.permits ≤ room_p
permits_range h Rest w r = r.permits
permits_range h (AddPermit n) w r = go (ltb h.permits h.cut) refl
  where
    go : (b : Bool) → ltb h.permits h.cut ≡ b → if b (suc h.permits) h.permits ≤ room_p
    go true e = let z = ltb-true h.permits h.cut e in omega (arith, z, r.stacks)
    go false e = r.permits
permits_range h (AddDeny n) w r = r.permits
permits_range h (FallPermit k) w r = omega (arith, r.permits)
permits_range h (FallDeny k) w r = r.permits
permits_range h (FallBoth k j) w r = omega (arith, r.permits)
permits_range h (Cut c) w r = omega arith
permits_range h (Down n) w r = omega (arith, w, r.stacks)

stacks_range : (h : Head) (z : Placing) → Placed z h.permits h.denies → Ranged h → cut_after z h.cut + denies_after z h.cut room_p h.denies ≤ room_p
stacks_range h Rest w r = r.stacks
stacks_range h (AddPermit n) w r = r.stacks
stacks_range h (AddDeny n) w r = go (ltb (h.cut + h.denies) room_p) refl
  where
    go : (b : Bool) → ltb (h.cut + h.denies) room_p ≡ b → h.cut + if b (suc h.denies) h.denies ≤ room_p
    go true e = let z = ltb-true (h.cut + h.denies) room_p e in omega (arith, z)
    go false e = r.stacks
stacks_range h (FallPermit k) w r = r.stacks
stacks_range h (FallDeny k) w r = omega (arith, r.stacks)
stacks_range h (FallBoth k j) w r = omega (arith, r.stacks)
stacks_range h (Cut c) w r = omega (arith, w)
stacks_range h (Down n) w r = r.stacks

-- what a lawful entry is
pub lawful_parts : (long at : ℕ) (e : Entry) → lawful long at e ≡ true → (fits e ≡ true) × (at + suc (reach e) ≤ long)
unfolding lawful
lawful_parts long at e w = let z = both_parts (fits e) (leb (at + suc (reach e)) long) w in (z.0, leb-true (at + suc (reach e)) long z.1)

-- after a lawful step the place is further on, inside, and the first number is in its range
pub forward : (e : Entry) (g : Bags) (long : ℕ) (h : Head) (l m : ℕ) (f b : Frame) → long ≤ 8008 → Ranged h → lawful long h.at e ≡ true
    → (h.at < (head_after h e (core g h e l m f b)).at) × ((head_after h e (core g h e l m f b)).at ≤ long) × Ranged (head_after h e (core g h e l m f b))
unfolding head_after
forward e g long h l m f b s r w =
    let z = lawful_parts long h.at e w in
    let i = inside e g long h l m f b z.1 in
    let t = placed_core e g h l m f b z.0 in (
      omega arith,
      i,
      record {
        at = omega (arith, i, s);
        depth = omega (arith, height_fits room_f (core g h e l m f b).frames h.depth (omega (arith, r.depth)));
        nest = omega (arith, height_fits room_l (core g h e l m f b).levels h.nest (omega (arith, r.nest)));
        permits = permits_range h (core g h e l m f b).placing t r;
        stacks = stacks_range h (core g h e l m f b).placing t r;
      },
    )

-- so of a step that may be taken
module _ (p : List ℕ) (g : Bags) (s : State) (long : length p ≤ 8008) (ok : allowed s.head ≡ true) (may : may_step p s ≡ true) where
  abbrev pub before : Head
  before = unpack_of s.head

  abbrev pub met : Entry
  met = fetch p before.at

  pub step_forward : (before.at < (head_after before met (seen g s before met)).at) × ((head_after before met (seen g s before met)).at ≤ length p)
      × Ranged (head_after before met (seen g s before met))
  unfolding seen may_step
  step_forward = forward met g (length p) before _ _ _ _ long (ranged s.head ok) may

  pub still_allowed : allowed (step_of p g s).head ≡ true
  unfolding step_of after
  still_allowed = allowed_pack (head_after before met (seen g s before met)) step_forward.2

  pub head_after_lem : unpack_of (step_of p g s).head ≡ head_after before met (seen g s before met)
  unfolding step_of after
  head_after_lem = ranged_back (head_after before met (seen g s before met)) step_forward.2

  pub further_on : (before.at < (unpack_of (step_of p g s).head).at) × ((unpack_of (step_of p g s).head).at ≤ length p)
  further_on = rw head_after_lem (step_forward.0, step_forward.1)
