-- What becomes of the obligations in a step, by the entry that it meets. Assumes nothing.
use Prim.Native.Nat.{ℕ, zero, suc, ◌+◌, ◌-◌, ◌<◌, min}
use mathlib.Core.Path.{◌≡◌, refl}
use mathlib.Core.Bool.{Bool, true, false}
use lib.Dec.{ltb, leb}
use borrow.Author.Tests.{ltb-true}
use Rattle.record.specs.Choose.{both}
use Rattle.meaning.specs.Meaning.{Bags, comparison_of, is, decision_of, decision_in}
use Rattle.meaning.specs.declared.Algorithm.{Algorithm}
use Rattle.meaning.specs.declared.Decision.TheVariants as decision
use Rattle.meaning.specs.declared.Verdict.{Verdict}
use Rattle.meaning.specs.declared.Verdict.TheVariants.{Permit, Deny, NotApplicable, Indeterminate}
use Rattle.meaning.specs.declared.Effect.{Effect}
use Rattle.meaning.specs.declared.Effect.TheVariants.{Permits, Denies}
use Rattle.algorithm.specs.Tally.{verdict_so_far}
use Rattle.algorithm.specs.declared.Acc.{Acc}
use Rattle.algorithm.specs.declared.Acc.TheVariants.{Ranked, Nobody, Pending, Two, One}
use Rattle.layout.specs.declared.Head.{Head}
use Rattle.layout.specs.declared.Frame.{Frame}
use Rattle.moves.specs.declared.Placing.{Placing}
use Rattle.moves.specs.declared.Placing.TheVariants.{Rest, AddPermit, AddDeny, FallPermit, FallDeny, FallBoth, Cut, Down}
use Rattle.layout.specs.Entry.{loads, asks, works, tests, Entry, begin, match, further, opens, compare, close, sum, rule, enter, applies, conclude, oblige, leave, finish}
use Rattle.moves.specs.Core.{Out, tell, closed, concluded, noted, pushed, at_once, finished, core}

-- a property of an entry, of whether the run is over with it, and of what becomes of the obligations
pub record ByEntry (P : Entry → Bool → Placing → Type 0) (h : Head) : Type 0 where
  pub rests : (e : Entry) → P e false Rest
  pub cuts : (a : Algorithm) (c : ℕ) → P (begin a c) false (Cut c)
  pub falls : (n p d : ℕ) → P (conclude n) false (FallPermit p) × P (conclude n) false (FallDeny d) × P (conclude n) false (FallBoth p d)
  pub adds : (n : ℕ) → P (oblige Permits n) false (AddPermit n) × P (oblige Denies n) false (AddDeny n)
  pub ends : P finish true Rest
  pub downs : h.permits < h.denies → P finish (leb h.denies (h.permits + at_once)) (Down (min at_once (h.denies - h.permits)))

module _ (P : Entry → Bool → Placing → Type 0) (h : Head) (w : ByEntry P h) (g : Bags) where
  abbrev Has : Entry → Out → Type 0
  Has e x = P e x.over x.placing

  pub placing_by : (e : Entry) (l m : ℕ) (f b : Frame) → Has e (core g h e l m f b)
  unfolding core
  placing_by (begin al c) l m f b = w.cuts al c
  placing_by (match t k c s i j x) l m f b = w.rests (match t k c s i j x)
  placing_by further l m f b = w.rests further
  placing_by (opens op) l m f b = w.rests (opens op)
  placing_by (compare t n) l m f b = go h.nest
    where
      go : (k : ℕ) → Has (compare t n) (tell (comparison_of g t) n k l h.found.reg)
      go zero = w.rests (compare t n)
      go (suc k) = w.rests (compare t n)
  placing_by (close n) l m f b = go h.nest
    where
      go : (k : ℕ) → Has (close n) (closed n k l m h.found.reg)
      go zero = w.rests (close n)
      go (suc zero) = w.rests (close n)
      go (suc (suc k)) = w.rests (close n)
  placing_by (sum (loads k n)) l m f b = w.rests (sum (loads k n))
  placing_by (sum (asks key)) l m f b = w.rests (sum (asks key))
  placing_by (sum (works o)) l m f b = w.rests (sum (works o))
  placing_by (sum (tests y k)) l m f b = w.rests (sum (tests y k))
  placing_by (rule e n) l m f b = w.rests (rule e n)
  placing_by (enter al) l m f b = w.rests (enter al)
  placing_by (applies n) l m f b = go b.tally.acc
    where
      go : (a : Acc) → Has (applies n) (noted a b n h.found.reg)
      go (Ranked k) = w.rests (applies n)
      go Nobody = w.rests (applies n)
      go Pending = w.rests (applies n)
      go Two = w.rests (applies n)
      go (One d) = w.rests (applies n)
  placing_by (conclude n) l m f b = go (verdict_so_far f.alg f.tally)
    where
      go : (v : Verdict) → Has (conclude n) (concluded v n f.permits f.denies)
      go Permit = (w.falls n f.permits f.denies).1
      go Deny = (w.falls n f.permits f.denies).0
      go NotApplicable = (w.falls n f.permits f.denies).2
      go (Indeterminate s) = (w.falls n f.permits f.denies).2
  placing_by (oblige e n) l m f b = go e (is (decision_in h.found.reg) (decision_of e))
    where
      go : (e : Effect) (x : Bool) → P (oblige e n) false (pushed e x n)
      go e false = w.rests (oblige e n)
      go Permits true = (w.adds n).0
      go Denies true = (w.adds n).1
  placing_by (leave n) l m f b = w.rests (leave n)
  placing_by finish l m f b = go (is (decision_in h.found.reg) decision.Deny) (ltb h.permits h.denies) refl
    where
      go : (y x : Bool) → ltb h.permits h.denies ≡ x → Has finish (finished (both y x) h)
      go true true e = w.downs (ltb-true h.permits h.denies e)
      go true false e = w.ends
      go false x e = w.ends
