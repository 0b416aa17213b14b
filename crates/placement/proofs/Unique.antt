-- No second answer: of one call, two results that the contract allows are the same. `Post` is what Rattle reads off the source's `ensures`, so the claim
-- is about the contract itself. Assumes nothing.
use Rattle.std.specs.Prelude.{Option, None, Some}
use mathlib.Core.Path.{◌≡◌, refl, sym, ap, ◌∙◌}
use mathlib.Core.List.{List}
use Prim.Native.Nat.{ℕ}
use native.Mathlib.Omega.{arith}
use contract.Lifetimes.{Lfts}
use borrow.Fn.Kinds.{Dens, res_t, ended_of}
use denote.Triple.Clauses.{AtExit}
use Rattle.placement.specs.Place.{broken_at}
use Rattle.placement.specs.Walk.{FirstBroken}
use Rattle.placement.specs.declared.Broken.{Broken}
use Rattle.placement.proofs.first_place.Kinds as kinds
use Rattle.placement.proofs.first_place.Reads as reads

same : (x y : Broken) → x.at ≡ y.at → x.rule ≡ y.rule → x ≡ y
same x y e f = ap (λ (k : ℕ). record { at = k; rule = x.rule }) e ∙ ap (λ (k : ℕ). record { at = y.at; rule = k }) f

one_found : (b : List ℕ) (i k : ℕ) (x y : Option Broken) → FirstBroken b i k x → FirstBroken b i k y → x ≡ y
one_found b i k None None p q = refl
one_found b i k None (Some y) p q = absurd (omega (arith, p.place, q.0.place, q.1))
one_found b i k (Some x) None p q = absurd (omega (arith, p.0.place, q.place, p.1))
one_found b i k (Some x) (Some y) p q =
    let e : x.at ≡ y.at = p.0.place ∙ sym q.0.place in
    ap Some (same x y e (p.0.which p.1 ∙ ap (broken_at b) e ∙ sym (q.0.which q.1)))

pub one_place : (κs : Lfts 1) (a : Dens κs kinds.ps) (x y : (res_t kinds.r κs).Denot) (s t : AtExit (ended_of 1 kinds.ps kinds.r) κs)
    → reads.Post κs a x s → reads.Post κs a y t → x ≡ y
one_place κs a x y s t p q = one_found _ _ _ x y p q
