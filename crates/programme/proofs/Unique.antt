-- No second answer: of one step, two results that the contract allows, with what they leave in the lent arrays, are the same. The contract speaks of the fields
-- of the first number put together; what lies in its ranges comes back from that. `Post` is what Rattle reads off the source's `ensures`, so the claim is about
-- the contract itself. Assumes nothing.
use Prim.Native.Nat.{ℕ}
use mathlib.Core.Path.{◌≡◌, refl, sym, ap, ◌∙◌}
use native.Mathlib.Omega.{arith}
use contract.Lifetimes.{Lfts}
use borrow.Fn.Kinds.{Dens, res_t, ended_of}
use denote.Triple.Clauses.{AtExit}
use Rattle.layout.specs.declared.Head.{Head}
use Rattle.layout.specs.declared.State.{State}
use Rattle.std.specs.Prelude.{Option, Some, None}
use Rattle.std.specs.Option.{is_some}
use Rattle.programme.specs.Step.{head_or}
use Rattle.layout.specs.Layout.{unpack_of}
use Rattle.layout.proofs.Coding.{ranged_back}
use Rattle.programme.proofs.step_in.Kinds as kinds
use Rattle.programme.proofs.step_in.Reads as reads

went : (h : Head) (x y : Option Head) → is_some x ≡ is_some y → head_or h x ≡ head_or h y → x ≡ y
went h None None o e = refl
went h None (Some y) o e = let z : ◌≡◌ {A = ℕ} 0 1 = cc in absurd (omega arith)
went h (Some x) None o e = let z : ◌≡◌ {A = ℕ} 0 1 = cc in absurd (omega arith)
went h (Some x) (Some y) o e = ap Some e

pub one_step : (κs : Lfts 5) (a : Dens κs kinds.ps) (x y : (res_t kinds.r κs).Denot) (s t : AtExit (ended_of 5 kinds.ps kinds.r) κs)
    → reads.Post κs a x s → reads.Post κs a y t
    → (x ≡ y) × (s.1.1.1.0.now ≡ t.1.1.1.0.now) × (s.1.1.1.1.0.now ≡ t.1.1.1.1.0.now) × (s.1.1.1.1.1.0.now ≡ t.1.1.1.1.1.0.now)
one_step κs a x y s t p q =
    let e = p.1 ∙ sym q.1 in
    let h : head_or a.1.1.0 x ≡ head_or a.1.1.0 y = sym (ranged_back _ p.2) ∙ ap (λ (z : State). unpack_of z.head) e ∙ ranged_back _ q.2 in
    (went _ x y (p.0 ∙ sym q.0) h, ap (λ (z : State). z.frames) e, ap (λ (z : State). z.levels) e, ap (λ (z : State). z.places) e)
