-- No second answer: of one call of `decide`, two results that its contract allows, with what they leave in `out`, are the same. `Post` is what Rattle
-- reads off the source's `ensures`, so the claim is about the contract itself. Assumes nothing.
use mathlib.Core.Path.{◌≡◌, sym, ◌∙◌}
use contract.Lifetimes.{Lfts}
use borrow.Fn.Kinds.{Dens, res_t, ended_of}
use denote.Triple.Clauses.{AtExit}
use Rattle.decider.proofs.decide.Kinds as kinds
use Rattle.decider.proofs.decide.Reads as reads

pub one_outcome : (κs : Lfts 3) (a : Dens κs kinds.ps) (x y : (res_t kinds.r κs).Denot) (s t : AtExit (ended_of 3 kinds.ps kinds.r) κs)
    → reads.Post κs a x s → reads.Post κs a y t → (x ≡ y) × (s.1.1.0.now ≡ t.1.1.0.now)
one_outcome κs a x y s t p q = (p.0 ∙ sym q.0, p.1 ∙ sym q.1)
