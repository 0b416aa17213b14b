-- No second answer: of one call, two results that the contract allows, with what they leave in `out`, are the same. `Post` is what Rattle reads off
-- the source's `ensures`, so each claim is about the contract itself. Assumes nothing.
use mathlib.Core.Path.{◌≡◌, sym, ◌∙◌}
use contract.Lifetimes.{Lfts}
use borrow.Fn.Kinds.{Dens, res_t, ended_of}
use denote.Triple.Clauses.{AtExit}
use Rattle.run.proofs.fresh.Kinds as fresh-kinds
use Rattle.run.proofs.fresh.Reads as fresh-reads
use Rattle.run.proofs.tick.Kinds as tick-kinds
use Rattle.run.proofs.tick.Reads as tick-reads

pub one_fresh : (κs : Lfts 0) (a : Dens κs fresh-kinds.ps) (x y : (res_t fresh-kinds.r κs).Denot) (s t : AtExit (ended_of 0 fresh-kinds.ps fresh-kinds.r) κs)
    → fresh-reads.Post κs a x s → fresh-reads.Post κs a y t → x ≡ y
one_fresh κs a x y s t p q = p ∙ sym q

pub one_tick : (κs : Lfts 3) (a : Dens κs tick-kinds.ps) (x y : (res_t tick-kinds.r κs).Denot) (s t : AtExit (ended_of 3 tick-kinds.ps tick-kinds.r) κs)
    → tick-reads.Post κs a x s → tick-reads.Post κs a y t → (x ≡ y) × (s.1.1.1.1.0.now ≡ t.1.1.1.1.0.now)
one_tick κs a x y s t p q = (p.0 ∙ sym q.0, p.1 ∙ sym q.1)
