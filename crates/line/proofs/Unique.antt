-- No second answer: of one call, two results that the contract allows, with what they leave in `out`, are the same. `Post` is what Rattle reads off
-- the source's `ensures`, so each claim is about the contract itself. Assumes nothing.
use mathlib.Core.Path.{◌≡◌, sym, ◌∙◌}
use contract.Lifetimes.{Lfts}
use borrow.Fn.Kinds.{Dens, res_t, ended_of}
use denote.Triple.Clauses.{AtExit}
use Rattle.line.proofs.told_line.Kinds as told-kinds
use Rattle.line.proofs.told_line.Reads as told-reads
use Rattle.line.proofs.refusal_line.Kinds as refusal-kinds
use Rattle.line.proofs.refusal_line.Reads as refusal-reads
use Rattle.line.proofs.decision_line.Kinds as decision-kinds
use Rattle.line.proofs.decision_line.Reads as decision-reads

pub one_told_line : (κs : Lfts 1) (a : Dens κs told-kinds.ps) (x y : (res_t told-kinds.r κs).Denot)
    (s t : AtExit (ended_of 1 told-kinds.ps told-kinds.r) κs)
    → told-reads.Post κs a x s → told-reads.Post κs a y t → (x ≡ y) × (s.1.1.1.0.now ≡ t.1.1.1.0.now)
one_told_line κs a x y s t p q = (p.0 ∙ sym q.0, p.1 ∙ sym q.1)

pub one_refusal_line : (κs : Lfts 1) (a : Dens κs refusal-kinds.ps) (x y : (res_t refusal-kinds.r κs).Denot) (s t : AtExit (ended_of 1 refusal-kinds.ps refusal-kinds.r) κs)
    → refusal-reads.Post κs a x s → refusal-reads.Post κs a y t → (x ≡ y) × (s.1.0.now ≡ t.1.0.now)
one_refusal_line κs a x y s t p q = (p.0 ∙ sym q.0, p.1 ∙ sym q.1)

pub one_decision_line : (κs : Lfts 2) (a : Dens κs decision-kinds.ps) (x y : (res_t decision-kinds.r κs).Denot) (s t : AtExit (ended_of 2 decision-kinds.ps decision-kinds.r) κs)
    → decision-reads.Post κs a x s → decision-reads.Post κs a y t → (x ≡ y) × (s.1.1.1.0.now ≡ t.1.1.1.0.now)
one_decision_line κs a x y s t p q = (p.0 ∙ sym q.0, p.1 ∙ sym q.1)
