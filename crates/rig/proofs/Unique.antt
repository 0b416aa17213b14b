-- No second answer: of one call, two numbers that the contract allows, with what they leave in the lent buffers, are the same. `Post` is what Rattle reads
-- off the source's `ensures`, so each claim is about the contract itself. Assumes nothing.
use mathlib.Core.Path.{◌≡◌, sym, ap, ◌∙◌}
use contract.Lifetimes.{Lfts}
use borrow.Fn.Kinds.{Dens, res_t, ended_of}
use denote.Triple.Clauses.{AtExit}
use Rattle.rig.specs.Rig.{Call}
use Rattle.rig.proofs.bachumoi_translate.Kinds as translate-kinds
use Rattle.rig.proofs.bachumoi_translate.Reads as translate-reads
use Rattle.rig.proofs.bachumoi_fresh.Kinds as fresh-kinds
use Rattle.rig.proofs.bachumoi_fresh.Reads as fresh-reads
use Rattle.rig.proofs.bachumoi_tick.Kinds as tick-kinds
use Rattle.rig.proofs.bachumoi_tick.Reads as tick-reads

pub one_translation : (κs : Lfts 2) (a : Dens κs translate-kinds.ps) (x y : (res_t translate-kinds.r κs).Denot) (s t : AtExit (ended_of 2 translate-kinds.ps translate-kinds.r) κs)
    → translate-reads.Post κs a x s → translate-reads.Post κs a y t → (x ≡ y) × (s.1.0.now ≡ t.1.0.now)
one_translation κs a x y s t p q = (p.0 ∙ sym q.0, p.1 ∙ sym q.1)

pub one_fresh : (κs : Lfts 2) (a : Dens κs fresh-kinds.ps) (x y : (res_t fresh-kinds.r κs).Denot) (s t : AtExit (ended_of 2 fresh-kinds.ps fresh-kinds.r) κs)
    → fresh-reads.Post κs a x s → fresh-reads.Post κs a y t → (x ≡ y) × (s.0.now ≡ t.0.now) × (s.1.0.now ≡ t.1.0.now)
one_fresh κs a x y s t p q =
    let e = p ∙ sym q in
    (ap (λ (c : Call). c.number) e, ap (λ (c : Call). c.numbers) e, ap (λ (c : Call). c.places) e)

pub one_tick : (κs : Lfts 5) (a : Dens κs tick-kinds.ps) (x y : (res_t tick-kinds.r κs).Denot) (s t : AtExit (ended_of 5 tick-kinds.ps tick-kinds.r) κs)
    → tick-reads.Post κs a x s → tick-reads.Post κs a y t
    → (x ≡ y) × (s.1.1.0.now ≡ t.1.1.0.now) × (s.1.1.1.0.now ≡ t.1.1.1.0.now) × (s.1.1.1.1.1.0.now ≡ t.1.1.1.1.1.0.now)
one_tick κs a x y s t p q =
    let e = p.0 ∙ sym q.0 in
    (ap (λ (c : Call). c.number) e, ap (λ (c : Call). c.numbers) e, ap (λ (c : Call). c.places) e, p.1 ∙ sym q.1)
