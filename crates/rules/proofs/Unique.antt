-- No second answer: of one call, two results that the contract allows are the same. `Post` is what Rattle reads off the source's `ensures`, so each
-- claim is about the contract itself. Assumes nothing.
use mathlib.Core.Path.{◌≡◌, sym, ◌∙◌}
use contract.Lifetimes.{Lfts}
use borrow.Fn.Kinds.{Dens, res_t, ended_of}
use denote.Triple.Clauses.{AtExit}
use Rattle.rules.proofs.match_at.Kinds as match-kinds
use Rattle.rules.proofs.match_at.Reads as match-reads
use Rattle.rules.proofs.comparison_at.Kinds as comparison-kinds
use Rattle.rules.proofs.comparison_at.Reads as comparison-reads
use Rattle.rules.proofs.target.Kinds as target-kinds
use Rattle.rules.proofs.target.Reads as target-reads
use Rattle.rules.proofs.condition.Kinds as condition-kinds
use Rattle.rules.proofs.condition.Reads as condition-reads
use Rattle.rules.proofs.rules.Kinds as rules-kinds
use Rattle.rules.proofs.rules.Reads as rules-reads

pub one_match_at : (κs : Lfts 1) (a : Dens κs match-kinds.ps) (x y : (res_t match-kinds.r κs).Denot) (s t : AtExit (ended_of 1 match-kinds.ps match-kinds.r) κs)
    → match-reads.Post κs a x s → match-reads.Post κs a y t → x ≡ y
one_match_at κs a x y s t p q = p ∙ sym q

pub one_comparison_at : (κs : Lfts 1) (a : Dens κs comparison-kinds.ps) (x y : (res_t comparison-kinds.r κs).Denot) (s t : AtExit (ended_of 1 comparison-kinds.ps comparison-kinds.r) κs)
    → comparison-reads.Post κs a x s → comparison-reads.Post κs a y t → x ≡ y
one_comparison_at κs a x y s t p q = p ∙ sym q

pub one_target : (κs : Lfts 2) (a : Dens κs target-kinds.ps) (x y : (res_t target-kinds.r κs).Denot) (s t : AtExit (ended_of 2 target-kinds.ps target-kinds.r) κs)
    → target-reads.Post κs a x s → target-reads.Post κs a y t → x ≡ y
one_target κs a x y s t p q = p ∙ sym q

pub one_condition : (κs : Lfts 2) (a : Dens κs condition-kinds.ps) (x y : (res_t condition-kinds.r κs).Denot) (s t : AtExit (ended_of 2 condition-kinds.ps condition-kinds.r) κs)
    → condition-reads.Post κs a x s → condition-reads.Post κs a y t → x ≡ y
one_condition κs a x y s t p q = p ∙ sym q

pub one_verdict : (κs : Lfts 2) (a : Dens κs rules-kinds.ps) (x y : (res_t rules-kinds.r κs).Denot) (s t : AtExit (ended_of 2 rules-kinds.ps rules-kinds.r) κs)
    → rules-reads.Post κs a x s → rules-reads.Post κs a y t → x ≡ y
one_verdict κs a x y s t p q = p ∙ sym q
