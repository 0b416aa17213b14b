-- No second answer: of one call, two results that the contract allows are the same. `Post` is what Rattle reads off the source's `ensures`, so each claim
-- is about the contract itself. Assumes nothing.
use mathlib.Core.Path.{◌≡◌, sym, ◌∙◌}
use contract.Lifetimes.{Lfts}
use borrow.Fn.Kinds.{Dens, res_t, ended_of}
use denote.Triple.Clauses.{AtExit}
use Rattle.judge.proofs.judge_book.Kinds as book-kinds
use Rattle.judge.proofs.judge_book.Reads as book-reads
use Rattle.judge.proofs.judge_request.Kinds as request-kinds
use Rattle.judge.proofs.judge_request.Reads as request-reads

pub one_book : (κs : Lfts 1) (a : Dens κs book-kinds.ps) (x y : (res_t book-kinds.r κs).Denot) (s t : AtExit (ended_of 1 book-kinds.ps book-kinds.r) κs)
    → book-reads.Post κs a x s → book-reads.Post κs a y t → x ≡ y
one_book κs a x y s t p q = p ∙ sym q

pub one_request : (κs : Lfts 1) (a : Dens κs request-kinds.ps) (x y : (res_t request-kinds.r κs).Denot) (s t : AtExit (ended_of 1 request-kinds.ps request-kinds.r) κs)
    → request-reads.Post κs a x s → request-reads.Post κs a y t → x ≡ y
one_request κs a x y s t p q = p ∙ sym q
