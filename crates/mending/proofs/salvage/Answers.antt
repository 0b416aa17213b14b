use mathlib.Core.Path.{sym}
use native.Mathlib.Omega.{arith}
use borrow.Author.Tests.{eqb-true, eqb-false}
use Rattle.mending.proofs.Answering.{salvages_none, salvages_cut, salvages_many, salvages}
use Rattle.mending.proofs.salvage.Goals as goal

pub returns-then-is_empty : goal.returns-then-is_empty
returns-then-is_empty c = salvages_none _ _ _ (eqb-true _ 0 (sym c.if-is_empty.ensures))

pub returns-then-book-ne0 : goal.returns-then-book-ne0
returns-then-book-ne0 c = salvages_cut _ _ _ (eqb-false _ 0 (sym c.if-is_empty.ensures)) c.if-book-ne0.true

pub returns-then-book : goal.returns-then-book
returns-then-book c =
    salvages_many _ _ _ (eqb-false _ 0 (sym c.if-is_empty.ensures)) c.if-book-ne0.false (omega arith)

pub returns : goal.returns
returns c =
    salvages _ _ _ (eqb-false _ 0 (sym c.if-is_empty.ensures)) c.if-book-ne0.false (omega arith) c.salvage_records.ensures
