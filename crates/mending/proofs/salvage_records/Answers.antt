use mathlib.Core.Path.{refl}
use native.Mathlib.Omega.{arith}
use Rattle.mending.proofs.Answering.{answer_not_set, answer_spoilt, answer_short, answer_few, answer_done}
use Rattle.mending.proofs.salvage_records.Goals as goal

pub returns-then-not-is_set : goal.returns-then-not-is_set
returns-then-not-is_set c = answer_not_set _ _ _ _ c.is_set.ensures c.if-not-is_set.true

pub returns-in-Some : goal.returns-in-Some
returns-in-Some c =
    let f = c.in-Some.ensures in
    answer_spoilt _ _ _ _ c.is_set.ensures c.if-not-is_set.false c.requires.0 c.byte-category.ensures.0 f.0 f.1

pub returns-then-out-book : goal.returns-then-out-book
returns-then-out-book c =
    answer_short _ _ _ _ c.is_set.ensures c.if-not-is_set.false c.requires.0 c.byte-category.ensures.0 refl (omega (arith, c.in_default.ensures))
    c.requires.2 c.if-out-book.true

pub returns-then-replaced-n : goal.returns-then-replaced-n
returns-then-replaced-n c =
    answer_few _ _ _ _ c.is_set.ensures c.if-not-is_set.false c.requires.0 c.byte-category.ensures.0 refl (omega (arith, c.in_default.ensures))
    c.requires.2 c.if-out-book.false c.if-replaced-n.true

pub returns : goal.returns
returns c =
    let z = c.mend-done.ensures in
    answer_done _ _ _ _ (record { bytes = c.requires.2; some = c.requires.0; most = c.requires.1 }) c.is_set.ensures c.if-not-is_set.false
    c.byte-category.ensures.0 refl (omega (arith, c.in_default.ensures)) c.if-out-book.false c.if-replaced-n.false
    c.copy.ensures z.0 z.1 z.2 z.3 z.4 z.5 c.put_pair.ensures
