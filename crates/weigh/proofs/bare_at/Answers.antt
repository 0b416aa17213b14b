use Rattle.record.proofs.Laws.{big_four_at}
use native.Mathlib.Omega.{arith}
use Rattle.weigh.proofs.bare_at.Goals as goal

pub returns-then-byte-lt128 : goal.returns-then-byte-lt128
returns-then-byte-lt128 c =
    let a = c.args in
    omega (arith, big_four_at a.book.now a.i, c.big4-word.ensures, c.byte.ensures.0)

pub overflow_sub-result : goal.overflow_sub-result
overflow_sub-result c =
    let a = c.args in
    omega (arith, big_four_at a.book.now a.i, c.big4-word.ensures, c.byte.ensures.0)

pub returns-else-byte-lt128 : goal.returns-else-byte-lt128
returns-else-byte-lt128 c =
    let a = c.args in
    omega (arith, big_four_at a.book.now a.i, c.big4-word.ensures, c.byte.ensures.0)
