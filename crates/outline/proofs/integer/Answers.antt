use native.Mathlib.Omega.{arith}
use Rattle.outline.proofs.Laws.{then, as_is, integer_pos, integer_neg}
use Rattle.outline.proofs.integer.Goals as goal

pub returns-then-n-lt-SIGN : goal.returns-then-n-lt-SIGN
returns-then-n-lt-SIGN c = as_is (integer_pos _ c.if-n-lt-SIGN.true) c.decimal.ensures

pub returns : goal.returns
returns c =
    as_is (integer_neg _ c.if-n-lt-SIGN.false (omega (arith, c.if-n-lt-SIGN.false))) (then c.put-at.ensures c.decimal-2.ensures)
