use Rattle.record.specs.Choose.{among}
use Rattle.outline.specs.Outline.{exponent_of}
use Rattle.outline.proofs.Laws.{whole_zero, whole_none, whole_at}
use mathlib.Core.Path.{◌≡◌}
use mathlib.Core.Bool.{true, false}
use borrow.Author.Rules.{rules}
use Rattle.outline.proofs.doubles.whole.Goals as goal

pub returns-then-n-eq0 : goal.returns-then-n-eq0
returns-then-n-eq0 c = whole_zero _ c.if-n-eq0.true

pub returns-then-not-contains : goal.returns-then-not-contains
returns-then-not-contains c =
    let e : among 1023 1075 (exponent_of c.args.n) ≡ false = rw (← c.exponent-e.ensures) (search rules) in
    whole_none _ c.if-n-eq0.false e

pub returns : goal.returns
returns c =
    let e : among 1023 1075 (exponent_of c.args.n) ≡ true = rw (← c.exponent-e.ensures) (search rules) in
    whole_at _ c.if-n-eq0.false e c.exponent-e.ensures c.fraction.ensures c.halved.ensures
