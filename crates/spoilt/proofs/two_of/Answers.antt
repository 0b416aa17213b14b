use Rattle.record.proofs.Steps.{left_first, left_none, left_is, left_next, left_some, left_end}
use Rattle.spoilt.proofs.Lines.{two_none, two_one, two_more, two_other, two_same}
use Rattle.spoilt.proofs.two_of.Goals as goal

pub returns-in_default : goal.returns-in_default
returns-in_default c =
    two_none _ _ _ _ (left_none (left_first c.new-values.result c.new-values.ensures.book c.new-values.ensures.at c.new-values.ensures.left) c.in_default.ensures.steps)

pub returns-in_default-next : goal.returns-in_default-next
returns-in_default-next c =
    let l = left_first c.new-values.result c.new-values.ensures.book c.new-values.ensures.at c.new-values.ensures.left in
    let x = left_is l c.in-Some.ensures.steps in
    two_one _ _ _ _ x.2 x.1 (left_none (left_next l c.in-Some.ensures.steps) c.in_default-next.ensures.steps)

pub returns-then-is_some : goal.returns-then-is_some
returns-then-is_some c =
    let l = left_first c.new-values.result c.new-values.ensures.book c.new-values.ensures.at c.new-values.ensures.left in
    let x = left_is l c.in-Some.ensures.steps in
    let m = left_next l c.in-Some.ensures.steps in
    let y = left_is m c.in-Some-next.ensures.steps in
    let n = left_next m c.in-Some-next.ensures.steps in
    two_more _ _ _ _ x.2 x.1 y.2 y.1 (left_some _ _ _ n c.next-3.ensures.steps c.if-is_some.ensures)

pub returns-then-value_type-t : goal.returns-then-value_type-t
returns-then-value_type-t c =
    let l = left_first c.new-values.result c.new-values.ensures.book c.new-values.ensures.at c.new-values.ensures.left in
    let x = left_is l c.in-Some.ensures.steps in
    let m = left_next l c.in-Some.ensures.steps in
    let y = left_is m c.in-Some-next.ensures.steps in
    let n = left_next m c.in-Some-next.ensures.steps in
    two_same _ _ _ _ x.2 x.1 y.2 y.1 (left_end _ _ _ n c.next-3.ensures.steps c.if-is_some.ensures) x.0 c.value_type.ensures c.if-value_type-t.true
    y.0 c.value_type-then-value_type-t.ensures

pub returns-else-value_type-t : goal.returns-else-value_type-t
returns-else-value_type-t c =
    let l = left_first c.new-values.result c.new-values.ensures.book c.new-values.ensures.at c.new-values.ensures.left in
    let x = left_is l c.in-Some.ensures.steps in
    let m = left_next l c.in-Some.ensures.steps in
    let y = left_is m c.in-Some-next.ensures.steps in
    let n = left_next m c.in-Some-next.ensures.steps in
    two_other _ _ _ _ x.2 x.1 y.2 y.1 (left_end _ _ _ n c.next-3.ensures.steps c.if-is_some.ensures) x.0 c.value_type.ensures c.if-value_type-t.false
