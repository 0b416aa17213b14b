use Rattle.weigh.proofs.Laws.{second_behind, compared_is}
use native.Mathlib.Omega.{arith}
use Rattle.weigh.proofs.compared.Goals as goal

pub worth_at-a-requires : goal.worth_at-a-requires
worth_at-a-requires c = let r = c.requires in (second_behind _ _ _ r.2 r.3, omega arith)

pub type_at-requires : goal.type_at-requires
type_at-requires c = let r = c.requires in let p = second_behind _ _ _ r.2 r.3 in omega arith

pub returns : goal.returns
returns c =
    let r = c.requires in
    compared_is _ _ _ _ r.0 r.2 r.3 c.byte.ensures.0 c.function_of-f.ensures c.span_in.ensures.0 c.worth_at-a.ensures c.worth_at-b.ensures c.type_at.ensures.0 c.weighed.ensures
