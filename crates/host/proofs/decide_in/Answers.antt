use native.Mathlib.Omega.{arith}
use mathlib.Core.Path.{sym, ◌∙◌}
use Rattle.host.proofs.Laws.{host_refused, host_fits, host_decided}
use Rattle.decider.proofs.Whole.{refused_line}
use Rattle.host.proofs.decide_in.Goals as goal

pub refusal_number-requires : goal.refusal_number-requires
refusal_number-requires c = refused_line _ _ _ (sym c.decide.ensures.0 ∙ c.in-Err.is)

pub put_pairs-requires : goal.put_pairs-requires
put_pairs-requires c = let w = host_fits c.args.book.now c.args.request.now c.args.places.now c.args.out.now c.requires c.decide.ensures.0 c.in-Ok.is c.decide.ensures.1 c.decide.auto.out in (w.0, w.1)

pub overflow_mul-ruling : goal.overflow_mul-ruling
overflow_mul-ruling c = omega (arith, (host_fits c.args.book.now c.args.request.now c.args.places.now c.args.out.now c.requires c.decide.ensures.0 c.in-Ok.is c.decide.ensures.1 c.decide.auto.out).2)

pub clear-requires : goal.clear-requires
clear-requires c =
    omega (arith, (host_fits c.args.book.now c.args.request.now c.args.places.now c.args.out.now c.requires c.decide.ensures.0 c.in-Ok.is c.decide.ensures.1 c.decide.auto.out).1, c.put_pairs.auto.out)

pub decided-requires : goal.decided-requires
decided-requires c =
    (host_fits c.args.book.now c.args.request.now c.args.places.now c.args.out.now c.requires c.decide.ensures.0 c.in-Ok.is c.decide.ensures.1 c.decide.auto.out).2

pub returns-in-Err : goal.returns-in-Err
returns-in-Err c =
    let a = c.args in
    host_refused a.book.now a.request.now a.places.now a.out.now c.requires c.decide.ensures.0 c.in-Err.is c.refusal_number.ensures

pub returns-in-Ok : goal.returns-in-Ok
returns-in-Ok c =
    let a = c.args in
    host_decided a.book.now a.request.now a.places.now a.out.now c.requires c.decide.ensures.0 c.in-Ok.is c.decide.ensures.1 c.decide.auto.out
    c.put_pairs.ensures c.put_pairs.auto.out c.clear.ensures c.decided.ensures
