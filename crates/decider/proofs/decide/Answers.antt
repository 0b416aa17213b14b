use Rattle.std.specs.Prelude.{Err}
use mathlib.Core.Path.{◌≡◌}
use Rattle.std.proofs.lemmas.Grind.{common_steps}
use native.Mathlib.Omega.{arith}
use Rattle.decider.proofs.Whole.{refused_book, refused_request, refused_room, decided, accepted_has}
use Rattle.decider.proofs.decide.Goals as goal

pub returns-then-out-accepted : goal.returns-then-out-accepted
returns-then-out-accepted c =
    refused_room _ _ _ c.judge_book.ensures c.in_ok-accepted.was c.judge_request.ensures c.in_ok-judge_request.was c.if-out-accepted.true

pub answer-requires : goal.answer-requires
answer-requires c =
    let w = accepted_has _ c.judge_book.ensures c.in_ok-accepted.was in
    (w.0, w.1, omega (arith, w.2, c.if-out-accepted.false), w.3)

pub returns-in_err-accepted : goal.returns-in_err-accepted
returns-in_err-accepted c =
    let e : c.from_residual.result ≡ Err c.in_err-accepted.field-0.0 = grind (arith, common_steps) in
    rw e (refused_book c.args.book.now c.args.request.now c.args.out.now c.judge_book.ensures c.in_err-accepted.was)

pub returns-in_err-judge_request : goal.returns-in_err-judge_request
returns-in_err-judge_request c =
    let e : c.from_residual-in_err-judge_request.result ≡ Err c.in_err-judge_request.field-0.0 = grind (arith, common_steps) in
    rw e (refused_request c.args.book.now c.args.request.now c.args.out.now c.judge_book.ensures c.in_ok-accepted.was c.judge_request.ensures c.in_err-judge_request.was)

pub returns : goal.returns
returns c =
    decided _ _ _ c.judge_book.ensures c.in_ok-accepted.was c.judge_request.ensures c.in_ok-judge_request.was c.if-out-accepted.false c.answer.ensures
