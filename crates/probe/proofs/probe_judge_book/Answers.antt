use native.Mathlib.Omega.{arith}
use Rattle.probe.proofs.Judgements.{counts_fit, line_fits}
use Rattle.probe.proofs.probe_judge_book.Goals as goal

pub overflow_mul-result : goal.overflow_mul-result
overflow_mul-result c = omega (arith, counts_fit _ c.judge_book.ensures c.in-Ok.is)

pub overflow_mul-result-in-Ok : goal.overflow_mul-result-in-Ok
overflow_mul-result-in-Ok c = omega (arith, counts_fit _ c.judge_book.ensures c.in-Ok.is)

pub overflow_add-result : goal.overflow_add-result
overflow_add-result c = omega (arith, counts_fit _ c.judge_book.ensures c.in-Ok.is)

pub refusal_number-requires : goal.refusal_number-requires
refusal_number-requires c = line_fits _ c.judge_book.ensures c.in-Err.is
