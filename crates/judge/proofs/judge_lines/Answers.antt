use Rattle.judge.proofs.Answers.{place_refused, accepts}
use mathlib.Core.Path.{refl}
use borrow.Author.Tests.{lt-ltb}
use Rattle.judge.specs.Judge.{judge_records}
use Rattle.judge.proofs.judge_lines.Goals as goal

pub returns-then-kept-n : goal.returns-then-kept-n
unfolding judge_records
returns-then-kept-n c = rw (← c.first_field-kept.ensures.0, lt-ltb _ _ c.if-kept-n.true)

pub returns-in-Some : goal.returns-in-Some
returns-in-Some c = place_refused _ c.first_field-kept.ensures.0 c.if-kept-n.false _ c.in-Some.ensures refl

pub returns : goal.returns
returns c = accepts _ c.first_field-kept.ensures.0 c.if-kept-n.false c.in_default.ensures c.first_field-kept.ensures.2
