use mathlib.Core.Path.{refl, ap, ◌∙◌}
use Rattle.meaning.specs.Reading.{bags_of}
use Rattle.layout.specs.Layout.{unpack_of}
use Rattle.layout.specs.declared.State.{State}
use borrow.Author.Tests.{not-true, not-false}
use Rattle.run.proofs.Laws.{admit_parts, tick_request, tick_short, tick_refused, tick_ran, tick_bad, tick_running, tick_finished, count_small, ran_bad, ran_well}
use Rattle.run.proofs.tick.Goals as goal
use Rattle.run.proofs.tick.Goals.{then-h, else-h}

pub returns-in-Err : goal.returns-in-Err
returns-in-Err c = tick_request _ _ _ _ _ _ c.judge_request.ensures _ _ c.in-Err.is c.refused.ensures

pub returns-then-out-lt-PLACES : goal.returns-then-out-lt-PLACES
returns-then-out-lt-PLACES c = tick_short _ _ _ _ _ _ c.judge_request.ensures _ c.in_default.is _ c.if-out-lt-PLACES.true c.refused-then-out-lt-PLACES.ensures

pub returns-then-not-admits : goal.returns-then-not-admits
returns-then-not-admits c = tick_refused _ _ _ _ _ _ c.judge_request.ensures _ c.in_default.is c.if-out-lt-PLACES.false _ c.admits.ensures _ (not-true _ c.if-not-admits.true-raw) c.refused-then-not-admits.ensures

pub run-requires : goal.run-requires
run-requires c = admit_parts _ _ _ c.admits.ensures (not-false _ c.if-not-admits.false-raw)

pub returns-in_default-run : goal.returns-in_default-run
returns-in_default-run c =
    let ran = tick_ran _ _ _ _ c.args.out.now _ c.judge_request.ensures _ c.in_default.is c.if-out-lt-PLACES.false
    _ c.admits.ensures _ (not-false _ c.if-not-admits.false-raw) refl in
    tick_bad _ _ _ _ _ _ ran _ (ran_bad _ c.run.ensures c.in_default-run.is) c.refused-in_default-run.ensures

pub fill-requires : goal.fill-requires
fill-requires c =
    let a = c.args in (
      count_small a.programme.now (bags_of a.request.now) a.budget a.state _ _ _ _ c.admits.ensures (not-false _ c.if-not-admits.false-raw) refl
          (c.unpack-h.ensures ∙ ap (λ (s : State). unpack_of s.head) c.run.ensures.1) c.count.ensures,
      c.if-out-lt-PLACES.false,
    )

pub returns : goal.returns
returns c =
    let ran = tick_ran _ _ _ _ c.args.out.now _ c.judge_request.ensures _ c.in_default.is c.if-out-lt-PLACES.false
    _ c.admits.ensures _ (not-false _ c.if-not-admits.false-raw) refl in
    let well = ran_well _ c.run.ensures c.in-Some.is in
    elim c.if-h.branch [
      | then-h w ↦
          tick_finished _ _ _ _ _ _ ran well.0 well.1 c.run.ensures.1 _ c.unpack-h.ensures _ c.answer.ensures _ _
          w.count.ensures w.if-h.true (w.out-is ∙ w.fill.ensures)
      | else-h w ↦ tick_running _ _ _ _ _ _ ran well.0 well.1 c.run.ensures.1 _ c.unpack-h.ensures _ c.answer.ensures _ w.if-h.false w.out-is
    ]
