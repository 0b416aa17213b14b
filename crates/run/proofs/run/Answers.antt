use mathlib.Core.Path.{refl, sym, subst}
use native.Mathlib.Omega.{arith}
use borrow.Author.Tests.{not-true, not-false}
use Rattle.std.specs.Prelude.{true, false}
use Rattle.layout.specs.Ranges.{Ranged}
use Rattle.layout.specs.declared.Head.{Head}
use Rattle.layout.proofs.Coding.{ranged}
use Rattle.run.proofs.Laws.{run_start, run_over, run_bad, run_more, run_out, apart_on, number_from, run_ended}
use Rattle.run.proofs.run.Goals as goal
use Rattle.run.proofs.run.Goals.{then-loop-steps-test+else-not-h, else-loop-steps-test}

pub loop-steps-init : goal.loop-steps-init
loop-steps-init c = (subst (λ (x : Head). Ranged x) (sym c.unpack-h.ensures) (ranged _ c.requires.1), c.unpack-h.ensures, omega arith, refl, run_start _ _ _ _)

pub returns-in_default : goal.returns-in_default
returns-in_default c =
    let v = c.loop-steps.invariant in
    let went = rw c.in_default.is at c.step_in.ensures in
    let n = number_from c.loop-steps.steps c.loop-steps.h c.number-state.ensures v.3 in
    run_ended _ false (run_bad _ _ _ _ _ _ _ v.0 v.1 _ _ _ c.loop-steps-test.true v.4 (not-true _ c.if-not-h.true) _ _ _ _ _ went.0 went.1 refl _ n)

pub loop-steps-preserved : goal.loop-steps-preserved
loop-steps-preserved c =
    let v = c.loop-steps.invariant in
    let went = rw c.in-Some.is at c.step_in.ensures in (
      went.2,
      apart_on c.loop-steps.steps c.args.state.now.head _ went.2,
      omega arith,
      v.3,
      run_more _ _ _ _ _ _ _ v.0 v.1 _ _ _ c.loop-steps-test.true v.4 (not-true _ c.if-not-h.true) _ _ _ _ _ went.0 went.1 _ refl,
    )

pub returns : goal.returns
returns c =
    let v = c.loop-steps.invariant in
    let n = number_from c.loop-steps.steps c.loop-steps.h c.number-state-2.ensures v.3 in
    elim c.loop-steps-test.branch [
      | then-loop-steps-test+else-not-h w ↦
          run_ended _ true (run_over _ _ _ _ _ _ _ v.0 v.1 _ _ _ w.loop-steps-test.true v.4 (not-false _ w.if-not-h.false) _ n)
      | else-loop-steps-test w ↦ run_ended _ true (run_out _ _ _ _ _ _ _ _ _ _ w.loop-steps-test.false v.4 n)
    ]
