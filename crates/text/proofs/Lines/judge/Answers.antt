use native.Mathlib.Omega.{arith}
use mathlib.Core.Path.{◌≡◌, refl, sym, ◌∙◌}
use Prim.Native.Nat.{◌-◌, ◌+◌}
use native.Mathlib.Nat.{sub-zero, sub_self}
use Rattle.text.specs.Text.{start}
use Rattle.text.proofs.Widths.{start_first, start_more}
use Rattle.text.proofs.Lined.{judge_end, judge_over, judge_wrong, judge_more, good_within}
use Rattle.text.proofs.Lines.judge.Goals as goal

pub loop-n-init : goal.loop-n-init
loop-n-init c = (start_first _ _, rw (sub-zero, c.args.self.fixed.0))

pub overflow_mul-line-in-loop-n : goal.overflow_mul-line-in-loop-n
unfolding start
overflow_mul-line-in-loop-n c = omega (arith, c.loop-n.invariant.0)

pub returns-then-self-line : goal.returns-then-self-line
unfolding start
returns-then-self-line c = sym (c.loop-n.invariant.1 ∙ judge_end _ _ _ _ refl c.if-self-line.true)

pub returns-then-not-good_line : goal.returns-then-not-good_line
unfolding start
returns-then-not-good_line c =
    let most = c.args.most in
    let n = c.loop-n.n in
    sym (c.loop-n.invariant.1 ∙ judge_wrong _ _ (most - n) (most - (n + 1)) n (omega arith) refl (omega arith) (sym c.if-not-good_line.ensures))

pub loop-n-preserved : goal.loop-n-preserved
unfolding start
loop-n-preserved c =
    let a = c.args in
    let g = sym c.if-not-good_line.ensures in (
      omega (arith, start_more a.self.w c.loop-n.n, good_within _ _ _ g),
      c.loop-n.invariant.1 ∙ judge_more _ _ (a.most - c.loop-n.n) (a.most - (c.loop-n.n + 1)) c.loop-n.n (omega arith) refl (omega arith) g,
    )

pub overflow_mul-line-2 : goal.overflow_mul-line-2
unfolding start
overflow_mul-line-2 c = let e : c.args.most ≡ c.loop-n.n = omega arith in rw e (omega (arith, c.loop-n.invariant.0))

pub returns-then-self-line-2 : goal.returns-then-self-line-2
unfolding start
returns-then-self-line-2 c =
    let e : c.loop-n.n ≡ c.args.most = omega arith in
    sym (rw e at c.loop-n.invariant.1 ∙ judge_end _ _ _ _ refl c.if-self-line-2.true)

pub returns-else-self-line-2 : goal.returns-else-self-line-2
unfolding start
returns-else-self-line-2 c =
    let e : c.loop-n.n ≡ c.args.most = omega arith in
    sym (rw (e, sub_self) at c.loop-n.invariant.1 ∙ judge_over _ _ c.args.most refl (omega arith))
