use mathlib.Core.Path.{◌≡◌, refl, sym, ◌∙◌}
use native.Mathlib.Omega.{arith}
use Rattle.std.proofs.Common.{rules}
use Rattle.record.proofs.Steps.{step, left_none}
use Rattle.spoilt.proofs.Walk.{passed, bounds, first_end, first_here, first_over, first_in, first_on, none_first}
use Prim.Native.Nat.{◌+◌, ◌-◌}
use Rattle.spoilt.specs.Places.{of_parent, first_at}
use Rattle.spoilt.proofs.+first_line.Goals.{else-not-passes-via-else-not-passes, else-not-passes-via-then-not-passes+in-None-1}
use Rattle.spoilt.proofs.+first_line.Goals as goal

pub returns-then-not-line_ok : goal.returns-then-not-line_ok
returns-then-not-line_ok t c =
    let z = step c.loop-i.invariant.4 c.in-Some.ensures.steps in
    let e = first_here c.args.replaces _ _ _ _ _ _ _ _ z.inside (rw c.if-not-line_ok.true at c.line_ok.ensures) in
    (sym (c.loop-i.invariant.3 ∙ rw z.place e), z.inside)

pub first_line-requires : goal.first_line-requires
first_line-requires t c =
    let z = step c.loop-i.invariant.4 c.in-Some.ensures.steps in
    let y = bounds _ (passed z.inside c.line_ok.ensures c.if-not-line_ok.false c.kind_at-k.ensures c.byte-c.ensures.0 z.span refl) in
    rw c.below.ensures (omega (arith, y, z.place), (omega (arith, y), omega (arith, y), omega (arith, y), omega arith))

pub returns-in-loop-i : goal.returns-in-loop-i
returns-in-loop-i t c =
    let z = step c.loop-i.invariant.4 c.in-Some.ensures.steps in
    let h = passed z.inside c.line_ok.ensures c.if-not-line_ok.false c.kind_at-k.ensures c.byte-c.ensures.0 z.span refl in
    let y = bounds _ h in
    let f = c.in-Some-first_line.ensures in
    let e = first_in _ h (rw c.below.ensures at f.0) c.args.replaces (sym c.if-not-passes.ensures) f.1 in
    (sym (c.loop-i.invariant.3 ∙ rw z.place e), omega (arith, f.1, y))

pub loop-i-preserved : goal.loop-i-preserved
loop-i-preserved t c =
    let z = step c.loop-i.invariant.4 c.in-Some.ensures.steps in
    let h = passed z.inside c.line_ok.ensures c.if-not-line_ok.false c.kind_at-k.ensures c.byte-c.ensures.0 z.span c.rank-rank.ensures.0 in
    let y = bounds _ h in
    let on : first_at c.args.replaces (of_parent c.args.up) c.loop-i.rank c.args.book.now c.in-Some.i (c.args.top - c.in-Some.i)
    ≡ first_at c.args.replaces (of_parent c.args.up) c.rank-rank.result c.args.book.now (c.in-Some.i + c.in-Some.s) (c.args.top - (c.in-Some.i + c.in-Some.s)) =
    elim c.else-not-passes.branch [
      | else-not-passes-via-else-not-passes w ↦ first_over _ h c.args.replaces (sym w.if-not-passes.ensures)
      | else-not-passes-via-then-not-passes+in-None-1 w ↦ first_on _ h refl c.args.replaces (none_first _ (rw w.below.ensures at w.first_line.ensures) (search rules))
    ] in
    (omega (arith, z.next, y), omega (arith, z.next, z.place), c.rank-rank.ensures.1, c.loop-i.invariant.3 ∙ rw (z.place, z.next) on, z.left)

pub returns : goal.returns
returns t c =
    let l = left_none c.loop-i.invariant.4 c.in-None.ensures.steps in
    let e : c.loop-i.i-iterator.at ≡ c.args.top = omega (arith, l, c.loop-i.invariant.0) in
    c.loop-i.invariant.3 ∙ first_end c.args.replaces _ _ _ _ _ l ∙ e
