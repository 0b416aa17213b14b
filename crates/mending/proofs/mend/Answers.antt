use mathlib.Core.Path.{refl, ◌∙◌}
use native.Mathlib.Omega.{arith}
use Rattle.record.proofs.Steps.{left_none}
use Rattle.spoilt.proofs.Walk.{is_first, no_first}
use Rattle.mending.proofs.Mending.{turn, two_at_least, mending_new, mending_same, mending_last}
use Rattle.mending.proofs.mend.Goals as goal

pub put_denial-requires : goal.put_denial-requires
put_denial-requires c =
    let z = turn c.loop-i.invariant.5 c.loop-i.invariant.6 c.in-Some.ensures.steps in
    let f = rw (c.below.ensures, c.root-set.ensures) at c.first_bad-bad.ensures in
    let t = two_at_least z.mending z.inside c.kind_at-kind.ensures refl c.byte-c.ensures.0 z.span refl (is_first _ f c.if-is_some.ensures) in
    omega (arith, z.within, z.place, t, c.loop-i.invariant.1, c.loop-i.invariant.3, c.requires.3)

pub loop-i-preserved-then-is_some : goal.loop-i-preserved-then-is_some
loop-i-preserved-then-is_some c =
    let z = turn c.loop-i.invariant.5 c.loop-i.invariant.6 c.in-Some.ensures.steps in
    let f = rw (c.below.ensures, c.root-set.ensures) at c.first_bad-bad.ensures in
    let y = is_first _ f c.if-is_some.ensures in
    let t = two_at_least z.mending z.inside c.kind_at-kind.ensures refl c.byte-c.ensures.0 z.span refl y in (
      omega (arith, z.within, z.next),
      omega (arith, z.place, z.next, t, c.loop-i.invariant.1),
      omega (arith, z.place, z.next, t, c.loop-i.invariant.2),
      c.put_denial.auto.out ∙ c.loop-i.invariant.3,
      c.put_replacement.auto.replaced ∙ c.loop-i.invariant.4,
      rw z.next (mending_new z.mending z.inside c.kind_at-kind.ensures refl c.byte-c.ensures.0 z.span refl y c.put_denial.ensures c.put_replacement.ensures),
      z.left,
    )

pub loop-i-preserved : goal.loop-i-preserved
loop-i-preserved c =
    let z = turn c.loop-i.invariant.5 c.loop-i.invariant.6 c.in-Some.ensures.steps in
    let f = rw (c.below.ensures, c.root-set.ensures) at c.first_bad-bad.ensures in
    let y = no_first _ f c.if-is_some.ensures in (
      omega (arith, z.within, z.next),
      omega (arith, z.place, z.next, c.loop-i.invariant.1),
      omega (arith, z.place, z.next, c.loop-i.invariant.2),
      c.copy.auto.out ∙ c.loop-i.invariant.3,
      c.loop-i.invariant.4,
      rw z.next (mending_same z.mending z.inside c.kind_at-kind.ensures refl c.byte-c.ensures.0 z.span refl c.requires.0 y refl c.copy.ensures),
      z.left,
    )

pub returns : goal.returns
returns c =
    let z = mending_last c.loop-i.invariant.5 (left_none c.loop-i.invariant.6 c.in-None.ensures.steps) in
    (z.0, z.1, z.2, z.3, omega arith, omega arith)
