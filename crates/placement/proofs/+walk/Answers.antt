use Prim.Native.Nat.{◌+◌, ◌-◌}
use mathlib.Core.Path.{◌≡◌, refl, ◌∙◌}
use Rattle.record.proofs.Forests.{span_stated}
use Rattle.record.proofs.Steps.{left_none, step}
use Rattle.fields.proofs.First.{first_none}
use Rattle.placement.specs.Place.{place_ok}
use Rattle.placement.proofs.Laws.{ends_after, stop_here, passed, bounds, kids, stop_in, behind, found, found_none}
use native.Mathlib.Omega.{arith}
use Rattle.placement.proofs.+walk.Goals as goal

pub allowed-ok-requires : goal.allowed-ok-requires
allowed-ok-requires t c =
    let z = step c.loop-i.invariant.5 c.in-Some.ensures.steps in
    let w = rw z.place at c.loop-i.invariant.3 in
    let x = ends_after _ w z.inside c.kind_at-k.ensures c.byte-c.ensures.0 c.span.ensures.0 in
    (omega arith, x.0, x.1)

pub returns-in-Some-child_rule : goal.returns-in-Some-child_rule
returns-in-Some-child_rule t c =
    let z = step c.loop-i.invariant.5 c.in-Some.ensures.steps in
    let w = rw z.place at c.loop-i.invariant.3 in
    let first = rw z.place at c.loop-i.invariant.4 in
    let r = c.in-Some-child_rule.ensures in (
      found _ (stop_here _ w z.inside c.kind_at-k.ensures c.byte-c.ensures.0 c.span.ensures.0 c.stands.ensures c.allowed-ok.ensures r.0 r.1) first (omega (arith, w.after, z.inside)),
      omega (arith, w.after, z.inside),
    )

pub walk-requires : goal.walk-requires
walk-requires t c =
    let z = step c.loop-i.invariant.5 c.in-Some.ensures.steps in
    let w = rw z.place at c.loop-i.invariant.3 in
    let h = passed _ w z.inside c.kind_at-k.ensures c.byte-c.ensures.0 c.span.ensures.0 c.stands.ensures c.allowed-ok.ensures refl c.in_default.ensures in
    let y = bounds _ h in
    rw c.below.ensures (omega (arith, y, w.after, z.inside), (omega (arith, y), omega (arith, y), omega (arith, y), kids _ h refl))

pub returns-in-Some-walk : goal.returns-in-Some-walk
returns-in-Some-walk t c =
    let z = step c.loop-i.invariant.5 c.in-Some.ensures.steps in
    let w = rw z.place at c.loop-i.invariant.3 in
    let first = rw z.place at c.loop-i.invariant.4 in
    let h = passed _ w z.inside c.kind_at-k.ensures c.byte-c.ensures.0 c.span.ensures.0 c.stands.ensures c.allowed-ok.ensures refl c.in_default.ensures in
    let y = bounds _ h in
    let f = c.in-Some-walk.ensures in
    (found _ (stop_in _ h f.0 (omega (arith, f.1, y))) first (omega (arith, w.after, z.inside)), omega (arith, f.1, y, w.after))

pub loop-i-preserved-then-next-i : goal.loop-i-preserved-then-next-i
loop-i-preserved-then-next-i t c =
    let b = c.args.book.now in
    let i = c.in-Some.i in
    let z = step c.loop-i.invariant.5 c.in-Some.ensures.steps in
    let w = rw z.place at c.loop-i.invariant.3 in
    let first = rw z.place at c.loop-i.invariant.4 in
    let h = passed _ w z.inside c.kind_at-k.ensures c.byte-c.ensures.0 c.span.ensures.0 c.stands.ensures c.allowed-ok.ensures refl c.in_default.ensures in
    let y = bounds _ h in
    let leaf = c.if-next-i.true in
    let f = found_none b (first_none (place_ok b) (i + 1) (i + c.span.result - (i + 1)) (omega (arith, leaf))) (omega (arith, leaf)) in
    let e = c.span.ensures.0 in
    let s = span_stated b i (c.args.top - i) (w.spans i z.inside) (omega (arith, e, y)) in
    let next : c.next.new.self.at ≡ i + c.span.result = omega (arith, z.next, z.span, s, e) in
    let on = behind _ h f (omega (arith, leaf)) next c.rank-before.ensures.0 first in
    (on.0, on.1, c.rank-before.ensures.1, on.2, on.3, z.left)

pub loop-i-preserved : goal.loop-i-preserved
loop-i-preserved t c =
    let z = step c.loop-i.invariant.5 c.in-Some.ensures.steps in
    let w = rw z.place at c.loop-i.invariant.3 in
    let first = rw z.place at c.loop-i.invariant.4 in
    let h = passed _ w z.inside c.kind_at-k.ensures c.byte-c.ensures.0 c.span.ensures.0 c.stands.ensures c.allowed-ok.ensures refl c.in_default.ensures in
    let y = bounds _ h in
    let f = c.in_default-walk.ensures in
    let e = c.span.ensures.0 in
    let s = span_stated c.args.book.now c.in-Some.i (c.args.top - c.in-Some.i) (w.spans c.in-Some.i z.inside) (omega (arith, e, y)) in
    let next : c.next.new.self.at ≡ c.in-Some.i + c.span.result = omega (arith, z.next, z.span, s, e) in
    let on = behind _ h f (omega (arith, y)) next c.rank-before.ensures.0 first in
    (on.0, on.1, c.rank-before.ensures.1, on.2, on.3, z.left)

pub returns : goal.returns
returns t c =
    let l = left_none c.loop-i.invariant.5 c.in-None.ensures.steps in
    let at = c.loop-i.i-iterator.at in
    let e : at ≡ c.args.p + 1 + (c.args.top - (c.args.p + 1)) = omega (arith, l, c.loop-i.invariant.0, c.loop-i.invariant.1) in
    found_none _ (c.loop-i.invariant.4 ∙ first_none (place_ok c.args.book.now) at (c.args.top - at) (omega (arith, l)) ∙ e) refl
