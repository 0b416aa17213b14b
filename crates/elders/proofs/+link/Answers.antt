use native.Mathlib.Omega.{arith}
use Rattle.elders.proofs.Links.{linking_none, linking_begin, next_le, next_lt, linking_more, linking_end, first_le}
use Prim.Native.Nat.{◌+◌}
use lib.ListN.{set, length-set}
use Rattle.elders.proofs.+link.Goals as goal

pub returns-then-from-stop : goal.returns-then-from-stop
returns-then-from-stop t c = linking_none _ _ _ _ c.if-from-stop.true

pub loop-i-init : goal.loop-i-init
loop-i-init t c = linking_begin _ _ _ _ (omega (arith, c.if-from-stop.false, c.requires.0))

pub link-requires : goal.link-requires
link-requires t c =
    let f = first_le c.loop-i.invariant.row in let n = next_le c.loop-i.invariant c.loop-i-test.true c.span_in-s.ensures.0 in (
      omega (arith, f, n),
      (
        omega (arith, next_lt c.loop-i.invariant c.loop-i-test.true c.span_in-s.ensures.0),
        omega (arith, n, c.requires.1),
        omega (arith, n, c.requires.2),
        omega (arith, n, c.requires.3, c.loop-i.invariant.kept.long, length-set c.loop-i.elders c.loop-i.i c.narrow.result),
      ),
    )

pub loop-i-preserved-then-s-ne1 : goal.loop-i-preserved-then-s-ne1
loop-i-preserved-then-s-ne1 t c =
    linking_more c.loop-i.invariant c.loop-i-test.true c.span_in-s.ensures.0 c.narrow.ensures
    (omega (arith, c.loop-i.invariant.kept.long, c.loop-i-test.true, c.requires.3)) c.link.ensures.0 c.link.ensures.1

pub loop-i-preserved : goal.loop-i-preserved
loop-i-preserved t c =
    let i = c.loop-i.i in
    let none = linking_none c.args.book.now (set c.loop-i.elders i c.narrow.result) (i + 1) (i + c.span_in-s.result) (omega (arith, c.if-s-ne1.false)) in
    linking_more c.loop-i.invariant c.loop-i-test.true c.span_in-s.ensures.0 c.narrow.ensures
    (omega (arith, c.loop-i.invariant.kept.long, c.loop-i-test.true, c.requires.3)) none.0 none.1

pub returns : goal.returns
returns t c =
    linking_end c.loop-i.invariant c.loop-i-test.false (omega (arith, c.if-from-stop.false, c.requires.0)) (omega (arith, c.loop-i.invariant.kept.long, c.requires.3)) c.narrow-2.ensures
