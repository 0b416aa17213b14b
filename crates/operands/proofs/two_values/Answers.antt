use mathlib.Core.Path.{◌≡◌}
use native.Mathlib.Omega.{arith}
use lib.Dec.{leb, eqb}
use Rattle.record.specs.Choose.{if, both}
use Rattle.record.specs.Bytes.{span_of}
use Rattle.operands.specs.Operands.{value_type}
use Rattle.operands.proofs.Lookahead.{seen_none, seen_more}
use Rattle.operands.proofs.two_values.Goals as goal
use Rattle.operands.proofs.two_values.Goals.{then-child, else-child}

pub loop-j-init : goal.loop-j-init
loop-j-init c = seen_none _ _ _

pub loop-j-preserved : goal.loop-j-preserved
loop-j-preserved c =
    let b = c.args.book.now in
    let l = c.loop-j in
    let operand : c.if-child.from ≡ both (leb l.reach l.j) (eqb (value_type b l.j) c.args.t) = elim c.if-child.branch [
      | then-child w ↦ grind (arith, w.if-child.true, w.value_type.ensures, w.from-is)
      | else-child w ↦ grind (arith, w.if-child.false, w.from-is)
    ] in
    let span : c.span.result ≡ span_of b l.j = grind (arith, c.span.ensures) in
    let child : c.from.result ≡ if (leb l.reach l.j) 1 0 = grind (arith, c.from.ensures) in
    let counted : c.from-in-loop-j.result ≡ if c.if-child.from 1 0 = grind (arith, c.from-in-loop-j.ensures) in
    seen_more _ _ c.args.t (omega arith) (omega (arith, c.requires.2)) l.invariant child operand counted span c.max-reach.ensures
