use native.Mathlib.Omega.{arith}
use mathlib.Core.Path.{refl, sym}
use Rattle.spoilt.proofs.Lines.{head_bad, head_ends, line_operands}
use Rattle.spoilt.proofs.line_ok.Goals as goal

pub operands_in-requires : goal.operands_in-requires
operands_in-requires c =
    let w = head_ends _ _ _ _ _ _ c.args.up.category _ c.requires.3 refl (sym c.if-head_ok.ensures) in
    let e = c.span.ensures.0 in
    (omega arith, omega arith)

pub returns-then-head_ok : goal.returns-then-head_ok
returns-then-head_ok c =
    line_operands _ _ _ _ _ _ _ _ c.requires.3 refl (sym c.if-head_ok.ensures) c.span.ensures.0 c.byte.ensures.0 c.operands_in.ensures

pub returns-else-head_ok : goal.returns-else-head_ok
returns-else-head_ok c = rw (c.if-head_ok.false) (head_bad _ _ _ _ _ _ _ _ c.requires.3 refl c.requires.1 (sym c.if-head_ok.ensures))
