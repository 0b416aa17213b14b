use lib.ListN.{length}
use mathlib.Core.Path.{sym, ◌∙◌}
use native.Mathlib.Omega.{arith}
use Rattle.line.specs.Line.{refusal_line}
use Rattle.line.proofs.Laws.{length_refusal, put_found, places_within}
use Rattle.rewrite.proofs.rewritten.Goals as goal

pub returns-in-Err : goal.returns-in-Err
returns-in-Err c =
    let line = refusal_line c.in-Err.refusal in
    let out = c.again.new.out in
    let w = c.refusal_line.ensures in
    let found = put_found line out (omega (arith, c.again.auto.out, length_refusal c.in-Err.refusal)) in
    (omega (arith, w.0, places_within line (length out)), rw (w.0, w.1) (found ∙ sym c.in-Err.ensures.1))
