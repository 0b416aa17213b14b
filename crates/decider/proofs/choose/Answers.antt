use Rattle.std.specs.Prelude.{Err}
use mathlib.Core.Path.{◌≡◌}
use native.Mathlib.Omega.{arith}
use Rattle.std.proofs.lemmas.Grind.{common_steps}
use Rattle.decider.proofs.Laws.{seek_start, seek_skip, seek_turn, seek_stop, seek_end}
use Rattle.decider.proofs.choose.Goals as goal

pub loop-i-init : goal.loop-i-init
loop-i-init c =
    let new = c.new-i-items.ensures in
    rw c.into_iter-i-iterator.ensures.into_iter_gives (seek_start _ _ _ _ new.book new.at new.left)

pub loop-i-preserved-then-not-is_party : goal.loop-i-preserved-then-not-is_party
loop-i-preserved-then-not-is_party c = seek_skip c.loop-i.invariant c.in-Some.ensures.steps c.if-not-is_party.ensures

pub returns-in_err-p : goal.returns-in_err-p
returns-in_err-p c =
    let e : c.from_residual.result ≡ Err c.in_err-p.field-0.0 = grind (arith, common_steps) in
    rw e (seek_stop c.loop-i.invariant c.in-Some.ensures.steps c.if-not-is_party.ensures c.target.ensures c.note.ensures c.in_err-p.was)

pub loop-i-preserved : goal.loop-i-preserved
loop-i-preserved c = seek_turn c.loop-i.invariant c.in-Some.ensures.steps c.if-not-is_party.ensures c.target.ensures c.note.ensures _ c.in_ok-p.was

pub returns : goal.returns
returns c = seek_end c.loop-i.invariant c.in-None.ensures.steps
