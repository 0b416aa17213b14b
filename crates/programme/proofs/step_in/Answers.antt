use borrow.Author.Rules.{rules}
use Rattle.std.specs.Prelude.{Some, None}
use Rattle.programme.proofs.Stepping.{step_outside, step_needs, step_taken}
use Rattle.layout.proofs.Coding.{held, ranged_back, allowed_pack}
use Rattle.layout.specs.Layout.{pack_of}
use Rattle.programme.specs.Step.{state_of}
use Rattle.meaning.specs.Reading.{bags_of}
use mathlib.Core.Path.{◌≡◌, sym}
use Rattle.programme.proofs.step_in.Goals as goal

pub meet-requires : goal.meet-requires
meet-requires c = held _ c.requires.1

pub carry_out-requires : goal.carry_out-requires
carry_out-requires c =
    let a = c.args in
    let r = c.requires.1 in
    let some = c.in_ok-met.was in
    step_needs a.programme.now (bags_of a.request.now) (state_of (pack_of a.h) a.frames.now a.levels.now a.places.now) a.h _ _ _ (sym (ranged_back a.h r)) c.saturating_sub.ensures c.saturating_sub-2.ensures c.meet.ensures (allowed_pack a.h r) c.requires.0 _ some

pub returns-in_err-met : goal.returns-in_err-met
returns-in_err-met c =
    let a = c.args in
    let r = c.requires.1 in
    let none = c.in_err-met.was in
    let back : c.from_residual.result ≡ None = search rules in
    let o = step_outside a.programme.now (bags_of a.request.now) (state_of (pack_of a.h) a.frames.now a.levels.now a.places.now) a.h _ _ _ (sym (ranged_back a.h r)) c.saturating_sub.ensures c.saturating_sub-2.ensures c.meet.ensures none in
    rw back (o.0, o.1, r)

pub returns : goal.returns
returns c =
    let a = c.args in
    let r = c.requires.1 in
    let some = c.in_ok-met.was in
    let e = c.carry_out.ensures in
    step_taken a.programme.now (bags_of a.request.now) (state_of (pack_of a.h) a.frames.now a.levels.now a.places.now) a.h _ _ _ (sym (ranged_back a.h r)) c.saturating_sub.ensures c.saturating_sub-2.ensures c.meet.ensures (allowed_pack a.h r) c.requires.0 _ some _ _ _ _ e.0 e.1 e.2 e.3
