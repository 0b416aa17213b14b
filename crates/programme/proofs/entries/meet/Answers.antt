use Rattle.programme.proofs.Found.{lawful_none, outside, lawful_beyond}
use Rattle.layout.specs.Layout.{frame_of}
use native.Mathlib.Omega.{arith}
use Rattle.programme.proofs.entries.meet.Goals as goal

pub returns-then-programme-at : goal.returns-then-programme-at
returns-then-programme-at c = let a = c.args in outside _ _ _ _ a.l a.m (frame_of a.f) (frame_of a.b) (lawful_beyond _ _ _ (omega arith))

pub returns-in_default : goal.returns-in_default
returns-in_default c = let a = c.args in let n = c.in_default.in_default-own.rest in outside _ _ _ _ a.l a.m (frame_of a.f) (frame_of a.b) (lawful_none _ _ _ n.0.0.0.0.0.0.0.0.0.0.0.0.1 n.0.0.0.0.0.0.0.0.0.0.0.1 n.0.0.0.0.0.0.0.0.0.0.1 n.0.0.0.0.0.0.0.0.0.1 n.0.0.0.0.0.0.0.0.1 n.0.0.0.0.0.0.0.1 n.0.0.0.0.0.0.1 n.0.0.0.0.0.1 n.0.0.0.0.1 n.0.0.0.1 n.0.0.1 n.0.1 n.1)
