use Rattle.programme.proofs.Pieces.{load_outside, load_does, ask_does, work_does, test_does}
use native.Mathlib.Omega.{arith}
use Prim.Native.Nat.{◌+◌}
use Rattle.programme.proofs.entries.sum_at.Goals as goal

pub returns-then-programme-at-lt2 : goal.returns-then-programme-at-lt2
returns-then-programme-at-lt2 c = let a = c.args in λ f b. load_outside _ _ a.h _ _ _ _ _ f b c.in-0.is (omega (arith, c.if-programme-at-lt2.true))

pub returns-in-0 : goal.returns-in-0
returns-in-0 c =
    let a = c.args in
    λ f b. load_does _ _ a.h _ _ _ _ _ f b c.in-0.is (omega (arith, c.if-programme-at-lt2.false)) (omega (arith, c.shared_slice_known-in-0-1.given (a.h.at + 1))) c.put_word-does.ensures

pub returns-in-1 : goal.returns-in-1
returns-in-1 c =
    λ f b. ask_does _ _ c.args.h _ _ _ _ _ f b c.requires c.in-1.is c.only.ensures c.put_word-does-in-1.ensures

pub returns-in-2 : goal.returns-in-2
returns-in-2 c =
    λ f b. work_does _ _ c.args.h _ _ _ _ _ f b c.requires c.in-2.is c.by.ensures c.work_words-does.ensures

pub returns-in_default : goal.returns-in_default
returns-in_default c =
    let n = c.in_default.in_default-own.rest in
    λ f b. test_does _ _ c.args.h _ _ _ _ _ f b c.requires n.0.0.1 n.0.1 n.1 c.low.ensures c.test_words-does.ensures
