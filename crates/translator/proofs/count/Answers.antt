use native.Mathlib.Omega.{arith}
use borrow.Author.Rules.{rules}
use Rattle.emission.proofs.Emit.{programme_short}
use Rattle.translator.proofs.count.Goals as goal

pub programme-requires : goal.programme-requires
programme-requires c =
    (c.requires.0, programme_short _ _ c.requires.0.1 (omega (arith, c.args.top.some)), search rules, c.requires.1)
