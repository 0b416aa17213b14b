use native.Mathlib.Omega.{arith}
use borrow.Author.Rules.{rules}
use Rattle.emission.proofs.Turns.{target_next, target_rest, target_past}
use Rattle.emission.proofs.Emit.{follows, before_fits, nothing, same_as, differs, target_none}
use Rattle.emission.proofs.targets.+target.Goals as goal

pub returns-in_default : goal.returns-in_default
returns-in_default t c = nothing (target_none _ _ _ _ (omega (arith, c.in_default.ensures.none)))

pub returns-then-kind-ne-SECTION : goal.returns-then-kind-ne-SECTION
returns-then-kind-ne-SECTION t c = nothing (target_past c.in-Some.ensures.first _ (differs 4 c.kind.ensures.0 c.if-kind-ne-SECTION.true))

pub target-mid-requires : goal.target-mid-requires
target-mid-requires t c =
    (search rules, (target_rest c.in-Some.ensures.first _ _ (same_as c.kind.ensures.0 c.if-kind-ne-SECTION.false) c.requires.0, search rules))

pub section-requires : goal.section-requires
section-requires t c =
    (before_fits (target_next c.in-Some.ensures.first _ _ _ (same_as c.kind.ensures.0 c.if-kind-ne-SECTION.false) c.target-mid.ensures.starts) c.requires.0 c.target-mid.ensures, search rules)

pub returns : goal.returns
returns t c =
    follows (target_next c.in-Some.ensures.first _ _ _ (same_as c.kind.ensures.0 c.if-kind-ne-SECTION.false) c.target-mid.ensures.starts) c.target-mid.ensures c.section.ensures
