-- An algorithm with its causes: the fold of specs/Fold.antt, and beside it the cause that counts. `proofs/Causes.antt` shows that it gives what
-- specs/Meaning.antt of crate `meaning` says. Assumes nothing.
use Rattle.std.specs.Prelude.{Bool, None}
use Rattle.meaning.specs.Cause.{Cause}
use Rattle.record.specs.Choose.{if}
use Rattle.meaning.specs.Logic.{or_else}
use Rattle.meaning.specs.Meaning.{is_only, coded, decision_in, cause_in}
use Rattle.meaning.specs.declared.Effect.{Effect}
use Rattle.meaning.specs.declared.Verdict.{Verdict}
use Rattle.meaning.specs.declared.Algorithm.{Algorithm}
use Rattle.algorithm.specs.declared.tally.Tally.{Tally}
use Rattle.algorithm.specs.Fold.{start, fold_result, absorb}

abbrev pub fresh : Algorithm → Tally
fresh a = record { acc = start a; cause = None }

-- the first cause counts; of only-one the last, which settles it
abbrev pub noting : Bool → Cause → Cause → Cause
noting only before now = if only (or_else now before) (or_else before now)

-- with one child more, whose verdict is v, and which has the effect e if it is a rule
abbrev pub tallied : Algorithm → Tally → Effect → Verdict → Tally
tallied a k e v = record { acc = absorb a k.acc e (decision_in v); cause = noting (is_only a) k.cause (cause_in v) }

-- the verdict so far
abbrev pub verdict_so_far : Algorithm → Tally → Verdict
verdict_so_far a k = coded (fold_result a k.acc) k.cause
