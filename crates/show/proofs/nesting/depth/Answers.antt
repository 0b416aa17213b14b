use Rattle.operands.specs.Parent.{covers}
use Rattle.show.proofs.Laws.{depth_is}
use Rattle.std.proofs.lemmas.Iterator.{YieldsList-from_range}
use Rattle.std.proofs.lemmas.Iterator.Consumers.{YieldsList-from_filter, YieldsList-at, count_from_yields_List}
use Rattle.std.proofs.Common.{rules, tests, refl}
use native.Mathlib.Omega.{arith}
use Rattle.show.proofs.nesting.depth.Goals as goal

pub returns : goal.returns
returns c =
    let i = c.args.i in
    depth_is _ _ (count_from_yields_List c.filter.result _ c.count.ensures.ran (YieldsList-from_filter _ (covers c.args.book.now i)
    (YieldsList-at c.filter.ensures.source (YieldsList-from_range 0 i i refl (omega arith))) c.filter.ensures.closure
    (λ x b q k. search (rules, tests))))
