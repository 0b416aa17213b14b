use Rattle.operands.specs.Parent.{covers}
use Rattle.show.proofs.Laws.{parent_is, YieldsList-from_below, steps_down}
use Rattle.std.proofs.lemmas.Iterator.Search.{find_from_yields_List}
use Rattle.std.proofs.Common.{rules, tests}
use Rattle.show.proofs.nesting.parent.Goals as goal

pub returns : goal.returns
returns c =
    let i = c.args.i in
    parent_is _ _ c.rfind.result c.unwrap_or.ensures (find_from_yields_List {steps = steps_down} (covers c.args.book.now i) _ _ c.rfind.result
    c.rfind.ensures.ran (YieldsList-from_below i) (λ x b q k. search (rules, tests)))
