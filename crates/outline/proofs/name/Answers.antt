use Rattle.outline.proofs.Laws.{then, as_is, name_none, name_more}
use borrow.Author.Rules.{rules}
use Rattle.outline.proofs.name.Goals as goal

pub loop-x-init : goal.loop-x-init
loop-x-init c = as_is (name_none c.args.w.now) c.none-n.ensures

pub loop-x-preserved : goal.loop-x-preserved
loop-x-preserved c = as_is (name_more c.args.w.now c.loop-x.x-index (search rules)) (then c.loop-x.invariant c.escape-n.ensures)
