use Rattle.pieces.proofs.Laws.{left}
use Rattle.moves.specs.Core.{worked}
use Rattle.pieces.proofs.work_words.Goals as goal

pub returns : goal.returns
returns c =
    let a = c.args in
    left a.h (worked a.op a.m a.l) _ c.work.ensures c.since_word-w.ensures c.mark_in.ensures c.marked-on.ensures c.word_in.ensures c.moving.ensures
