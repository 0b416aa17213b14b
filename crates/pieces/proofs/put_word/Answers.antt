use Rattle.pieces.proofs.Laws.{puts}
use Rattle.pieces.proofs.put_word.Goals as goal

pub returns : goal.returns
returns c =
    let a = c.args in
    λ w e. puts a.h w _ e c.since_word-w.ensures c.mark_in.ensures c.marked-on.ensures c.word_in.ensures c.moving.ensures
