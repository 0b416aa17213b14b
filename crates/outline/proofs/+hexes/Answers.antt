use Rattle.outline.proofs.Laws.{then, as_is, hexes_none, hexes_end, hexes_more}
use Rattle.outline.proofs.+hexes.Goals.{then-left-eq0-via-then-left-eq0, then-left-eq0-via-else-left-eq0+then-f-eq0}
use Rattle.outline.proofs.+hexes.Goals as goal

pub returns-then-left-eq0 : goal.returns-then-left-eq0
returns-then-left-eq0 t c =
    elim c.then-left-eq0.branch [
      | then-left-eq0-via-then-left-eq0 w ↦ as_is (hexes_none _ _ w.if-left-eq0.true) c.none.ensures
      | then-left-eq0-via-else-left-eq0+then-f-eq0 w ↦ as_is (hexes_end _ _ w.if-f-eq0.true) c.none.ensures
    ]

pub returns : goal.returns
returns t c =
    as_is (hexes_more _ _ c.if-left-eq0.false c.if-f-eq0.false c.letter.ensures) (then c.put-at.ensures c.hexes.ensures)
