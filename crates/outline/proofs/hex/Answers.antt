use Rattle.outline.proofs.Laws.{then, as_is, hex_parts}
use Rattle.outline.proofs.hex.Goals as goal

pub returns : goal.returns
returns c =
    as_is (hex_parts _ c.sign.ensures c.lead.ensures c.exponent-e.ensures c.fraction-f.ensures c.written.ensures)
    (then c.words-at.ensures (then c.words-at-2.ensures (then c.point-at.ensures c.power.ensures)))
