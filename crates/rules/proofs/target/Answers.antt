use mathlib.Core.Path.{refl}
use native.Mathlib.Omega.{arith}
use Rattle.record.proofs.Forests.{forest_none, forest_more}
use Rattle.rules.proofs.Laws.{no_sections, sections_none, sections_over}
use Rattle.rules.proofs.target.Goals as goal
use Rattle.rules.proofs.target.Goals.{then-count-eq0-via-then-count-eq0, then-count-eq0-via-else-count-eq0+then-byte-ne-SECTION}

pub returns-then-count-eq0 : goal.returns-then-count-eq0
returns-then-count-eq0 c =
    let b = c.args.book.now in
    no_sections b _ _ (elim c.then-count-eq0.branch [
      | then-count-eq0-via-then-count-eq0 w ↦ sections_none (forest_none b c.args.from c.args.count (omega (arith, w.if-count-eq0.true))) b _
      | then-count-eq0-via-else-count-eq0+then-byte-ne-SECTION w ↦
          sections_over b (forest_more b c.args.from c.args.count (omega (arith, w.if-count-eq0.false)) refl) _ w.byte.ensures.0 w.if-byte-ne-SECTION.true
    ])
