use Rattle.grammar.proofs.Children.{section_more, sections_are}
use Rattle.grammar.proofs.Fits.{fits, section_category}
use mathlib.Core.Path.{refl}
use native.Mathlib.Omega.{arith}
use Rattle.grammar.proofs.sections.Goals as goal

pub loop-i-preserved : goal.loop-i-preserved
loop-i-preserved c =
    let f = fits c.if-is_fit.ensures in
    let e = c.byte-category.ensures.0 in (
      omega arith,
      omega arith,
      omega (arith, e, section_category _ _ f),
      λ pn gc pc l. section_more _ c.span.ensures.0 refl c.if-end-next.false (c.loop-i.invariant.3 pn gc pc l) f e c.if-category-last.false
          c.if-depth-gt-MOST_DEPTH.false l (c.if-not-conjunctions.ensures refl),
    )

pub returns-else-is_fit : goal.returns-else-is_fit
returns-else-is_fit c = let x = c.loop-i.invariant in sections_are _ x.1 x.2 x.3

pub returns-after-loop-i : goal.returns-after-loop-i
returns-after-loop-i c = let x = c.loop-i.invariant in sections_are _ x.1 x.2 x.3
