use Rattle.outline.proofs.+hexes.Given as goal

abbrev pub decreases-hexes : goal.decreases-hexes
decreases-hexes l = l.left
