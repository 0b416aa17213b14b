use Rattle.outline.proofs.doubles.+halved.Given as goal

abbrev pub decreases-halved : goal.decreases-halved
decreases-halved l = l.k
