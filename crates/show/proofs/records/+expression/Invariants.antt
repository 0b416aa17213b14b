use Rattle.show.proofs.records.+expression.Given as goal

abbrev pub decreases-expression : goal.decreases-expression
decreases-expression l = l.s
