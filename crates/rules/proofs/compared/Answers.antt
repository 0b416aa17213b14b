use Rattle.rules.proofs.compared.Goals as goal

pub returns : goal.returns
returns c = rw (← c.comparison_at.ensures) c.comparison.ensures
