use Rattle.grammar.proofs.Fits.{fit_by_table}
use Rattle.grammar.proofs.kept.is_fit.Goals as goal

pub returns-then-in_table : goal.returns-then-in_table
returns-then-in_table c = rw (fit_by_table, ← c.if-in_table.ensures) c.rules.ensures

pub returns-else-in_table : goal.returns-else-in_table
returns-else-in_table c = rw (fit_by_table, ← c.if-in_table.ensures) c.if-in_table.false
