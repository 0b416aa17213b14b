use native.Mathlib.Omega.{arith}
use mathlib.Core.Path.{sym, ◌∙◌}
use Rattle.judge.proofs.Exactly.{accepted_keeps}
use Rattle.judge.proofs.Bounds.{refused_small}
use Rattle.show.proofs.show_records.Goals as goal

pub print_first-requires : goal.print_first-requires
print_first-requires g c = omega (arith, (accepted_keeps _ _ _ (sym c.judge_book.ensures ∙ c.in-Ok.is)).0.sized.bytes)

pub show_refused-requires : goal.show_refused-requires
show_refused-requires g c = (refused_small _ _ (sym c.judge_book.ensures ∙ c.in-Err.is)).inside
