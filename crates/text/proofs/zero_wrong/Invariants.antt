use Rattle.text.proofs.Zeroed.{Zeroing}
use Rattle.text.proofs.zero_wrong.Given as goal

abbrev pub invariant-loop-n : goal.invariant-loop-n
invariant-loop-n l = Zeroing l.initial.text l.n l.text
