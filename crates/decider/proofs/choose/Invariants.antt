use Rattle.meaning.specs.Reading.{bags_of}
use Rattle.decider.proofs.Laws.{Seeking}
use Rattle.decider.proofs.choose.Given as goal

abbrev pub invariant-loop-i : goal.invariant-loop-i
invariant-loop-i l = Seeking l.book (bags_of l.request) l.from l.count l.i-iterator l.p
