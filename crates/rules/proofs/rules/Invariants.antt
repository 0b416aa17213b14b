use Rattle.std.proofs.Common.{◌≡◌}
use Rattle.record.specs.Forest.{forest}
use Rattle.record.specs.Siblings.{forest_left}
use Rattle.meaning.specs.Meaning.{over_rules, verdict_of, rule_children}
use Rattle.meaning.specs.Reading.{rules_by, rules_in, bags_of}
use Rattle.rules.proofs.Laws.{ruled}
use Rattle.rules.proofs.rules.Given as goal

abbrev pub invariant-loop-i : goal.invariant-loop-i
invariant-loop-i l =
    (l.i-iterator.book.now ≡ l.book)
    × (ruled l.book (bags_of l.request) l.a l.acc l.cause (forest_left l.i-iterator) ≡ verdict_of (over_rules (rules_by l.choice)) (rule_children (bags_of l.request) (rules_in l.book (forest l.book l.from l.count))))
