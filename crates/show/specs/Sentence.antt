-- The sentences of records, and what stands between two values, in ASCII. Assumes nothing.
use Rattle.std.specs.Prelude.{ℕ, List, [], codes, eqb}
use Rattle.record.specs.Choose.{if, either}
use Rattle.fields.specs.declared.Kind.{Kind}
use Rattle.fields.specs.declared.Kind.TheVariants.{PolicySet, Policy, Rule, Section, Conjunction, Match, Logic, Not, Comparison, Weighing, Obligation, Literal, Attribute, Operator, Nothing}

-- the sentence of what a record is told as, with a capital for each part of the record
abbrev pub sentence_words : Kind → List ℕ
sentence_words PolicySet = codes "policy set: A"
sentence_words Policy = codes "policy: A"
sentence_words Rule = codes "rule: E"
sentence_words Section = codes "section: C"
sentence_words Conjunction = codes "conjunction"
sentence_words Match = codes "match: T V is F C NIM"
sentence_words Logic = codes "condition: L"
sentence_words Not = codes "condition: L"
sentence_words Comparison = codes "condition: T V is F C NIM"
sentence_words Weighing = codes "condition: X"
sentence_words Obligation = codes "obligation N on E"
sentence_words Literal = codes "value: T V"
sentence_words Attribute = codes "value: T C NIM"
sentence_words Operator = codes "value: X"
sentence_words Nothing = codes "bytes B"

-- what stands between two values, by a choice: an operator, or how they are compared
unfoldable pub between_words : ℕ → List ℕ
between_words choice =
    if (either (eqb choice 3) (eqb choice 8)) (codes " + ")
    (if (eqb choice 4) (codes " - ")
    (if (eqb choice 5) (codes " * ")
    (if (eqb choice 6) (codes " / ")
    (if (eqb choice 7) (codes " % ")
    (if (eqb choice 21) (codes " is equal to ")
    (if (eqb choice 22) (codes " is greater than ")
    (if (eqb choice 23) (codes " is greater than or equal to ")
    (if (eqb choice 24) (codes " is less than ")
    (if (eqb choice 25) (codes " is less than or equal to ") [])))))))))
