-- The papers' table of the kinds of records, by kind. Assumes nothing.
use Rattle.std.specs.Prelude.{ℕ, Bool, eqb}
use Rattle.record.specs.Choose.{both, among}
use Rattle.fields.specs.declared.Kind.{Kind}
use Rattle.fields.specs.declared.Kind.TheVariants.{PolicySet, Policy, Rule, Section, Conjunction, Match, Logic, Not, Comparison, Weighing, Obligation, Literal, Attribute, Operator, Nothing}

-- a kind's byte, its lowest choice and its highest; `Nothing` has no choice
abbrev pub table_of : Kind → ℕ × ℕ × ℕ
table_of PolicySet = (1, 1, 4)
table_of Policy = (2, 1, 3)
table_of Rule = (3, 1, 2)
table_of Section = (4, 0, 0)
table_of Conjunction = (5, 0, 0)
table_of Match = (6, 1, 5)
table_of Logic = (7, 1, 2)
table_of Not = (7, 3, 3)
table_of Comparison = (7, 11, 15)
table_of Weighing = (7, 21, 25)
table_of Obligation = (8, 1, 2)
table_of Literal = (10, 1, 1)
table_of Attribute = (10, 2, 2)
table_of Operator = (10, 3, 8)
table_of Nothing = (0, 1, 0)

-- a record with kind byte n and choice c is a k
abbrev pub in_table : Kind → ℕ → ℕ → Bool
in_table k n c = both (eqb n (table_of k).0) (among (table_of k).1 (table_of k).2 c)
