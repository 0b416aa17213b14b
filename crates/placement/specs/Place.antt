-- The place rules, record by record, by the numbers of document 02, 1: 9 of line 1, 10 of the parent's end, 11 of what the parent allows at that place, of the
-- category of a section or match and of the operands of document 02, 3, 12 of the depth. Assumes nothing.
use Rattle.std.specs.Prelude.{ℕ, ◌+◌, ◌/◌, Bool, true, false, List, eqb, leb, length}
use Rattle.record.specs.Choose.{if, both, either, among}
use Rattle.record.specs.Bytes.{size, byte_of, span_of}
use Rattle.fields.specs.First.{last_below, count_below}
use Rattle.fields.specs.Fields.{kind_at}
use Rattle.fields.specs.declared.Kind.{Kind}
use Rattle.fields.specs.declared.Kind.TheVariants.{PolicySet, Policy, Rule, Section, Conjunction, Match, Logic, Not, Comparison, Weighing, Obligation, Literal, Attribute, Operator, Nothing}
use Rattle.operands.specs.Parent.{end_of, covers, parent_of}
use Rattle.operands.specs.Operands.{operands_at}

-- nesting depth is at most this, line 1 being 1
abbrev pub most_depth : ℕ
most_depth = 16

-- the child before place i: the last earlier record whose parent is p; p itself where there is none
unfoldable pub elder_of : List ℕ → ℕ → ℕ → ℕ
elder_of b p i = last_below (λ (j : ℕ). either (eqb j p) (eqb (parent_of b j) p)) i

-- the depth: line 1 has 1, and each record that covers a place is one more
unfoldable pub depth_of : List ℕ → ℕ → ℕ
depth_of b i = count_below (covers b i) i + 1

-- a number for each kind: the papers', with 71 for and and or, 72 for not, 73 for a comparison, 74 for one of two values, and 101 to 103 for a literal, an
-- attribute and an operator
abbrev pub kind_number : Kind → ℕ
kind_number PolicySet = 1
kind_number Policy = 2
kind_number Rule = 3
kind_number Section = 4
kind_number Conjunction = 5
kind_number Match = 6
kind_number Logic = 71
kind_number Not = 72
kind_number Comparison = 73
kind_number Weighing = 74
kind_number Obligation = 8
kind_number Literal = 101
kind_number Attribute = 102
kind_number Operator = 103
kind_number Nothing = 0

-- the parents that take a condition: rule, and, or, not; and those that take one only: rule and not
unfoldable pub holds_conditions : ℕ → Bool
holds_conditions p = either (eqb p 3) (either (eqb p 71) (eqb p 72))

unfoldable pub single_of : ℕ → ℕ
single_of p = if (either (eqb p 3) (eqb p 72)) 1 0

-- the parents that take a value: a comparison of two values, and an operator
unfoldable pub holds_values : ℕ → Bool
holds_values p = either (eqb p 74) (eqb p 103)

-- does a parent of number p take such a child?
abbrev pub takes_of : ℕ → Kind → Bool
takes_of p PolicySet = eqb p 1
takes_of p Policy = eqb p 1
takes_of p Rule = eqb p 2
takes_of p Section = among 1 3 p
takes_of p Conjunction = eqb p 4
takes_of p Match = eqb p 5
takes_of p Logic = holds_conditions p
takes_of p Not = holds_conditions p
takes_of p Comparison = holds_conditions p
takes_of p Weighing = holds_conditions p
takes_of p Obligation = among 1 2 p
takes_of p Literal = holds_values p
takes_of p Attribute = holds_values p
takes_of p Operator = holds_values p
takes_of p Nothing = false

-- the order of children: sections by their category c (1-4), then all others, then obligations
abbrev pub rank_of : Kind → ℕ → ℕ
rank_of PolicySet c = 5
rank_of Policy c = 5
rank_of Rule c = 5
rank_of Section c = c
rank_of Conjunction c = 5
rank_of Match c = 5
rank_of Logic c = 5
rank_of Not c = 5
rank_of Comparison c = 5
rank_of Weighing c = 5
rank_of Obligation c = 6
rank_of Literal c = 5
rank_of Attribute c = 5
rank_of Operator c = 5
rank_of Nothing c = 5

unfoldable pub rank_at : List ℕ → ℕ → ℕ
rank_at b i = rank_of (kind_at b i) (byte_of b i 4)

-- the rank of the child before; 0 where there is none
unfoldable pub elder_rank : List ℕ → ℕ → ℕ → ℕ
elder_rank b p q = if (eqb q p) 0 (rank_at b q)

-- how far a child's rank must be above that of the child before: sections rise strictly, and a rule's or a not's condition is alone
abbrev pub rise_of : ℕ → Kind → ℕ
rise_of p PolicySet = 0
rise_of p Policy = 0
rise_of p Rule = 0
rise_of p Section = 1
rise_of p Conjunction = 0
rise_of p Match = 0
rise_of p Logic = single_of p
rise_of p Not = single_of p
rise_of p Comparison = single_of p
rise_of p Weighing = single_of p
rise_of p Obligation = 0
rise_of p Literal = 0
rise_of p Attribute = 0
rise_of p Operator = 0
rise_of p Nothing = 0

-- a match has the category of its section, its parent's parent
abbrev pub under_ok : Kind → ℕ → ℕ → Bool
under_ok PolicySet g c = true
under_ok Policy g c = true
under_ok Rule g c = true
under_ok Section g c = true
under_ok Conjunction g c = true
under_ok Match g c = eqb g c
under_ok Logic g c = true
under_ok Not g c = true
under_ok Comparison g c = true
under_ok Weighing g c = true
under_ok Obligation g c = true
under_ok Literal g c = true
under_ok Attribute g c = true
under_ok Operator g c = true
under_ok Nothing g c = true

-- may a child of kind k and category c stand there: the parent takes it, it comes after the child before it (of rank e), and a match has its section's
-- category (g)
unfoldable pub stands_ok : ℕ → Kind → ℕ → ℕ → ℕ → Bool
stands_ok p k c e g = both (takes_of p k) (both (leb (e + rise_of p k) (rank_of k c)) (under_ok k g c))

-- may record i stand below p, its parent?
abbrev pub stands_at : List ℕ → ℕ → ℕ → Bool
stands_at b p i = stands_ok (kind_number (kind_at b p)) (kind_at b i) (byte_of b i 4) (elder_rank b p (elder_of b p i)) (byte_of b (parent_of b p) 4)

-- the lowest rule that a child breaks: 10 it runs past its parent's end, 11 it may not stand there or has not the operands that it wants, 12 it is too deep; 0 none
unfoldable pub child_rule : ℕ → ℕ → ℕ → Bool → ℕ
child_rule end top depth stands = if (leb end top) (if stands (if (leb depth most_depth) 0 12) 11) 10

unfoldable pub child_broken : List ℕ → ℕ → ℕ → ℕ
child_broken b p i = child_rule (end_of b i) (end_of b p) (depth_of b i) (both (stands_at b p i) (operands_at b i))

-- line 1 is a policy set or a policy, and its span is the record count
unfoldable pub top_ok : List ℕ → Bool
top_ok b = both (among 1 2 (kind_number (kind_at b 0))) (eqb (span_of b 0) (length b / size))

-- the place rule that record i breaks: 9 is line 1's; 0 none
unfoldable pub broken_at : List ℕ → ℕ → ℕ
broken_at b i = if (eqb i 0) (if (top_ok b) 0 9) (child_broken b (parent_of b i) i)

-- the place rules of record i
unfoldable pub place_ok : List ℕ → ℕ → Bool
place_ok b i = eqb (broken_at b i) 0
