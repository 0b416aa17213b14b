-- What is wrong with a refused record, by the enum that has the words. Assumes nothing.
use Rattle.std.specs.Prelude.{ℕ, ◌+◌, ◌*◌, Bool, List, Option, Some, None, eqb, ltb, length}
use Rattle.record.specs.Choose.{if, either, among}
use Rattle.record.specs.Bytes.{size, byte_of, span_of, big_of}
use Rattle.fields.specs.Fields.{kind_at, type_of, type_at, category_ok}
use Rattle.fields.specs.declared.Kind.{Kind}
use Rattle.fields.specs.declared.Kind.TheVariants.{PolicySet, Policy, Rule, Section, Conjunction, Match, Logic, Not, Comparison, Weighing, Obligation, Literal, Attribute, Operator, Nothing}
use Rattle.fields.specs.declared.Sort.{Sort}
use Rattle.fields.specs.declared.Sort.TheVariants.{Integer, Name, Double, Other}
use Rattle.operands.specs.Parent.{end_of, parent_of}
use Rattle.operands.specs.Operands.{operands_at}
use Rattle.show.specs.declared.fault.Fault.{Fault}
use Rattle.show.specs.declared.fault.Fault.TheVariants.{NoKind, NoChoice, NoSpan, NothingBelow, SomethingBelow, NoCategory, NoType, NotFinite, NameOrdered, PlainByte, SectionByte, ObligationByte, NoTop, NotAll, PastEnd, NotTaken, LateSection, OtherCategory, SecondInRule, SecondInNot, AfterObligation, TooDeep, LiteralType, LiteralByte, AttributeByte, OtherOperands, OtherPair, TestByte}

-- kind and choice, where the two are in no row of the table
unfoldable pub kind_fault : ℕ → Fault
kind_fault k = if (either (eqb k 10) (among 1 8 k)) NoChoice NoKind

-- a record that uses no byte but kind, choice and span, the span being at least s
unfoldable pub plain_fault : ℕ → ℕ → Fault
plain_fault span s = if (eqb span 0) NoSpan (if (ltb span s) NothingBelow PlainByte)

-- the category first, then another fault
unfoldable pub category_fault : ℕ → Option Fault → Option Fault
category_fault c other = if (category_ok c) other (Some NoCategory)

unfoldable pub section_fault : ℕ → ℕ → Option Fault
section_fault span c = category_fault c (Some (if (ltb span 2) NothingBelow SectionByte))

-- the value of a match or comparison; an integer has no fault
abbrev pub value_fault : Sort → Option Fault
value_fault Integer = None
value_fault Name = Some NameOrdered
value_fault Double = Some NotFinite
value_fault Other = Some NoType

unfoldable pub compares_fault : ℕ → ℕ → Sort → ℕ → Option Fault
compares_fault span c t unused =
    category_fault c (if (eqb span 1) (if (eqb unused 0) (value_fault t) (Some TestByte)) (Some SomethingBelow))

-- a literal, by the bytes that it does not use and its type: an integer or a name has no other fault
abbrev pub literal_value_fault : Sort → Option Fault
literal_value_fault Integer = None
literal_value_fault Name = None
literal_value_fault Double = Some NotFinite
literal_value_fault Other = Some LiteralType

unfoldable pub literal_fault : ℕ → ℕ → Sort → Option Fault
literal_fault span unused t = if (eqb span 1) (if (eqb unused 0) (literal_value_fault t) (Some LiteralByte)) (Some SomethingBelow)

-- an attribute, by its type
abbrev pub attribute_value_fault : Sort → Fault
attribute_value_fault Integer = AttributeByte
attribute_value_fault Name = AttributeByte
attribute_value_fault Double = AttributeByte
attribute_value_fault Other = NoType

unfoldable pub attribute_fault : ℕ → ℕ → Sort → Option Fault
attribute_fault span c t = category_fault c (Some (if (eqb span 1) (attribute_value_fault t) SomethingBelow))

unfoldable pub obligation_fault : ℕ → Fault
obligation_fault span = if (eqb span 1) ObligationByte SomethingBelow

-- a record that breaks a field rule, by what it is
abbrev pub field_fault : List ℕ → ℕ → Kind → Option Fault
field_fault b i PolicySet = Some (plain_fault (span_of b i) 1)
field_fault b i Policy = Some (plain_fault (span_of b i) 1)
field_fault b i Rule = Some (plain_fault (span_of b i) 1)
field_fault b i Section = section_fault (span_of b i) (byte_of b i 4)
field_fault b i Conjunction = Some (plain_fault (span_of b i) 2)
field_fault b i Match = compares_fault (span_of b i) (byte_of b i 4) (type_at b i) (big_of b (i * size + 18) 2)
field_fault b i Logic = Some (plain_fault (span_of b i) 1)
field_fault b i Not = Some (plain_fault (span_of b i) 2)
field_fault b i Comparison = compares_fault (span_of b i) (byte_of b i 4) (type_at b i) (big_of b (i * size + 18) 2)
field_fault b i Weighing = Some (plain_fault (span_of b i) 1)
field_fault b i Obligation = Some (obligation_fault (span_of b i))
field_fault b i Literal = literal_fault (span_of b i) (byte_of b i 4 + big_of b (i * size + 6) 2 + big_of b (i * size + 16) 4) (type_of (byte_of b i 5))
field_fault b i Attribute = attribute_fault (span_of b i) (byte_of b i 4) (type_at b i)
field_fault b i Operator = Some (plain_fault (span_of b i) 1)
field_fault b i Nothing = Some (kind_fault (byte_of b i 0))

-- a record that may not stand below a parent whose kind is p: the parent takes no such record, or takes it at another place
unfoldable pub condition_fault : ℕ → Fault
condition_fault p = if (eqb p 3) SecondInRule (if (eqb p 7) SecondInNot NotTaken)

abbrev pub child_fault : ℕ → Kind → Fault
child_fault p PolicySet = if (eqb p 1) AfterObligation NotTaken
child_fault p Policy = if (eqb p 1) AfterObligation NotTaken
child_fault p Rule = if (eqb p 2) AfterObligation NotTaken
child_fault p Section = if (ltb p 4) LateSection NotTaken
child_fault p Conjunction = NotTaken
child_fault p Match = if (eqb p 5) OtherCategory NotTaken
child_fault p Logic = condition_fault p
child_fault p Not = condition_fault p
child_fault p Comparison = condition_fault p
child_fault p Weighing = condition_fault p
child_fault p Obligation = NotTaken
child_fault p Literal = NotTaken
child_fault p Attribute = NotTaken
child_fault p Operator = NotTaken
child_fault p Nothing = NotTaken

-- a record that has not the operands that it wants, by its kind: 7, a comparison of two values, or an operator
unfoldable pub operands_fault : ℕ → Fault
operands_fault kind = if (eqb kind 7) OtherPair OtherOperands

-- record i has the operands that it wants, which are looked for where all that it covers is there
unfoldable pub has_operands : List ℕ → ℕ → Bool
has_operands b i = either (eqb (span_of b i) 0) (either (ltb (length b) (end_of b i * size)) (operands_at b i))

-- record i, which its parent does not allow at that place, or which has not its operands
unfoldable pub place_fault : List ℕ → ℕ → Fault
place_fault b i =
    if (has_operands b i) (child_fault (byte_of b (parent_of b i) 0) (kind_at b i)) (operands_fault (byte_of b i 0))

-- record i, by the number that refuses it: 5, or 9 to 12
unfoldable pub fault_of : List ℕ → ℕ → ℕ → Option Fault
fault_of b i number =
    if (eqb number 5) (field_fault b i (kind_at b i))
    (if (eqb number 9) (Some (if (ltb 2 (byte_of b i 0)) NoTop NotAll))
    (if (eqb number 10) (Some PastEnd)
    (if (eqb number 11) (Some (place_fault b i)) (Some TooDeep))))
