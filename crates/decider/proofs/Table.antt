-- Document 01's examples P1 to P11, with the codes of document 02, section 4, and P1 to P6 with the issuers of section 5, computed from the bytes of
-- hexadecimal lines: judged, decided, and what is left in four places. Assumes nothing.
use mathlib.Core.Path.{◌≡◌, refl}
use mathlib.Core.List.{List, [], ◌∷◌}
use Prim.Native.Nat.{ℕ}
use Rattle.record.specs.Bytes.{big_of, span_of}
use Rattle.record.specs.Forest.{span_in, grow_f, forest}
use Rattle.record.specs.Below.{all_below}
use Rattle.record.proofs.BookA.{bytes, lines, book_a, is40}
use Rattle.value.specs.Value.{signed64, finite_of, value_of, function_of}
use Rattle.fields.specs.First.{count_below, last_below, first_from}
use Rattle.fields.specs.Fields.{kind_of, kind_at, type_of, type_at, finite, zeros, plain_ok, section_ok, compares_ok, obligation_ok, field_ok, obligations_of}
use Rattle.fields.specs.Entries.{entry_ok}
use Rattle.sums.specs.declared.Status.TheVariants.{Missing, Processing}
use Rattle.meaning.specs.Logic.{and_all, or_all, target_all}
use Rattle.meaning.specs.Numbers.{key_by}
use Rattle.meaning.specs.Meaning.{gives, match_in, match_of, comparison_of, condition_of, conditions_of, conjunction_of, section_of, sections_of, target_of, when_of, rule_of, combine, handed, own_of, verdict_of, node_of, rule_child, rule_children, child_of, children_of, decides, obliges}
use Rattle.meaning.specs.Reading.{key_at, test_at, match_at, comparison_at, row_of, children_at, conjunction_at, section_at, target_in, condition_at, conditions_in, when_in, rule_at, rules_in, obligations_in, tree_at, trees_in, book_of, bag_from, bags_of}
use Rattle.meaning.specs.declared.Verdict.{Verdict}
use Rattle.meaning.specs.declared.Verdict.TheVariants.{Permit, Deny, NotApplicable, Indeterminate}
use Rattle.operands.specs.Parent.{end_of, parent_of}
use Rattle.operands.specs.Operands.{operands_at}
use Rattle.placement.specs.Place.{elder_of, depth_of, holds_conditions, single_of, rank_at, elder_rank, stands_ok, child_rule, child_broken, top_ok, broken_at, place_ok}
use Rattle.judge.specs.Judge.{judge_records, judge_of}
use Rattle.judge.specs.Request.{judge_entries, judge_request_of}
use Rattle.decider.specs.Outcome.{duties_of, outcome_of, out_of, Outcome, decided_with}

-- a set over A: deny-overrides, permit-overrides; an only-one set over a policy without rules, then A
deny_set : List ℕ
deny_set = 0x0101000700000000000000000000000000000000 ∷ book_a

permit_set : List ℕ
permit_set = 0x0102000700000000000000000000000000000000 ∷ book_a

only_set : List ℕ
only_set = 0x0104000800000000000000000000000000000000 ∷ 0x0201000100000000000000000000000000000000 ∷ book_a

-- a subjects section Indeterminate, an actions section No-match; one Permit rule
two_sections : List ℕ
two_sections =
    0x0201000800000000000000000000000000000000
    ∷ 0x0400000301000000000000000000000000000000
    ∷ 0x0500000200000000000000000000000000000000
    ∷ 0x0601000101810001000000000000000100000000
    ∷ 0x0400000303000000000000000000000000000000
    ∷ 0x0500000200000000000000000000000000000000
    ∷ 0x0601000103010001000000000000000100000000
    ∷ 0x0301000100000000000000000000000000000000
    ∷ []

-- a single conjunction of False and Indeterminate as target, one Permit rule
one_conjunction : List ℕ
one_conjunction =
    0x0201000600000000000000000000000000000000
    ∷ 0x0400000401000000000000000000000000000000
    ∷ 0x0500000300000000000000000000000000000000
    ∷ 0x0601000101010001000000000000000100000000
    ∷ 0x0601000101810002000000000000000100000000
    ∷ 0x0301000100000000000000000000000000000000
    ∷ []

-- book A, but of environment attribute 7 only what maker 5 vouches for
of_maker5 : List ℕ
of_maker5 =
    0x0201000600000000000000000000000000000000
    ∷ 0x0301000100000000000000000000000000000000
    ∷ 0x0302000200000000000000000000000000000000
    ∷ 0x070C000104010007000000000000003200050000
    ∷ 0x0801000100000011000000000000000000000000
    ∷ 0x0802000100000012000000000000000000000000
    ∷ []

-- other integers in environment attribute 7
is50 : ℕ
is50 = 0x0401000700000000000000000000003200000000

is60 : ℕ
is60 = 0x0401000700000000000000000000003C00000000

is_minus1 : ℕ
is_minus1 = 0x0401000700000000FFFFFFFFFFFFFFFF00000000

-- 40 there, vouched for by makers 5 and 9
by5 : ℕ
by5 = 0x0401000700000000000000000000002800050000

by9 : ℕ
by9 = 0x0401000700000000000000000000002800090000

record Row : Type 0 where
  answer : Outcome
  places : List ℕ

run : List ℕ → List ℕ → Row
run b q = record { answer = outcome_of (lines b) (lines q) 4; places = out_of (lines b) (lines q) (9 ∷ 9 ∷ 9 ∷ 9 ∷ []) }

none : Verdict → Row
none v = record { answer = decided_with v 0; places = 0 ∷ 0 ∷ 0 ∷ 0 ∷ [] }

one : Verdict → ℕ → Row
one v x = record { answer = decided_with v 1; places = x ∷ 0 ∷ 0 ∷ 0 ∷ [] }

-- missing: the Deny rule's bag is empty (P1, P8), as is the bag of the subjects section's match (P10); a processing error: a bag of two (P6), two children
-- that apply (P9); a Deny made from an Indeterminate child has no code (P7). With an issuer only that maker's value counts, nobody's does not; without
-- one every value does
table : run book_a [] ∷ run book_a (is60 ∷ []) ∷ run book_a (is40 ∷ []) ∷ run book_a (is50 ∷ []) ∷ run book_a (is_minus1 ∷ []) ∷ run book_a (is40 ∷ is40 ∷ [])
    ∷ run deny_set [] ∷ run permit_set [] ∷ run only_set (is60 ∷ []) ∷ run two_sections [] ∷ run one_conjunction []
    ∷ run of_maker5 [] ∷ run of_maker5 (by5 ∷ []) ∷ run of_maker5 (by9 ∷ []) ∷ run of_maker5 (is40 ∷ []) ∷ run of_maker5 (by9 ∷ by5 ∷ is40 ∷ []) ∷ run of_maker5 (by5 ∷ by5 ∷ [])
    ∷ run book_a (by9 ∷ []) ∷ run book_a (by9 ∷ by5 ∷ []) ∷ []
    ≡ none (Indeterminate Missing) ∷ one Permit 17 ∷ one Deny 18 ∷ one Permit 17 ∷ one Deny 18 ∷ none (Indeterminate Processing)
    ∷ none Deny ∷ none (Indeterminate Missing) ∷ none (Indeterminate Processing) ∷ none (Indeterminate Missing) ∷ none NotApplicable
    ∷ none (Indeterminate Missing) ∷ one Deny 18 ∷ none (Indeterminate Missing) ∷ none (Indeterminate Missing) ∷ one Deny 18 ∷ none (Indeterminate Processing)
    ∷ one Deny 18 ∷ none (Indeterminate Processing) ∷ []
unfolding run none one lines bytes book_a deny_set permit_set only_set two_sections one_conjunction of_maker5 is40 is50 is60 is_minus1 by5 by9
    outcome_of out_of duties_of judge_of judge_records judge_request_of judge_entries place_ok broken_at top_ok child_broken child_rule stands_ok operands_at elder_rank rank_at single_of holds_conditions depth_of elder_of parent_of end_of
    entry_ok obligations_of field_ok obligation_ok compares_ok section_ok plain_ok zeros finite type_at type_of kind_at kind_of first_from last_below count_below all_below
    decides obliges child_of children_of rule_children rule_child node_of verdict_of own_of handed combine rule_of when_of target_of sections_of section_of conjunction_of condition_of conditions_of comparison_of match_of match_in gives key_by
    book_of trees_in tree_at obligations_in rules_in rule_at when_in conditions_in condition_at target_in section_at conjunction_at children_at row_of comparison_at match_at test_at key_at bags_of bag_from
    forest grow_f span_in span_of big_of function_of value_of finite_of signed64 and_all or_all target_all
table = refl
