-- The examples of specs/Differs.antt, computed. Assumes nothing.
use Rattle.std.specs.Prelude.{Ok}
use Prim.Native.Nat.{ℕ, ◌+◌, ◌*◌, ◌^◌}
use mathlib.Core.Path.{◌≡◌, refl}
use mathlib.Core.Bool.{true}
use mathlib.Core.List.{List, [], ◌∷◌, ◌++◌}
use lib.ListN.{take, drop}
use Rattle.record.specs.Bytes.{size, byte_of, big_of, span_of}
use Rattle.record.specs.Forest.{span_in, grow_f, forest}
use Rattle.record.specs.Below.{all_below}
use Rattle.record.proofs.BookA.{bytes, lines}
use Rattle.value.specs.Value.{signed64, finite_of, value_of, function_of}
use Rattle.fields.specs.First.{count_below, last_below, first_from}
use Rattle.fields.specs.Fields.{kind_of, kind_at, type_of, type_at, finite, zeros, plain_ok, section_ok, compares_ok, obligation_ok, field_ok, obligations_of}
use Rattle.fields.specs.Entries.{entry_ok}
use Rattle.meaning.specs.Logic.{and_all, or_all, target_all}
use Rattle.meaning.specs.Numbers.{key_by}
use Rattle.meaning.specs.Meaning.{gives, comparison_of, condition_of, conditions_of, sections_of, target_of, when_of, rule_of, combine, handed, own_of, verdict_of, node_of, algorithm_of, rule_child, rule_children, child_of, children_of, decides, obliges}
use Rattle.meaning.specs.Reading.{key_at, test_at, comparison_at, target_in, condition_at, conditions_in, when_in, rule_at, rules_in, obligations_in, tree_at, trees_in, book_of, bag_from, bags_of}
use Rattle.meaning.specs.declared.Algorithm.{Algorithm}
use Rattle.meaning.specs.declared.Verdict.{Verdict}
use Rattle.operands.specs.Parent.{end_of, parent_of}
use Rattle.operands.specs.Operands.{operands_at}
use Rattle.placement.specs.Place.{elder_of, depth_of, holds_conditions, single_of, rank_at, elder_rank, stands_ok, child_rule, child_broken, top_ok, broken_at, place_ok}
use Rattle.judge.specs.Judge.{judge_records, judge_of, accepted_with}
use Rattle.judge.specs.Request.{judge_entries, judge_request_of}
use Rattle.structure.specs.Subtrees.{slice_of}
use Rattle.order.specs.Reordered.{swap}
use Rattle.order.specs.Books.{movable, end, next, together, as_is, reorders}
use Rattle.order.specs.Differs.{Differs, FirstOverRules, FirstOverPolicies, DenyOverridesDenies, PermitOverridesPermits, DenyOverridesPermits, OtherCode}

-- the child at record i changes places with the one after it
abbrev exchange : List ℕ → ℕ → List ℕ
exchange b i =
    let j = i + span_of b i in
    take (i * size) b ++ (together (slice_of b j (span_of b j) ∷ slice_of b i (span_of b i) ∷ []) ++ drop ((j + span_of b j) * size) b)

-- a book whose children at record i and after it are exchanged, and what is computed of it
differs : {kind : ℕ} {a : Algorithm} {v w : Verdict} {os ps : List ℕ} (b q : List ℕ) (i n o m : ℕ)
    → judge_of b ≡ accepted_with n o → judge_request_of q ≡ Ok m
    → (byte_of b 0 0 ≡ kind) × (algorithm_of (book_of b) ≡ a)
    → (parent_of b i ≡ 0) × (movable b i ≡ true) × (parent_of b (i + span_of b i) ≡ 0) × (movable b (i + span_of b i) ≡ true)
    → (decides (bags_of q) (book_of b) ≡ v) × (obliges (bags_of q) (book_of b) ≡ os)
    → (decides (bags_of q) (book_of (exchange b i)) ≡ w) × (obliges (bags_of q) (book_of (exchange b i)) ≡ ps) → Differs kind a v os w ps
differs b q i n o m accepted asked top children old new =
    let j : ℕ = i + span_of b i in
    let x : List ℕ = slice_of b i (span_of b i) in
    let y : List ℕ = slice_of b j (span_of b j) in
    record {
      old = b;
      new = exchange b i;
      asked = q;
      records = n;
      obligations = o;
      entries = m;
      accepted = accepted;
      request = asked;
      line_one_lem = top;
      rearranged = reorders (record {
        parent = 0;
        first = i;
        last = j + span_of b j;
        before = x ∷ y ∷ [];
        after = y ∷ x ∷ [];
        row = next children.0 children.1 (next children.2 children.3 end);
        lets = refl;
        reordered = swap;
        bytes = refl;
      }) as_is;
      old_answer = old;
      new_answer = new;
    }

-- a line by its first eight bytes; the others are zero
line : ℕ → ℕ
line k = k * 2 ^ 96

permit_rule : ℕ
permit_rule = line 0x0301000100000000

deny_rule : ℕ
deny_rule = line 0x0302000100000000

-- a first-applicable policy of two rules
rules : List ℕ
rules = lines (line 0x0203000300000000 ∷ permit_rule ∷ deny_rule ∷ [])

-- a first-applicable set of two policies, each with one rule
policies : List ℕ
policies = lines (line 0x0103000500000000 ∷ line 0x0201000200000000 ∷ permit_rule ∷ line 0x0201000200000000 ∷ deny_rule ∷ [])

-- a set of two policies, each with this rule and an obligation
obliging : ℕ → ℕ → ℕ → ℕ → List ℕ
obliging head rule one two = lines (head ∷ line 0x0201000300000000 ∷ rule ∷ one ∷ line 0x0201000300000000 ∷ rule ∷ two ∷ [])

-- deny-overrides of two that deny, permit-overrides of two that permit, deny-overrides of two that permit; the obligations are 1 and 2
denying : List ℕ
denying = obliging (line 0x0101000700000000) deny_rule (line 0x0802000100000001) (line 0x0802000100000002)

permitting : List ℕ
permitting = obliging (line 0x0102000700000000) permit_rule (line 0x0801000100000001) (line 0x0801000100000002)

permitted : List ℕ
permitted = obliging (line 0x0101000700000000) permit_rule (line 0x0801000100000001) (line 0x0801000100000002)

-- a permit-overrides set of two policies, with a Permit rule on environment attribute 7 and on 8
unsure : List ℕ
unsure =
    lines (line 0x0102000700000000
    ∷ line 0x0201000300000000 ∷ line 0x0301000200000000 ∷ 0x070C000104010007000000000000003200000000
    ∷ line 0x0201000300000000 ∷ line 0x0301000200000000 ∷ 0x070C000104010008000000000000003200000000
    ∷ [])

-- attribute 8 twice, and 7 not at all
twice : List ℕ
twice = lines (0x0401000800000000000000000000002800000000 ∷ 0x0401000800000000000000000000002900000000 ∷ [])

examples : FirstOverRules × FirstOverPolicies × DenyOverridesDenies × PermitOverridesPermits × DenyOverridesPermits × OtherCode
unfolding line permit_rule deny_rule rules policies obliging denying permitting permitted unsure twice lines bytes
    judge_of judge_records judge_request_of judge_entries place_ok broken_at top_ok child_broken child_rule stands_ok operands_at elder_rank rank_at single_of holds_conditions depth_of elder_of parent_of end_of
    entry_ok obligations_of field_ok obligation_ok compares_ok section_ok plain_ok zeros finite type_at type_of kind_at kind_of first_from last_below count_below all_below
    decides obliges child_of children_of rule_children rule_child node_of verdict_of own_of handed combine rule_of when_of target_of sections_of condition_of conditions_of comparison_of gives key_by
    book_of trees_in tree_at obligations_in rules_in rule_at when_in conditions_in condition_at target_in comparison_at test_at key_at bags_of bag_from
    forest grow_f span_in span_of big_of function_of value_of finite_of signed64 and_all or_all target_all slice_of
examples = (
  differs rules [] 1 3 0 0 refl refl (refl, refl) (refl, refl, refl, refl) (refl, refl) (refl, refl),
  differs policies [] 1 5 0 0 refl refl (refl, refl) (refl, refl, refl, refl) (refl, refl) (refl, refl),
  differs denying [] 1 7 2 0 refl refl (refl, refl) (refl, refl, refl, refl) (refl, refl) (refl, refl),
  differs permitting [] 1 7 2 0 refl refl (refl, refl) (refl, refl, refl, refl) (refl, refl) (refl, refl),
  differs permitted [] 1 7 2 0 refl refl (refl, refl) (refl, refl, refl, refl) (refl, refl) (refl, refl),
  differs unsure twice 1 7 0 2 refl refl (refl, refl) (refl, refl, refl, refl) (refl, refl) (refl, refl),
)

pub first_over_rules : FirstOverRules
first_over_rules = examples.0

pub first_over_policies : FirstOverPolicies
first_over_policies = examples.1

pub deny_overrides_denies : DenyOverridesDenies
deny_overrides_denies = examples.2

pub permit_overrides_permits : PermitOverridesPermits
permit_overrides_permits = examples.3

pub deny_overrides_permits : DenyOverridesPermits
deny_overrides_permits = examples.4

pub other_code : OtherCode
other_code = examples.5
