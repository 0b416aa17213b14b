-- Books and requests judged by computation. Assumes nothing.
use Rattle.std.specs.Prelude.{Err, Ok}
use mathlib.Core.Path.{◌≡◌, refl}
use mathlib.Core.List.{List, [], ◌∷◌, ◌++◌}
use Prim.Native.Nat.{ℕ, zero, suc, ◌+◌, ◌-◌, ◌*◌}
use lib.ListN.{set, replicate}
use Rattle.record.specs.Bytes.{size, span_of, big_of}
use Rattle.record.specs.Refusals.{book, request, no_record, cut_short, bad_field, bad_place}
use Rattle.record.specs.Below.{all_below}
use Rattle.record.proofs.BookA.{bytes, lines, book_a, is40}
use Rattle.value.specs.Value.{finite_of}
use Rattle.fields.specs.First.{count_below, last_below, first_from}
use Rattle.fields.specs.Fields.{kind_of, kind_at, type_of, type_at, finite, zeros, plain_ok, section_ok, compares_ok, obligation_ok, literal_ok, attribute_ok, field_ok, obligations_of}
use Rattle.fields.specs.Entries.{entry_ok}
use Rattle.operands.specs.Parent.{end_of, parent_of}
use Rattle.operands.specs.Operands.{value_type, is_child, is_operand, two_values, comparable_by, operands_at}
use Rattle.placement.specs.Place.{elder_of, depth_of, holds_conditions, single_of, holds_values, rank_at, elder_rank, stands_ok, child_rule, child_broken, top_ok, broken_at, place_ok}
use Rattle.judge.specs.Judge.{judge_records, judge_of, Judged, accepted_with}
use Rattle.judge.specs.Request.{judge_entries, judge_request_of, JudgedRequest}

-- worked book A of document 01, as bytes
a : List ℕ
a = lines book_a

-- n nested sets
unfoldable pub nested : ℕ → List ℕ
nested zero = []
nested (suc n) = 1 ∷ 1 ∷ 0 ∷ suc n ∷ replicate (size - 4) 0 ++ nested n

-- a rule whose condition is that environment attribute 7 plus 2 is greater than 50
unfoldable pub sum : List ℕ
sum = lines (
    0x0201000700000000000000000000000000000000
    ∷ 0x0301000600000000000000000000000000000000
    ∷ 0x0716000500000000000000000000000000000000
    ∷ 0x0A03000300000000000000000000000000000000
    ∷ 0x0A02000104010007000000000000000000000000
    ∷ 0x0A01000100010000000000000000000200000000
    ∷ 0x0A01000100010000000000000000003200000000
    ∷ []
    )

-- book A; nothing; one byte too many; greater of a name; an obligation's unused byte; line 1's span, and with a field rule on a later line; a span past the
-- parent's end; a rule after an obligation; 16 and 17 nested sets, and in the place of the last a rule, then one that runs past its parent's end; a
-- sum, then with a double in it, compared with a name, and a third number in it, which the comparison then lacks; an issuer of the comparison, of
-- the attribute, of a rule, of a literal, and a byte behind the issuer
judged : List Judged
judged =
    judge_of a
    ∷ judge_of []
    ∷ judge_of (0 ∷ a)
    ∷ judge_of (set a (3 * size + 5) 2)
    ∷ judge_of (set a (5 * size + 5) 1)
    ∷ judge_of (set a 3 5)
    ∷ judge_of (set (set a 3 5) (5 * size + 3) 2)
    ∷ judge_of (set a (size + 3) 6)
    ∷ judge_of (set (set a (5 * size) 3) (5 * size + 7) 0)
    ∷ judge_of (nested 16)
    ∷ judge_of (nested 17)
    ∷ judge_of (set (nested 17) (16 * size) 3)
    ∷ judge_of (set (set (nested 17) (16 * size) 3) (16 * size + 3) 2)
    ∷ judge_of sum
    ∷ judge_of (set sum (4 * size + 5) 3)
    ∷ judge_of (set sum (6 * size + 5) 2)
    ∷ judge_of (set sum (3 * size + 3) 4)
    ∷ judge_of (set a (3 * size + 17) 5)
    ∷ judge_of (set sum (4 * size + 16) 5)
    ∷ judge_of (set a (size + 17) 5)
    ∷ judge_of (set sum (5 * size + 17) 5)
    ∷ judge_of (set a (3 * size + 18) 5) ∷ []

computed : judged
    ≡ accepted_with 6 2
    ∷ Err (no_record book)
    ∷ Err (cut_short book)
    ∷ Err (bad_field book 4)
    ∷ Err (bad_field book 6)
    ∷ Err (bad_place 9 1)
    ∷ Err (bad_field book 6)
    ∷ Err (bad_place 10 2)
    ∷ Err (bad_place 11 6)
    ∷ accepted_with 16 0
    ∷ Err (bad_place 12 17)
    ∷ Err (bad_place 11 17)
    ∷ Err (bad_place 10 17)
    ∷ accepted_with 7 0
    ∷ Err (bad_place 11 4)
    ∷ Err (bad_place 11 3)
    ∷ Err (bad_place 11 3)
    ∷ accepted_with 6 2
    ∷ accepted_with 7 0
    ∷ Err (bad_field book 2)
    ∷ Err (bad_field book 6)
    ∷ Err (bad_field book 4) ∷ []
unfolding a bytes lines book_a nested sum judged judge_of judge_records span_of all_below count_below last_below first_from kind_of kind_at type_of type_at finite big_of finite_of zeros plain_ok section_ok compares_ok obligation_ok literal_ok attribute_ok field_ok obligations_of end_of parent_of elder_of depth_of holds_conditions single_of holds_values rank_at elder_rank stands_ok value_type is_child is_operand two_values comparable_by operands_at child_rule child_broken top_ok broken_at place_ok
computed = refl

-- the request of document 01's printed example
forty : List ℕ
forty = lines (is40 ∷ [])

-- the request; nothing; one byte too many; must-be-present in an entry; an infinite double; an issuer, and a byte behind it
judged_requests : List JudgedRequest
judged_requests =
    judge_request_of forty
    ∷ judge_request_of []
    ∷ judge_request_of (0 ∷ forty)
    ∷ judge_request_of (set forty 1 129)
    ∷ judge_request_of (set (set (set forty 1 3) 8 127) 9 240)
    ∷ judge_request_of (set forty 17 5)
    ∷ judge_request_of (set forty 19 5) ∷ []

computed_requests : judged_requests
    ≡ Ok 1
    ∷ Ok 0
    ∷ Err (cut_short request)
    ∷ Err (bad_field request 1)
    ∷ Err (bad_field request 1)
    ∷ Ok 1
    ∷ Err (bad_field request 1) ∷ []
unfolding bytes lines is40 forty judged_requests judge_request_of judge_entries all_below first_from type_of finite big_of finite_of zeros entry_ok
computed_requests = refl
