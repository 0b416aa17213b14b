-- Half-copied books mended by computation. Assumes nothing.
use Rattle.std.specs.Prelude.{Err}
use mathlib.Core.Path.{◌≡◌, refl}
use mathlib.Core.List.{List, [], ◌∷◌}
use Prim.Native.Nat.{ℕ}
use lib.ListN.{set}
use Rattle.record.specs.Bytes.{span_of}
use Rattle.record.specs.Below.{all_below}
use Rattle.record.specs.Forest.{span_in, grow_f, forest}
use Rattle.record.specs.Refusals.{no_room, spoilt}
use Rattle.record.specs.Table.{tab}
use Rattle.record.proofs.BookA.{bytes, lines, book_a}
use Rattle.fields.specs.First.{first_from}
use Rattle.fields.specs.Fields.{kind_of, kind_at, type_of, type_at, zeros, plain_ok, section_ok, compares_ok, obligation_ok, field_ok}
use Rattle.placement.specs.Place.{rank_at, stands_ok}
use Rattle.structure.specs.Subtrees.{record_count, record_at, subtrees_in, subtrees_of, bytes_of, with_span}
use Rattle.structure.specs.Sound.{record_ok, child_ok, operands_in, sound}
use Rattle.spoilt.specs.Spoilt.{line_ok, good_at, replaceable, inside_at, mendable_at, first_spoilt, is_set}
use Rattle.mending.specs.Mending.{mended, replacements, headed, salvage_of}
use Rattle.mending.specs.Salvaged.{answer_by, answer_of, bytes_of_all, records_in, replaced_in, Salvaged, mended_with}

-- a set of a section, a policy of two rules, a set of no policy, a policy of one rule and an obligation
book : List ℕ
book =
    0x0101000B00000000000000000000000000000000
    ∷ 0x0400000303000000000000000000000000000000
    ∷ 0x0500000200000000000000000000000000000000
    ∷ 0x0601000103020001575249544520202000000000
    ∷ 0x0201000300000000000000000000000000000000
    ∷ 0x0301000100000000000000000000000000000000
    ∷ 0x0302000100000000000000000000000000000000
    ∷ 0x0101000100000000000000000000000000000000
    ∷ 0x0202000200000000000000000000000000000000
    ∷ 0x0301000100000000000000000000000000000000
    ∷ 0x0801000100000011000000000000000000000000
    ∷ []

-- lines 7 and 10 are spoilt: a wrong digit, and a span past the end of its policy; so the policies of line 5 and of line 9 are
twice : List ℕ
twice = set (set book 6 0) 9 0x0301000200000000000000000000000000000000

answer : List ℕ → Salvaged
answer b = answer_of (lines b) 220 22

-- as it is; line 7 with a wrong digit; that and line 10; the head of a policy, and one whose span is past the end; the section of line 2, by its match; line 1's span;
-- book A, a policy; room for a record less
answers : List Salvaged
answers =
    answer book
    ∷ answer (set book 6 0)
    ∷ answer twice
    ∷ answer (set book 8 0)
    ∷ answer (set book 8 0x0202000400000000000000000000000000000000)
    ∷ answer (set book 3 0)
    ∷ answer (set book 0 0x0101000A00000000000000000000000000000000)
    ∷ answer book_a
    ∷ answer_of (lines twice) 200 22
    ∷ []

computed : answers ≡
    mended_with 11 0 ∷ mended_with 10 1 ∷ mended_with 10 2 ∷ Err (spoilt 9) ∷ Err (spoilt 9) ∷ Err (spoilt 4) ∷ Err (spoilt 1) ∷ Err (spoilt 1) ∷ Err no_room ∷ []
unfolding book twice answer answers span_of all_below span_in grow_f forest tab bytes lines book_a first_from kind_of kind_at type_of type_at zeros plain_ok section_ok compares_ok obligation_ok field_ok rank_at stands_ok record_count record_at subtrees_in subtrees_of record_ok child_ok operands_in sound line_ok good_at replaceable inside_at mendable_at first_spoilt is_set mended replacements headed salvage_of answer_by answer_of
computed = refl

-- the third of these as it is written: the new policies at lines 5 and 8, and 10 records in line 1's span; and what was replaced
written : (records_in (salvage_of (lines twice) 11) ≡ lines (
    0x0101000A00000000000000000000000000000000
    ∷ 0x0400000303000000000000000000000000000000
    ∷ 0x0500000200000000000000000000000000000000
    ∷ 0x0601000103020001575249544520202000000000
    ∷ 0x0201000200000000000000000000000000000000
    ∷ 0x0302000100000000000000000000000000000000
    ∷ 0x0101000100000000000000000000000000000000
    ∷ 0x0201000200000000000000000000000000000000
    ∷ 0x0302000100000000000000000000000000000000
    ∷ 0x0801000100000011000000000000000000000000
    ∷ []))
    × (replaced_in (salvage_of (lines twice) 11) ≡ 0 ∷ 5 ∷ 0 ∷ 3 ∷ 0 ∷ 9 ∷ 0 ∷ 2 ∷ [])
unfolding book twice span_of all_below span_in grow_f forest tab bytes lines first_from kind_of kind_at type_of type_at zeros plain_ok section_ok compares_ok obligation_ok field_ok rank_at stands_ok record_count record_at subtrees_in subtrees_of bytes_of with_span record_ok child_ok operands_in sound line_ok good_at replaceable inside_at mendable_at first_spoilt is_set mended replacements headed salvage_of bytes_of_all records_in replaced_in
written = (refl, refl)
