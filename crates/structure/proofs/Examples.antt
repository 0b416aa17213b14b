-- Books judged by their parts, by computation. Assumes nothing.
use mathlib.Core.Path.{◌≡◌, refl}
use mathlib.Core.Bool.{Bool, true, false}
use mathlib.Core.List.{List, [], ◌∷◌}
use Prim.Native.Nat.{ℕ, ◌+◌}
use lib.ListN.{set}
use Rattle.record.specs.Bytes.{size, span_of, big_of}
use Rattle.record.specs.Below.{all_below}
use Rattle.record.specs.Forest.{span_in, grow_f, forest}
use Rattle.record.specs.Table.{tab}
use Rattle.record.proofs.BookA.{bytes, lines, book_a}
use Rattle.value.specs.Value.{finite_of}
use Rattle.fields.specs.Fields.{kind_of, kind_at, type_of, type_at, finite, zeros, plain_ok, section_ok, compares_ok, obligation_ok, field_ok}
use Rattle.placement.specs.Place.{holds_conditions, single_of, rank_at, stands_ok}
use Rattle.judge.proofs.Examples.{nested}
use Rattle.structure.specs.Subtrees.{record_count, record_at, subtrees_in, subtrees_of, bytes_of, with_span, spanned, slice_of}
use Rattle.structure.specs.Sound.{line_one, record_ok, child_ok, operands_in, sound, sound_book, sound_at}

-- worked book A of document 01, as bytes
a : List ℕ
a = lines book_a

-- a deny-overrides policy of two records, itself and one Deny rule
denies : List ℕ
denies = lines (0x0201000200000000000000000000000000000000 ∷ 0x0302000100000000000000000000000000000000 ∷ [])

-- book A; a span past the parent's end; line 1's span; 16 and 17 nested sets; rule 2 of book A as its child, by itself; the same after an obligation; the
-- policy of two records as a child of a set, after another policy
judged : List Bool
judged =
    sound_book (subtrees_of a 0 6)
    ∷ sound_book (subtrees_of (set a (size + 3) 6) 0 6)
    ∷ sound_book (subtrees_of (set a 3 5) 0 6)
    ∷ sound_book (subtrees_of (nested 16) 0 16)
    ∷ sound_book (subtrees_of (nested 17) 0 17)
    ∷ sound_at (line_one a) 5 (slice_of a 2 2) 0 2
    ∷ sound_at (line_one a) 6 (slice_of a 2 2) 0 2
    ∷ sound_at (line_one (nested 1)) 5 denies 0 2 ∷ []

computed : judged ≡ true ∷ false ∷ false ∷ true ∷ false ∷ true ∷ false ∷ true ∷ []
unfolding bytes lines book_a a nested denies judged span_of all_below span_in grow_f forest kind_of kind_at type_of type_at finite big_of finite_of zeros plain_ok section_ok compares_ok obligation_ok field_ok tab holds_conditions single_of rank_at stands_ok record_count record_at subtrees_in subtrees_of record_ok child_ok operands_in sound sound_book sound_at slice_of
computed = refl

-- book A with a wrong span on line 1, read, and written with its spans
corrected : bytes_of (spanned (subtrees_of (set a 3 7) 0 6)) ≡ a
unfolding bytes lines book_a a span_of span_in grow_f forest tab record_count record_at subtrees_in subtrees_of bytes_of with_span spanned
corrected = refl
