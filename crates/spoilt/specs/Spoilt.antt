-- The bad lines of a half-copied book (document 02, 6). A line with a wrong digit counts as a record of zeros: kind 0 breaks a field rule, and span 0 covers
-- no other line. The records are read as subtrees, where a span counts as no more than is left to its parent: so none inside a child of line 1 covers a
-- line past that child's end. Lines are counted from 0 here. Assumes nothing.
use Rattle.std.specs.Prelude.{ℕ, zero, suc, ◌-◌, Bool, true, false, List, eqb, ltb}
use Rattle.record.specs.Choose.{if, both, either, among}
use Rattle.record.specs.Bytes.{span_of}
use Rattle.fields.specs.First.{first_from}
use Rattle.fields.specs.Fields.{kind_at, field_ok}
use Rattle.placement.specs.Place.{kind_number, rank_at}
use Rattle.structure.specs.Subtrees.{Subtrees, no_subtree, subtree, record_count}
use Rattle.structure.specs.Sound.{Parent, as_parent, record_ok, child_ok, operands_in}

-- a line that is not bad, as a child of u after a child of rank e: it keeps the field rules, covers what its span states and no more, may stand there, and has
-- the operands that it wants
unfoldable pub line_ok : Parent → ℕ → List ℕ → Subtrees → Bool
line_ok u e r kids = both (record_ok r (record_count kids)) (both (child_ok u e r) (operands_in r kids))

-- line k of some subtrees is not bad
unfoldable pub good_at : Parent → ℕ → Subtrees → ℕ → Bool
good_at u e no_subtree k = true
good_at u e (subtree r kids rest) zero = line_ok u e r kids
good_at u e (subtree r kids rest) (suc k) =
    if (ltb k (record_count kids)) (good_at (as_parent u r 0) 0 kids k) (good_at u (rank_at r 0) rest (k - record_count kids))

-- a policy or a set, with a sound head line, may be replaced
unfoldable pub replaceable : Parent → ℕ → List ℕ → Subtrees → Bool
replaceable u e r kids = both (among 1 2 (kind_number (kind_at r 0))) (line_ok u e r kids)

-- line k is inside such a one
unfoldable pub inside_at : Parent → ℕ → Subtrees → ℕ → Bool
inside_at u e no_subtree k = false
inside_at u e (subtree r kids rest) zero = false
inside_at u e (subtree r kids rest) (suc k) =
    if (ltb k (record_count kids)) (replaceable u e r kids) (inside_at u (rank_at r 0) rest (k - record_count kids))

-- the first bad line; as many as there are where none is bad
unfoldable pub first_bad : Parent → ℕ → Subtrees → ℕ
first_bad u e x = first_from (good_at u e x) 0 (record_count x)

-- of line 1's children and what is below them: the first bad line outside those that may be replaced
unfoldable pub mendable_at : Parent → ℕ → Subtrees → ℕ → Bool
mendable_at u e x k = either (inside_at u e x k) (good_at u e x k)

unfoldable pub first_spoilt : Parent → ℕ → Subtrees → ℕ
first_spoilt u e x = first_from (mendable_at u e x) 0 (record_count x)

-- line 1 is a sound set, whose span is the number of records
unfoldable pub is_set : List ℕ → ℕ → Bool
is_set b n = both (field_ok b 0) (both (eqb (kind_number (kind_at b 0)) 1) (eqb (span_of b 0) n))
