-- When subtrees are sound: every record keeps its field rules, states its span and may stand where it does. The rules are those of `fields` and `placement`, asked of
-- a record by itself, as record 0 of its bytes. Assumes nothing.
use Rattle.std.specs.Prelude.{ℕ, suc, ◌+◌, ◌≤◌, ◌≡◌, Bool, true, false, List, eqb, ltb, length}
use Rattle.record.specs.Choose.{both, among}
use Rattle.record.specs.Bytes.{size, byte_of, span_of}
use Rattle.fields.specs.Fields.{kind_at, field_ok}
use Rattle.operands.specs.Operands.{value_type, operands_ok}
use Rattle.placement.specs.Place.{most_depth, kind_number, rank_at, stands_ok, place_ok}
use Rattle.placement.specs.Keeps.{Sized}
use Rattle.structure.specs.Subtrees.{Subtrees, no_subtree, subtree, record_count, subtrees_of, slice_of}

-- what children are judged by beside their own records: how many levels are above them, the number and category of their parent, and its parent's category
pub record Parent : Type 0 where
  pub above : ℕ
  pub number : ℕ
  pub category : ℕ
  pub grand : ℕ

-- record i as a parent, itself a child of u; and line 1 as a parent, which stands for its own parent
abbrev pub as_parent : Parent → List ℕ → ℕ → Parent
as_parent u b i = record { above = u.above + 1; number = kind_number (kind_at b i); category = byte_of b i 4; grand = u.category }

abbrev pub line_one : List ℕ → Parent
line_one b = record { above = 1; number = kind_number (kind_at b 0); category = byte_of b 0 4; grand = byte_of b 0 4 }

-- a record by itself, with n records below it: it has all its bytes, keeps the field rules and states its span
unfoldable pub record_ok : List ℕ → ℕ → Bool
record_ok r n = both (eqb (length r) size) (both (field_ok r 0) (eqb (span_of r 0) (suc n)))

-- a record as a child of u, after a child of rank e: it may stand there, and is not too deep
unfoldable pub child_ok : Parent → ℕ → List ℕ → Bool
child_ok u e r = both (stands_ok u.number (kind_at r 0) (byte_of r 0 4) e u.grand) (ltb u.above most_depth)

-- the type of the first of some subtrees, where it is a value; and whether they are two values of type t
unfoldable pub first_type : Subtrees → ℕ
first_type no_subtree = 0
first_type (subtree r kids rest) = value_type r 0

unfoldable pub two_of : Subtrees → ℕ → Bool
two_of no_subtree t = false
two_of (subtree r kids no_subtree) t = false
two_of (subtree r kids (subtree r' kids' no_subtree)) t = both (eqb (value_type r 0) t) (eqb (value_type r' 0) t)
two_of (subtree r kids (subtree r' kids' (subtree r'' kids'' rest))) t = false

-- a record has the operands that it wants, by the subtrees of its children
unfoldable pub operands_in : List ℕ → Subtrees → Bool
operands_in r kids = operands_ok (kind_at r 0) (byte_of r 0 1) (first_type kids) (two_of kids)

-- subtrees that are sound as children of u, after a child of rank e; 0 where there is none before
unfoldable pub sound : Parent → ℕ → Subtrees → Bool
sound u e no_subtree = true
sound u e (subtree r kids rest) =
    both (record_ok r (record_count kids))
    (both (both (child_ok u e r) (operands_in r kids))
    (both (sound (as_parent u r 0) 0 kids) (sound u (rank_at r 0) rest)))

-- the rank of the last child, where a child of rank e stands before
unfoldable pub rank_after : ℕ → Subtrees → ℕ
rank_after e no_subtree = e
rank_after e (subtree r kids rest) = rank_after (rank_at r 0) rest

-- a sound book: one subtree, of a policy set or a policy, whose children are sound
unfoldable pub sound_book : Subtrees → Bool
sound_book no_subtree = false
sound_book (subtree r kids no_subtree) = both (record_ok r (record_count kids)) (both (among 1 2 (kind_number (kind_at r 0))) (sound (line_one r) 0 kids))
sound_book (subtree r kids (subtree r' kids' rest')) = false

-- the s records from i on are sound as children of u, after a child of rank e
unfoldable pub sound_at : Parent → ℕ → List ℕ → ℕ → ℕ → Bool
sound_at u e b i s = sound u e (subtrees_of b i s)

-- record i and all that its span covers, by themselves, are sound as a child of u, after a child of rank e
pub record SoundChild (u : Parent) (e : ℕ) (b : List ℕ) (i : ℕ) : Type 0 where
  pub some : 1 ≤ span_of b i
  pub alone : sound_at u e (slice_of b i (span_of b i)) 0 (span_of b i) ≡ true

-- from place i to `end` stand sound children of u, one after another by their spans; a child of rank e stands before them
pub data SoundChildren (u : Parent) (b : List ℕ) (end : ℕ) : ℕ → ℕ → Type 0 where
  done : {e i : ℕ} → i ≡ end → SoundChildren u b end e i
  child : {e i : ℕ} → SoundChild u e b i → SoundChildren u b end (rank_at b i) (i + span_of b i) → SoundChildren u b end e i

-- n records in sound parts: the head, line 1, and its children one level down: its sections, then its policies and sets or its rules, then its obligations
pub record SoundParts (b : List ℕ) (n : ℕ) : Type 0 where
  pub sized : Sized b n
  pub fields : field_ok b 0 ≡ true
  pub place : place_ok b 0 ≡ true
  pub children : SoundChildren (line_one b) b n 0 1
