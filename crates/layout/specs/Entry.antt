-- The entries of a programme, as words. How numbers stand for them is in specs/Layout.antt. Assumes nothing.
use Rattle.std.specs.Prelude.{ℕ, ◌+◌, suc, max, Bool, true, false, leb, ltb}
use Rattle.record.specs.Choose.{both}
use Rattle.value.specs.declared.Function.{Function}
use Rattle.sums.specs.declared.Operator.{Operator}
use Rattle.meaning.specs.declared.Test.{Test}
use Rattle.meaning.specs.declared.Effect.{Effect}
use Rattle.meaning.specs.declared.Algorithm.{Algorithm}
use Rattle.layout.specs.declared.Op.{Op}
use Rattle.layout.specs.Room.{room_p}

-- the pieces of a comparison of two values: a literal, by its type; the only value of an attribute, by the number of its key; an operator; the
-- comparison itself, by its function and the type of both
pub data Piece : Type 0 where
  loads : ℕ → ℕ → Piece
  asks : ℕ → Piece
  works : Operator → Piece
  tests : Function → ℕ → Piece

-- a literal has a second entry
abbrev pub piece_extra : Piece → ℕ
piece_extra (loads k n) = 1
piece_extra (asks key) = 0
piece_extra (works o) = 0
piece_extra (tests f k) = 0

pub data Entry : Type 0 where
  -- the first entry: the book's policy or set is entered, and where the obligations on Deny begin
  begin : Algorithm → ℕ → Entry
  -- a match: is it the last of its conjunction, is that the last of its section, is that the last of its target; how many entries to leave out to
  -- the next conjunction, to the next section, and out of the target
  match : Test → Bool → Bool → Bool → ℕ → ℕ → ℕ → Entry
  -- the second or third entry of a match, a comparison or a literal
  further : Entry
  -- a condition with parts is opened; a comparison; a condition is closed: how many entries to leave out where that settles what it is a part of
  opens : Op → Entry
  compare : Test → ℕ → Entry
  close : ℕ → Entry
  -- a piece of a comparison of two values
  sum : Piece → Entry
  -- a rule with its effect: how many entries to leave out where that settles its policy
  rule : Effect → ℕ → Entry
  -- a policy or set is entered; it applies (below an only-one set); it concludes; an obligation; it is left
  enter : Algorithm → Entry
  applies : ℕ → Entry
  conclude : ℕ → Entry
  oblige : Effect → ℕ → Entry
  leave : ℕ → Entry
  -- the end; while some are left above, obligations on Deny are brought down to the first places before it
  finish : Entry

-- entries beside the first
abbrev pub extra : Entry → ℕ
extra (begin al c) = 0
extra (match t m c l i j x) = 2
extra further = 0
extra (opens op) = 0
extra (compare t n) = 2
extra (close n) = 0
extra (sum p) = piece_extra p
extra (rule e n) = 0
extra (enter al) = 0
extra (applies n) = 0
extra (conclude n) = 0
extra (oblige e n) = 0
extra (leave n) = 0
extra finish = 0

-- how far an entry may lead, counted from behind it
abbrev pub reach : Entry → ℕ
reach (begin al c) = 0
reach (match t m c l i j x) = 2 + max i (max j x)
reach further = 0
reach (opens op) = 0
reach (compare t n) = 2 + n
reach (close n) = n
reach (sum p) = piece_extra p
reach (rule e n) = n
reach (enter al) = 0
reach (applies n) = n
reach (conclude n) = n
reach (oblige e n) = 0
reach (leave n) = n
reach finish = 0

-- the second or third entry of a match, a comparison or a literal
abbrev pub is_further : Entry → Bool
is_further (begin al c) = false
is_further (match t m c l i j x) = false
is_further further = true
is_further (opens op) = false
is_further (compare t n) = false
is_further (close n) = false
is_further (sum p) = false
is_further (rule e n) = false
is_further (enter al) = false
is_further (applies n) = false
is_further (conclude n) = false
is_further (oblige e n) = false
is_further (leave n) = false
is_further finish = false

-- a cut is at most 1,000, an obligation's number below 65,536, and a further entry is no first one
abbrev pub fits : Entry → Bool
fits (begin al c) = leb c room_p
fits (match t m c l i j x) = true
fits further = false
fits (opens op) = true
fits (compare t n) = true
fits (close n) = true
fits (sum p) = true
fits (rule e n) = true
fits (enter al) = true
fits (applies n) = true
fits (conclude n) = true
fits (oblige e n) = ltb n 65536
fits (leave n) = true
fits finish = true

-- an entry at a place of a programme of so many entries: it leads no further than the programme's end
unfoldable pub lawful : ℕ → ℕ → Entry → Bool
lawful long at e = both (fits e) (leb (at + suc (reach e)) long)
