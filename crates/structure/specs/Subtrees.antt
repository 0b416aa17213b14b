-- The records of a book as subtrees, and subtrees as bytes. Assumes nothing.
use Rattle.std.specs.Prelude.{ℕ, suc, ◌+◌, ◌*◌, ◌<◌, ◌/◌, ◌%◌, ◌≡◌, Bool, true, List, [], ◌++◌, eqb, length, set, take, drop}
use Rattle.record.specs.Choose.{both}
use Rattle.record.specs.Bytes.{size, byte_of}
use Rattle.record.specs.Forest.{Forest, none, node, forest}
use Rattle.record.specs.Table.{tab}

-- none; or the bytes of a record, the subtrees of its children and the subtrees after it
pub data Subtrees : Type 0 where
  no_subtree : Subtrees
  subtree : List ℕ → Subtrees → Subtrees → Subtrees

-- how many records they have
unfoldable pub record_count : Subtrees → ℕ
record_count no_subtree = 0
record_count (subtree r kids rest) = suc (record_count kids + record_count rest)

-- the bytes of record i; zero where there are none, so that every record is read whole
unfoldable pub record_at : List ℕ → ℕ → List ℕ
record_at b i = tab (byte_of b i) size

-- a forest with each record's bytes at its place
unfoldable pub subtrees_in : List ℕ → Forest → Subtrees
subtrees_in b none = no_subtree
subtrees_in b (node i kids rest) = subtree (record_at b i) (subtrees_in b kids) (subtrees_in b rest)

-- the `left` records from i on as subtrees, by their spans
unfoldable pub subtrees_of : List ℕ → ℕ → ℕ → Subtrees
subtrees_of b i left = subtrees_in b (forest b i left)

-- subtrees as bytes: parent first, children in order
unfoldable pub bytes_of : Subtrees → List ℕ
bytes_of no_subtree = []
bytes_of (subtree r kids rest) = r ++ (bytes_of kids ++ bytes_of rest)

-- a record that states the span s
unfoldable pub with_span : List ℕ → ℕ → List ℕ
with_span r s = set (set r 2 (s / 256)) 3 (s % 256)

-- subtrees with their spans: each record states how many records are in its subtree
unfoldable pub spanned : Subtrees → Subtrees
spanned no_subtree = no_subtree
spanned (subtree r kids rest) = subtree (with_span r (suc (record_count kids))) (spanned kids) (spanned rest)

-- each record has as many bytes as a record has
unfoldable pub whole_records : Subtrees → Bool
whole_records no_subtree = true
whole_records (subtree r kids rest) = both (eqb (length r) size) (both (whole_records kids) (whole_records rest))

-- some subtrees, then others
unfoldable pub joined : Subtrees → Subtrees → Subtrees
joined no_subtree y = y
joined (subtree r kids rest) y = subtree r kids (joined rest y)

-- the s records from i on, by themselves
unfoldable pub slice_of : List ℕ → ℕ → ℕ → List ℕ
slice_of b i s = take (s * size) (drop (i * size) b)

-- record i of b has the bytes of record j of c; and so the s records from there on
abbrev pub SameRecord : List ℕ → ℕ → List ℕ → ℕ → Type 0
SameRecord b i c j = (k : ℕ) → k < size → byte_of b i k ≡ byte_of c j k

abbrev pub SameRecords : List ℕ → ℕ → List ℕ → ℕ → ℕ → Type 0
SameRecords b i c j s = (m : ℕ) → m < s → SameRecord b (i + m) c (j + m)

-- record i of b and record j of c differ in nothing but their spans, bytes 2 and 3
abbrev pub SameButSpan : List ℕ → ℕ → List ℕ → ℕ → Type 0
SameButSpan b i c j = (k : ℕ) → k < size → (k ≡ 2 → ⊥) → (k ≡ 3 → ⊥) → byte_of b i k ≡ byte_of c j k
