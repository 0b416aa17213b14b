-- Where a record ends, and which is its parent, by the spans of the records before it. Assumes nothing.
use Rattle.std.specs.Prelude.{ℕ, ◌+◌, ◌≤◌, ◌<◌, ◌≡◌, Bool, List, ltb}
use Rattle.record.specs.Bytes.{span_of}
use Rattle.fields.specs.First.{last_below}

-- the place after the last record of record j's subtree
unfoldable pub end_of : List ℕ → ℕ → ℕ
end_of b j = j + span_of b j

-- the span of the earlier record j covers place i
abbrev pub covers : List ℕ → ℕ → ℕ → Bool
covers b i j = ltb i (end_of b j)

-- the parent: the innermost earlier record whose span covers the place
unfoldable pub parent_of : List ℕ → ℕ → ℕ
parent_of b i = last_below (covers b i) i

-- claimed: the parent is the record before that covers the place, where none between does
abbrev pub ParentIs : Type 0
ParentIs = (b : List ℕ) (p i : ℕ) → p < i → i < end_of b p → ((j : ℕ) → p < j → j < i → end_of b j ≤ i) → parent_of b i ≡ p
