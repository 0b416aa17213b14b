-- The same by places in a book, for records whose parent is told by its numbers. Assumes nothing.
use Rattle.record.specs.Choose.{if}
use Rattle.std.specs.Prelude.{ℕ, Bool, ◌+◌, ◌<◌, ◌≡◌, List, Option, None, Some}
use Rattle.placement.specs.declared.Parent as own
use Rattle.structure.specs.Subtrees.{subtrees_of}
use Rattle.structure.specs.Sound.{Parent}
use Rattle.spoilt.specs.Spoilt.{first_bad, first_spoilt}

-- `above` levels are above its children, its number and category are these, and `outer` is the category of its own parent
abbrev pub parent : ℕ → ℕ → ℕ → ℕ → Parent
parent above number outer category = record { above = above; number = number; category = category; grand = outer }

abbrev pub of_parent : own.Parent → Parent
of_parent p = parent p.depth p.kind p.outer p.category

-- of the `left` records from i on, the first that is bad, that is spoilt; their end where none is
unfoldable pub bad_at : Parent → ℕ → List ℕ → ℕ → ℕ → ℕ
bad_at u e b i left = i + first_bad u e (subtrees_of b i left)

unfoldable pub spoilt_at : Parent → ℕ → List ℕ → ℕ → ℕ → ℕ
spoilt_at u e b i left = i + first_spoilt u e (subtrees_of b i left)

-- the first bad one; where policies and sets may be replaced, the first spoilt one
abbrev pub first_at : Bool → Parent → ℕ → List ℕ → ℕ → ℕ → ℕ
first_at replaces u e b i left = if replaces (spoilt_at u e b i left) (bad_at u e b i left)

-- the first of some, x, as an option: none where it is their end
abbrev pub FirstIs : Option ℕ → ℕ → ℕ → Type 0
FirstIs None end x = x ≡ end
FirstIs (Some i) end x = (i ≡ x) × (i < end)
