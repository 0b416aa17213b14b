-- The same by places in a book. Assumes nothing.
use Rattle.std.specs.Prelude.{ℕ, ◌+◌, ◌-◌, List}
use Rattle.structure.specs.Subtrees.{subtrees_of, bytes_of}
use Rattle.spoilt.specs.Places.{parent}
use Rattle.mending.specs.Mending.{mended, Replacement, replacements}

-- of n records, those from i on, below line 1, a set of category c: their mended bytes, and their replacements
unfoldable pub mended_from : List ℕ → ℕ → ℕ → ℕ → List ℕ
mended_from b n c i = bytes_of (mended (parent 1 1 c c) (subtrees_of b i (n - i)))

unfoldable pub replaced_from : List ℕ → ℕ → ℕ → ℕ → List Replacement
replaced_from b n c i = replacements (parent 1 1 c c) (i + 1) (subtrees_of b i (n - i))
