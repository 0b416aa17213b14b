-- What is said of records side by side, one after another. Assumes nothing.
use Rattle.std.specs.Prelude.{◌≡◌, ℕ, ◌+◌, ◌-◌, ◌*◌, ◌<◌, ◌≤◌, List, [], ◌∷◌, Bool, length}
use Rattle.std.specs.Fn.{Shared}
use Rattle.record.specs.Bytes.{size}
use Rattle.record.specs.Choose.{if}
use Rattle.record.specs.Forest.{Forest, none, node, forest}
use Rattle.meaning.specs.Logic.{and_all, or_all}
use Rattle.meaning.specs.declared.Truth.{Truth}

-- the truths of the records of a forest, each read with its children
unfoldable pub truths : (ℕ → Forest → Truth) → Forest → List Truth
truths says none = []
truths says (node i kids rest) = says i kids ∷ truths says rest

module _ {F : Type 0} (calls : Shared F (ℕ × (ℕ × Unit {0})) Truth) (part : F) (b : List ℕ) where
  -- part may be called at any record of the book and a span that ends in it
  abbrev pub AsksAnywhere : Type 0
  AsksAnywhere = (i s : ℕ) → 0 < s → (i + s) * size ≤ length b → calls.pre part (i, (s, tt))

  -- part gives what `says` says of a record and what is below it
  abbrev pub Says : (ℕ → Forest → Truth) → Type 0
  Says says = (i s : ℕ) (t : Truth) → 0 < s → (i + s) * size ≤ length b → calls.post part (i, (s, tt)) t → t ≡ says i (forest b (i + 1) (s - 1))

  -- and, where `all`, else or, over the records of a forest, whatever part says of each
  abbrev pub SaysJoined : Bool → Forest → Truth → Type 0
  SaysJoined all rest w = (says : ℕ → Forest → Truth) → Says says → w ≡ if all (and_all (truths says rest)) (or_all (truths says rest))
