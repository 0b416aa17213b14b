-- What a walk over records side by side has left, as a forest. Assumes nothing.
use mathlib.Core.Path.{◌≡◌, refl, ◌∙◌}
use mathlib.Core.List.{List}
use Prim.Native.Nat.{ℕ, ◌+◌, ◌-◌}
use native.Mathlib.Omega.{arith}
use Rattle.record.specs.Forest.{none, node, forest}
use Rattle.record.specs.Siblings.{forest_left, Passes}
use Rattle.record.specs.declared.siblings.Siblings.{Siblings}
use Rattle.record.proofs.Forests.{forest_none, forest_more}

-- the walk that a loop begins with
pub all_left : {b : List ℕ} {i n : ℕ} {w v : Siblings} → v ≡ w → w.book.now ≡ b → w.at ≡ i → w.left ≡ n → (v.book.now ≡ b) × (forest_left v ≡ forest b i n)
all_left e eb ei en = rw e (eb, rw (eb, ei, en) refl)

pub none_left : (w : Siblings) → w.left ≡ 0 → forest_left w ≡ none
none_left w z = forest_none w.book.now w.at w.left (omega (arith, z))

-- record i of the book b is next
module _ {b : List ℕ} {w v : Siblings} {i s : ℕ} (e : w.book.now ≡ b) (p : Passes w i s v) where
  pub still : v.book.now ≡ b
  still = p.book ∙ e

  pub next_left : forest_left w ≡ node i (forest b (i + 1) (s - 1)) (forest_left v)
  next_left =
      rw (p.book, p.at, p.left, e, ← p.place)
      (forest_more b i w.left (omega (arith, p.long, p.short)) (rw e at p.span))
