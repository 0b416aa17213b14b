-- Where a walk over records side by side stands. Assumes nothing.
use Rattle.std.specs.Prelude.{Option, None, Some, is_some}
use mathlib.Core.Path.{◌≡◌, refl, sym, ◌∙◌}
use mathlib.Core.Bool.{true, false}
use mathlib.Core.List.{List}
use Prim.Native.Nat.{ℕ, ◌+◌, ◌-◌, ◌≤◌, ◌<◌}
use native.Mathlib.Omega.{arith}
use Rattle.record.specs.Forest.{span_in}
use Rattle.record.specs.Siblings.{Passes, WalksOn}
use Rattle.record.specs.declared.siblings.Siblings.{Siblings}
use Rattle.record.proofs.Choose.{no_false}

-- what is left of a walk over the records from i on and below `top`
pub record Left (w : Siblings) (b : List ℕ) (i top : ℕ) : Type 0 where
  pub book : w.book.now ≡ b
  pub at : w.at ≡ i
  pub left : w.left ≡ top - i

pub left_first : (w : Siblings) {b : List ℕ} {i top : ℕ} → w.book.now ≡ b → w.at ≡ i → w.left ≡ top - i → Left w b i top
left_first w e f g = record { book = e; at = f; left = g }

pub left_none : {w : Siblings} {b : List ℕ} {i top : ℕ} → Left w b i top → w.left ≡ 0 → top ≤ i
left_none l e = omega (arith, l.left)

module _ {w v : Siblings} {b : List ℕ} {i top j s : ℕ} (l : Left w b i top) (p : Passes w j s v) where
  pub left_is : (j ≡ i) × (s ≡ span_in b i (top - i)) × (i < top)
  left_is = let e : j ≡ i = p.place ∙ l.at in (e, p.span ∙ rw (l.book, e, l.left) refl, omega (arith, p.long, p.short, l.left))

  pub left_next : Left v b (i + s) top
  left_next = record { book = p.book ∙ l.book; at = omega (arith, p.at, p.place, l.at); left = omega (arith, p.left, l.left) }

-- a turn's record is the next of those that are left
pub record Step (w : Siblings) (b : List ℕ) (top j s : ℕ) (v : Siblings) : Type 0 where
  pub place : w.at ≡ j
  pub inside : j < top
  pub span : s ≡ span_in b j (top - j)
  pub next : v.at ≡ j + s
  pub left : Left v b v.at top

pub step : {w v : Siblings} {b : List ℕ} {top j s : ℕ} → Left w b w.at top → Passes w j s v → Step w b top j s v
step l p =
    let x = left_is l p in
    let y = left_next l p in
    let next = y.at ∙ rw x.0 refl in
    record { place = sym x.0; inside = rw (← x.0) at x.2; span = rw (← x.0) at x.1; next = next; left = left_first _ y.book refl (y.left ∙ rw y.at refl) }

-- whether there was one more
pub left_some : (w v : Siblings) {b : List ℕ} {i top : ℕ} (o : Option (ℕ × ℕ)) → Left w b i top → WalksOn w o v → true ≡ is_some o → i < top
left_some w v None l p e = no_false (sym e)
left_some w v (Some x) l p e = (left_is l p).2

pub left_end : (w v : Siblings) {b : List ℕ} {i top : ℕ} (o : Option (ℕ × ℕ)) → Left w b i top → WalksOn w o v → false ≡ is_some o → top ≤ i
left_end w v None l p e = left_none l p
left_end w v (Some x) l p e = no_false e
