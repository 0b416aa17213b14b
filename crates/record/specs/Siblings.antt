-- What a walk over records side by side has left, and what it gives next. Assumes nothing.
use Rattle.std.specs.Prelude.{◌≡◌, ℕ, ◌+◌, ◌-◌, ◌<◌, ◌≤◌, Option, None, Some}
use Rattle.record.specs.Forest.{Forest, span_in, forest}
use Rattle.record.specs.declared.siblings.Siblings.{Siblings}

-- the records that are still to come, with all below them
abbrev pub forest_left : Siblings → Forest
forest_left w = forest w.book.now w.at w.left

-- record i is next, with span s, and `new` goes on behind it
pub record Passes (old : Siblings) (i s : ℕ) (new : Siblings) : Type 0 where
  pub place : i ≡ old.at
  pub span : s ≡ span_in old.book.now i old.left
  pub long : 0 < s
  pub short : s ≤ old.left
  pub book : new.book.now ≡ old.book.now
  pub at : new.at ≡ i + s
  pub left : new.left ≡ old.left - s

-- a call gave the next record and its span, or nothing where none is left
abbrev pub WalksOn : Siblings → Option (ℕ × ℕ) → Siblings → Type 0
WalksOn old None new = old.left ≡ 0
WalksOn old (Some x) new = Passes old x.0 x.1 new
