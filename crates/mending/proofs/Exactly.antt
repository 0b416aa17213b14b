-- A book is refused as spoilt exactly when a line spoils it, and with that line. Assumes nothing.
use mathlib.Core.Path.{◌≡◌, refl, sym}
use mathlib.Core.Bool.{Bool, true, false}
use mathlib.Core.List.{List}
use Prim.Native.Nat.{ℕ, ◌+◌, ◌-◌, ◌<◌}
use lib.Dec.{ltb}
use borrow.Author.Tests.{ltb-true}
use Rattle.record.specs.Choose.{if}
use Rattle.placement.specs.Keeps.{FirstToBreak}
use Rattle.judge.proofs.Exactly.{first_break, break_first}
use Rattle.structure.specs.Subtrees.{Subtrees, record_at, subtrees_of}
use Rattle.structure.specs.Sound.{Parent, line_one}
use Rattle.structure.proofs.Subtrees.{count_subtrees}
use Rattle.spoilt.specs.Spoilt.{mendable_at, first_spoilt, is_set}
use Rattle.mending.specs.Mending.{mended, Replacement, replacements, Mended, Spoilt, headed, salvage_of}
use Rattle.mending.specs.Claims.{line_one_spoils, later_spoils, SpoiltSpoils, SpoilsIsSpoilt}
use Rattle.mending.proofs.Answers.{not_set, line_spoilt, not_both}

-- the first spoilt line of n records is the first to break
module _ (u : Parent) (b : List ℕ) (i n : ℕ) where
  spoilt_breaks : first_spoilt u 0 (subtrees_of b i n) < n → FirstToBreak (mendable_at u 0 (subtrees_of b i n)) n (first_spoilt u 0 (subtrees_of b i n))
  unfolding first_spoilt
  spoilt_breaks l = rw (count_subtrees b i n) (first_break (mendable_at u 0 (subtrees_of b i n)) n (rw (count_subtrees b i n) at l))

  breaks_spoilt : (k : ℕ) → FirstToBreak (mendable_at u 0 (subtrees_of b i n)) n k → first_spoilt u 0 (subtrees_of b i n) ≡ k
  unfolding first_spoilt
  breaks_spoilt k w = rw (count_subtrees b i n) (break_first (mendable_at u 0 (subtrees_of b i n)) n k w)

same_line : (k l : ℕ) → Spoilt k ≡ Spoilt l → k ≡ l
same_line k l e = cc

-- line 1 spoils it, or a later one does
spoilt_if : {A : Type 0} (t s : Bool) (k line : ℕ) (x : Subtrees) (xs : List Replacement) → (line ≡ 1 → t ≡ false → A) → (line ≡ k → t ≡ true → s ≡ true → A)
    → if t (if s (Spoilt k) (Mended x xs)) (Spoilt 1) ≡ Spoilt line → A
spoilt_if true true k line x xs f g e = g (sym (same_line k line e)) refl refl
spoilt_if true false k line x xs f g e = not_both (sym e)
spoilt_if false s k line x xs f g e = f (sym (same_line 1 line e)) refl

pub spoilt_spoils : SpoiltSpoils
unfolding salvage_of
spoilt_spoils b n line e =
    let u : Parent = line_one b in
    let kids : Subtrees = subtrees_of b 1 (n - 1) in
    let k : ℕ = first_spoilt u 0 kids in
    spoilt_if (is_set b n) (ltb k (n - 1)) (k + 2) line (headed (record_at b 0) (mended u kids)) (replacements u 2 kids)
    line_one_spoils (λ q t s. later_spoils k q t (spoilt_breaks u b 1 (n - 1) (ltb-true k (n - 1) s))) e

pub spoils_is_spoilt : SpoilsIsSpoilt
spoils_is_spoilt b n line (line_one_spoils q t) = rw q (not_set b n t)
spoils_is_spoilt b n line (later_spoils k q t w) = rw q (line_spoilt b n t (breaks_spoilt (line_one b) b 1 (n - 1) k w) w.inside)
