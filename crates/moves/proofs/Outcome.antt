-- Laws of what an entry does, one for each return of the code that its tables do not settle. Assumes nothing.
use Prim.Native.Nat.{ℕ, zero, suc}
use mathlib.Core.Path.{◌≡◌, refl}
use mathlib.Core.Bool.{Bool, true, false}
use Rattle.meaning.specs.Logic.{target_and}
use Rattle.meaning.specs.declared.Truth.{Truth}
use Rattle.meaning.specs.declared.Truth.TheVariants.{True, False}
use Rattle.meaning.specs.declared.Verdict.{Verdict}
use Rattle.layout.specs.declared.Level.{Level}
use Rattle.moves.specs.declared.Next.{Next}
use Rattle.moves.specs.declared.Change.TheVariants.{Keep, Swap, Back}
use Rattle.moves.specs.declared.Placing.TheVariants.{Rest}
use Rattle.moves.specs.declared.Move.{Move}
use Rattle.moves.specs.Core.{past, section_done, settled_by, told_to, told, settles, value_in, tell, closed}
use Rattle.layout.specs.Layout.{level_of, level_word}
use Rattle.moves.specs.Moves.{moved, move_of}

-- targets: the result n, the truths v and u that came before
module _ (n : Next) (v u : Truth) (l : Bool) (j x : ℕ) (t : Truth) (d : Verdict) where
  pub section_false : v ≡ False → u ≡ target_and t False → n ≡ section_done True l j x u d → n ≡ section_done v l j x t d
  section_false e f g = on l g
    where
      on : (b : Bool) → n ≡ section_done True b j x u d → n ≡ section_done v b j x t d
      on true k = rw (e, ← f) k
      on false k = rw (e, ← f) k

-- conditions: the level t that was told, whether that settles it, where to go on, and its number
module _ (r : Move) (n nest l : ℕ) (d : Verdict) (t : Level) (s : Bool) (on : Next) (w : ℕ)
    (settled : s ≡ settled_by t.op t.val) (goes : on ≡ past s n d) (word : w ≡ level_word t) where
  pub tell_open : (v : Truth) {k : Level} → (nest ≡ 0 → ⊥) → k ≡ level_of l → t ≡ told_to k v → r ≡ moved on (Swap w) Keep Rest → r ≡ move_of (tell v n nest l d)
  unfolding told settles
  tell_open v e x f g = go nest e
    where
      go : (k : ℕ) → (k ≡ 0 → ⊥) → r ≡ move_of (tell v n k l d)
      go zero z = absurd (z refl)
      go (suc k) z = rw (g, goes, word, settled, f, x)

  pub close_under : (m : ℕ) {k j : Level} → (nest ≡ 0 → ⊥) → (nest ≡ 1 → ⊥) → k ≡ level_of l → j ≡ level_of m → t ≡ told_to j k.val → r ≡ moved on (Back w) Keep Rest
      → r ≡ move_of (closed n nest l m d)
  unfolding told settles value_in
  close_under m e f x y g i = go nest e f
    where
      go : (k : ℕ) → (k ≡ 0 → ⊥) → (k ≡ 1 → ⊥) → r ≡ move_of (closed n k l m d)
      go zero z y = absurd (z refl)
      go (suc zero) z y = absurd (y refl)
      go (suc (suc k)) z q = rw (i, goes, word, settled, g, x, y)
