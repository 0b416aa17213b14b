-- Refusals of a book as the C caller sees them: `bachumoi_decide` and `bachumoi_translate` refuse it exactly when it breaks a rule, with the number and the line
-- of that rule. `proofs/Refuses.antt` proves it. Assumes nothing.
use Rattle.std.specs.Prelude.{ℕ, ◌<◌, ◌≡◌, List, length}
use Rattle.record.specs.Refusals.{book, part_number, number_of, part_of, line_of, refusal_number, told as told_of}
use Rattle.record.specs.declared.Refusal.{Refusal}
use Rattle.judge.specs.Exactly.{Breaks}
use Rattle.host.specs.Host.{host_number, host_outcome, host_out}
use Rattle.translator.specs.Translate.{translate_of, leaves}
use Rattle.rig.specs.Rig.{translated_number}

-- a book that breaks a rule is refused for it, whatever is lent beside it, and what is lent stays as it was
abbrev pub BrokenIsTold : Type 0
BrokenIsTold =
    (b : List ℕ) (r : Refusal) → Breaks b r
    → ((q out : List ℕ) → (host_number (host_outcome b q out) ≡ refusal_number r) × (host_out b q out ≡ out))
    × ((buffer : List ℕ) → (translated_number (translate_of b (length buffer)) ≡ refusal_number r) × (leaves (translate_of b (length buffer)) b buffer ≡ buffer))

-- what a number says of the book: a refusal's number and its line
abbrev pub told : ℕ → ℕ → ℕ
told number line = told_of number (part_number book) line

-- the book breaks a rule, and the refusal for it has this number and this line
pub record BrokenAt (b : List ℕ) (number line : ℕ) : Type 0 where
  pub refusal : Refusal
  pub breaks : Breaks b refusal
  pub part : part_of refusal ≡ book
  pub number_is : number_of refusal ≡ number
  pub line_is : line_of refusal ≡ line

-- and it is said only where the book breaks that rule at that line
abbrev pub ToldIsBroken : Type 0
ToldIsBroken =
    (b : List ℕ) (number line : ℕ) → number < 256 → line < 65536
    → ((q out : List ℕ) → host_number (host_outcome b q out) ≡ told number line → BrokenAt b number line)
    × ((buffer : List ℕ) → translated_number (translate_of b (length buffer)) ≡ told number line → BrokenAt b number line)
