-- What the code of a comparison's pieces passes on is what `moves`' specs/Core.antt says. Assumes nothing.
use Rattle.std.specs.Prelude.{Err, Ok}
use Prim.Native.Nat.{ℕ}
use mathlib.Core.Path.{◌≡◌, refl, ap, ◌∙◌}
use Rattle.sums.specs.Worth.{Word, Worth}
use Rattle.sums.specs.Sums.{in_bytes}
use Rattle.meaning.specs.declared.Truth.{Truth}
use Rattle.meaning.specs.declared.Truth.TheVariants.{True, False, Unknown}
use Rattle.layout.specs.declared.Head.{Head}
use Rattle.moves.specs.declared.Move.{Move}
use Rattle.moves.specs.declared.Next.{Next}
use Rattle.moves.specs.declared.Change.TheVariants.{Keep, Push, Back}
use Rattle.moves.specs.declared.Placing.TheVariants.{Rest}
use Rattle.moves.specs.Core.{next, since, pushes, leaves}
use Rattle.moves.specs.Moves.{moved, move_of}
use Rattle.pieces.specs.Pieces.{since_word, word_in, mark_in}

since_is : (a : Truth) (w : Worth) → since_word a (in_bytes w) ≡ in_bytes (since a w)
since_is True w = refl
since_is False w = refl
since_is (Unknown s) w = refl

abbrev going : Head → Word → Next
going h x = next 0 h.found.reg (mark_in x) h.found.ors h.found.sections

push_is : (h : Head) (w : Worth) → moved (going h (in_bytes w)) (Push (word_in (in_bytes w))) Keep Rest ≡ move_of (pushes h w)
push_is h (Ok v) = refl
push_is h (Err s) = refl

leave_is : (h : Head) (w : Worth) → moved (going h (in_bytes w)) (Back (word_in (in_bytes w))) Keep Rest ≡ move_of (leaves h w)
leave_is h (Ok v) = refl
leave_is h (Err s) = refl

keeps : (h : Head) (w : Worth) {given x : Word} → given ≡ in_bytes w → x ≡ since_word h.found.ands given → x ≡ in_bytes (since h.found.ands w)
keeps h w e k = k ∙ ap (since_word h.found.ands) e ∙ since_is h.found.ands w

-- of a word that stands for the worth w: the word x since the mark, its mark and number, where to go on, and the move r
module _ (h : Head) (w : Worth) (r : Move) {given x : Word} {mark : Truth} {n : ℕ} {on : Next}
    (stands : given ≡ in_bytes w) (kept : x ≡ since_word h.found.ands given) (marks : mark ≡ mark_in x) (goes : on ≡ next 0 h.found.reg mark h.found.ors h.found.sections)
    (word : n ≡ word_in x) where
  pub puts : r ≡ moved on (Push n) Keep Rest → r ≡ move_of (pushes h (since h.found.ands w))
  puts e = rw (e, goes, marks, word, keeps h w stands kept) (push_is h (since h.found.ands w))

  pub left : r ≡ moved on (Back n) Keep Rest → r ≡ move_of (leaves h (since h.found.ands w))
  left e = rw (e, goes, marks, word, keeps h w stands kept) (leave_is h (since h.found.ands w))
