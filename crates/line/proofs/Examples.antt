-- The lines of document 01: the definitions compute. Assumes nothing.
use mathlib.Core.Path.{◌≡◌, refl}
use mathlib.Core.List.{[], ◌∷◌}
use Rattle.record.specs.Refusals.{book, no_record}
use Rattle.text.specs.Hex.{letter_of}
use Rattle.line.specs.Line.{hex_of, fours, decision_line, told_line, refusal_line}

-- 0200010012: Deny with one obligation, 18
deny_18 : decision_line 2 (18 ∷ []) ≡ 48 ∷ 50 ∷ 48 ∷ 48 ∷ 48 ∷ 49 ∷ 48 ∷ 48 ∷ 49 ∷ 50 ∷ 10 ∷ []
unfolding decision_line hex_of fours letter_of
deny_18 = refl

-- FF03010000: the book is empty
no_book : refusal_line (no_record book) ≡ 70 ∷ 70 ∷ 48 ∷ 51 ∷ 48 ∷ 49 ∷ 48 ∷ 48 ∷ 48 ∷ 48 ∷ 10 ∷ []
unfolding refusal_line told_line hex_of letter_of
no_book = refl
