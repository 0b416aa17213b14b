-- A level of a condition, as its number: told a part, settled, and what value it has. Assumes nothing.
use mathlib.Core.Path.{◌≡◌, ap}
use Rattle.meaning.specs.declared.Truth.{Truth}
use Rattle.layout.specs.declared.Op.{Op}
use Rattle.layout.specs.declared.Level.{Level}
use Rattle.layout.proofs.Coding.{level_back}
use Rattle.moves.specs.Core.{fold_of, settled_by, level, told, settles, value_in}

pub told_level : (k : Op) (a v : Truth) → told (level k a) v ≡ level k (fold_of k a v)
unfolding told level
told_level k a v = rw (level_back (record { op = k; val = a }))

pub settles_level : (k : Op) (a v : Truth) → settles (level k a) v ≡ settled_by k (fold_of k a v)
unfolding settles level
settles_level k a v = rw (level_back (record { op = k; val = a }))

pub value_level : (k : Op) (a : Truth) → value_in (level k a) ≡ a
unfolding value_in level
value_level k a = ap (λ (l : Level). l.val) (level_back (record { op = k; val = a }))
