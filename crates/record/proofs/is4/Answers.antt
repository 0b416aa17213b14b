use mathlib.Core.Path.{◌∙◌, ap}
use lib.Dec.{eqb}
use Prim.Native.Nat.{ℕ}
use borrow.Author.Rules.{rules}
use Rattle.record.proofs.Laws.{turned_is}
use Rattle.record.proofs.is4.Goals as goal

pub returns : goal.returns
returns c = ap (λ (t : ℕ). eqb t c.word.result) c.turn.ensures ∙ turned_is _ _ (search rules) (search rules) c.word.ensures
