use lib.Dec.{eqb}
use Prim.Native.Nat.{ℕ}
use Rattle.show.proofs.Laws.{phrase_is}
use Rattle.std.proofs.lemmas.Iterator.Consumers.{nth_from_yields_List}
use Rattle.std.proofs.lemmas.Iterator.Splits.{YieldsList-from_slice_split}
use Rattle.std.proofs.Common.{rules, tests, refl}
use Rattle.show.proofs.phrases.phrase.Goals as goal

pub returns : goal.returns
returns c =
    phrase_is _ _ c.nth.result _ refl c.unwrap_or.ensures (nth_from_yields_List _ _ c.args.k c.nth.ensures.ran
    (YieldsList-from_slice_split _ (λ (x : ℕ). eqb x 124) c.args.list.now c.split.ensures.rest c.split.ensures.done c.split.ensures.closure
    (λ x b q k. search (rules, tests))))
