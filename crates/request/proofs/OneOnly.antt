-- The one and only value of a key is a number. Assumes nothing.
use Rattle.std.specs.Prelude.{Ok}
use mathlib.Core.Path.{◌≡◌, sym, ◌∙◌, subst}
use mathlib.Core.Bool.{Bool, true, false}
use mathlib.Core.List.{List, [], ◌∷◌, ◌++◌}
use Prim.Native.Nat.{ℕ, zero, suc, ◌+◌, ◌*◌}
use Rattle.sums.specs.Worth.{Worth}
use lib.Dec.{T}
use Rattle.record.specs.Choose.{if}
use Rattle.record.specs.Bytes.{size, big_of}
use Rattle.value.specs.declared.Value.{Value}
use Rattle.sums.specs.Sums.{is_number}
use Rattle.sums.proofs.Numbers.{value_number}
use Rattle.meaning.specs.Meaning.{the_only}
use Rattle.meaning.specs.Numbers.{value_under}
use Rattle.meaning.specs.Policy.{Key}
use Rattle.meaning.specs.Reading.{key_in, takes, bag_from, bags_of}
use Rattle.request.specs.Bag.{entries_of}

-- what a bag holds are numbers
Numbers : List Value → Type 0
Numbers [] = Unit
Numbers (v ∷ vs) = T (is_number v) × Numbers vs

bag_numbers : (q : List ℕ) (key : Key) (left k : ℕ) → Numbers (bag_from q key left k)
unfolding bag_from Numbers
bag_numbers q key zero k = tt
bag_numbers q key (suc left) k = go (takes key (key_in q k)) (bag_numbers q key left (k + 1))
  where
    go : (b : Bool) → Numbers (bag_from q key left (k + 1)) → Numbers (if b (value_under key (big_of q (k * size + 8) 8) ∷ []) [] ++ bag_from q key left (k + 1))
    go true rest = (value_number key.type (big_of q (k * size + 8) 8), rest)
    go false rest = rest

pub one_number : (q : List ℕ) (key : Key) {b : Worth} {v : Value} → b ≡ the_only (bags_of q key) → b ≡ Ok v → T (is_number v)
unfolding bags_of Numbers
one_number q key {v = v} e f = go (bag_from q key (entries_of q) 0) (bag_numbers q key (entries_of q) 0) (sym e ∙ f)
  where
    go : (vs : List Value) → Numbers vs → the_only vs ≡ Ok v → T (is_number v)
    go [] h z = let x : true ≡ is_number v = cc in subst T x tt
    go (w ∷ []) h z = let x : w ≡ v = cc in subst (λ (u : Value). T (is_number u)) x h.0
    go (w ∷ u ∷ vs) h z = let x : true ≡ is_number v = cc in subst T x tt
