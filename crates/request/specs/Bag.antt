-- How the bag of a key is found in a request: entry after entry. Assumes nothing.
use Rattle.std.specs.Prelude.{ℕ, ◌+◌, ◌-◌, ◌*◌, ◌/◌, ◌<◌, ◌≤◌, ◌≡◌, List, [], ◌∷◌, length, true, Option, None, Some, IfSome}
use Rattle.record.specs.Bytes.{size, big_of}
use Rattle.value.specs.declared.Value.{Value}
use Rattle.meaning.specs.Numbers.{value_under}
use Rattle.meaning.specs.Policy.{Key}
use Rattle.meaning.specs.Reading.{bag_from, key_in, takes}

-- the entries of a request
abbrev pub entries_of : List ℕ → ℕ
entries_of q = length q / size

-- the rest of a bag from entry k on, and the value of entry k
abbrev pub rest_of : List ℕ → Key → ℕ → List Value
rest_of q key k = bag_from q key (entries_of q - k) k

abbrev pub value_in : List ℕ → Key → ℕ → Value
value_in q key k = value_under key (big_of q (k * size + 8) 8)

-- the rest of a bag that begins with the value of this entry; empty where there is none
abbrev pub rest_at : List ℕ → Key → Option ℕ → List Value
rest_at q key None = []
rest_at q key (Some k) = value_in q key k ∷ rest_of q key (k + 1)

-- the next entry of the key, from this one on: the key takes it, and with it the rest of its bag begins, so it is the first
pub record Next (q : List ℕ) (key : Key) (from : ℕ) (found : Option ℕ) : Type 0 where
  pub rest : rest_of q key from ≡ rest_at q key found
  pub place : IfSome found (λ k. (from ≤ k) × (k < entries_of q))
  pub taken : IfSome found (λ k. takes key (key_in q k) ≡ true)
