-- Records that keep the rules, each of them or all before one. Assumes nothing.
use Rattle.std.specs.Prelude.{ℕ, ◌*◌, ◌≤◌, ◌<◌, ◌≡◌, Bool, true, false, List, length}
use Rattle.record.specs.Bytes.{size, most_records}
use Rattle.fields.specs.Fields.{field_ok}
use Rattle.placement.specs.Place.{place_ok}

-- each of n keeps a rule
abbrev pub AllKeep : (ℕ → Bool) → ℕ → Type 0
AllKeep f n = (i : ℕ) → i < n → f i ≡ true

-- of n, i is the first that breaks a rule
pub record FirstToBreak (f : ℕ → Bool) (n i : ℕ) : Type 0 where
  pub inside : i < n
  pub breaks : f i ≡ false
  pub before : AllKeep f i

-- as many bytes as n records have, as a book may
pub record Sized (b : List ℕ) (n : ℕ) : Type 0 where
  pub bytes : length b ≡ n * size
  pub some : 1 ≤ n
  pub most : n ≤ most_records

-- a book of n records that breaks no rule
pub record Keeps (b : List ℕ) (n : ℕ) : Type 0 where
  pub sized : Sized b n
  pub fields : AllKeep (field_ok b) n
  pub places : AllKeep (place_ok b) n
