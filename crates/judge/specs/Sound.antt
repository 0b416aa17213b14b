-- What is claimed of the records of an accepted book. `proofs/Sound.antt` proves it. Assumes nothing.
use Rattle.std.specs.Prelude.{ℕ, ◌+◌, ◌-◌, ◌≤◌, ◌<◌, ◌≡◌, true, List}
use Rattle.record.specs.Bytes.{byte_of, span_of}
use Rattle.record.specs.Forest.{Forest, none, node, grow_f, forest}
use Rattle.fields.specs.Fields.{kind_at, field_ok}
use Rattle.fields.specs.declared.Kind.TheVariants.{Match}
use Rattle.operands.specs.Parent.{end_of, parent_of}
use Rattle.operands.specs.Operands.{operands_at}
use Rattle.placement.specs.Place.{most_depth, depth_of, kind_number, takes_of, rank_at, rise_of, place_ok}
use Rattle.placement.specs.Keeps.{AllKeep, Sized, Keeps}

-- spans that nest: each is at least 1, ends within the book, and covers each record that it covers to its end; the first covers all
pub record Nested (b : List ℕ) (n : ℕ) : Type 0 where
  pub spans : (i : ℕ) → i < n → 1 ≤ span_of b i
  pub whole : end_of b 0 ≡ n
  pub ends : (i : ℕ) → i < n → end_of b i ≤ n
  pub nests : (i j : ℕ) → i < j → j < n → j < end_of b i → end_of b j ≤ end_of b i
  pub depths : (i : ℕ) → i < n → depth_of b i ≤ most_depth

-- the records from i on and below e are whole subtrees
pub record WholeRow (b : List ℕ) (i e : ℕ) : Type 0 where
  pub upto : i ≤ e
  pub ends : (j : ℕ) → i ≤ j → j < e → end_of b j ≤ e

abbrev pub KeptNests : Type 0
KeptNests = (b : List ℕ) (n : ℕ) → Keeps b n → Nested b n

-- the forest is one tree, the first record's
abbrev pub OneTree : Type 0
OneTree = (b : List ℕ) (n : ℕ) → Nested b n → 1 ≤ n → forest b 0 n ≡ node 0 (forest b 1 (n - 1)) none

-- the forest by the spans as they are stated: cutting them to what is left changes nothing
unfoldable pub stated : List ℕ → ℕ → ℕ → Forest
stated b i left = grow_f (λ (j l : ℕ). span_of b j) left i left

abbrev pub NoCut : Type 0
NoCut = (b : List ℕ) (n : ℕ) → Nested b n → forest b 0 n ≡ stated b 0 n

-- each record stands one deeper than its parent
abbrev pub DepthIs : Type 0
DepthIs = (b : List ℕ) (n : ℕ) → Nested b n → (i : ℕ) → 0 < i → i < n → depth_of b i ≡ depth_of b (parent_of b i) + 1

-- record i stands after every earlier child of its parent: sections rise by category, then come the others, then the obligations; a rule or a not has one
-- condition only
abbrev pub AfterAll : List ℕ → ℕ → Type 0
AfterAll b i =
    (j : ℕ) → 0 < j → j < i → parent_of b j ≡ parent_of b i
    → rank_at b j + rise_of (kind_number (kind_at b (parent_of b i))) (kind_at b i) ≤ rank_at b i

-- record i is allowed at its place: its parent takes such a record, it stands after the earlier children, a match has the category of its section, and
-- what has operands has those that it wants: an operator two values of its type, a comparison of values two of one type, which it may compare
pub record Allowed (b : List ℕ) (i : ℕ) : Type 0 where
  pub taken : takes_of (kind_number (kind_at b (parent_of b i))) (kind_at b i) ≡ true
  pub after : AfterAll b i
  pub category : kind_at b i ≡ Match → byte_of b (parent_of b (parent_of b i)) 4 ≡ byte_of b i 4
  pub operands : operands_at b i ≡ true

-- a record below line 1 that stands where it may: it ends where its parent does or before, is allowed at its place, and is not too deep
pub record Placed (b : List ℕ) (i : ℕ) : Type 0 where
  pub within : end_of b i ≤ end_of b (parent_of b i)
  pub allowed : Allowed b i
  pub depth : depth_of b i ≤ most_depth

-- where all earlier lines keep the place rules, a line keeps them exactly when it is placed: the child before speaks for all earlier children
abbrev pub OkIsPlaced : Type 0
OkIsPlaced = (b : List ℕ) (n i : ℕ) → Sized b n → 0 < i → i < n → AllKeep (place_ok b) i → place_ok b i ≡ true → Placed b i

abbrev pub PlacedIsOk : Type 0
PlacedIsOk = (b : List ℕ) (n i : ℕ) → Sized b n → 0 < i → i < n → AllKeep (place_ok b) i → field_ok b i ≡ true → Placed b i → place_ok b i ≡ true

-- so in an accepted book the children of one parent stand in order
abbrev pub KeptInOrder : Type 0
KeptInOrder = (b : List ℕ) (n : ℕ) → Keeps b n → (i : ℕ) → i < n → AfterAll b i
