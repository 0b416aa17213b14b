-- A row of records that keep every rule, as one pass over a sound book finds it: `src/lib.rt`. Assumes nothing.
use Rattle.std.specs.Prelude.{ℕ, ◌+◌, ◌≤◌, ◌<◌, ◌≡◌, Bool, true, List, ◌⊎◌, eqb}
use Rattle.record.specs.Choose.{both, among}
use Rattle.record.specs.Bytes.{byte_of}
use Rattle.fields.specs.Fields.{kind_at, field_ok, obligations_of}
use Rattle.fields.specs.declared.Kind.{Kind}
use Rattle.fields.specs.declared.Kind.TheVariants.{PolicySet, Policy}
use Rattle.operands.specs.Parent.{end_of}
use Rattle.operands.specs.Operands.{value_type, two_values}
use Rattle.placement.specs.Place.{kind_number, holds_values, holds_conditions, single_of, place_ok}
use Rattle.placement.specs.Walk.{Walk}
use Rattle.placement.specs.Keeps.{AllKeep}

-- record i is a k, and keeps its field rules
pub record Fit (b : List ℕ) (i : ℕ) (k : Kind) : Type 0 where
  pub kind : kind_at b i ≡ k
  pub fields : field_ok b i ≡ true

-- the same as a test
unfoldable pub is_fit : List ℕ → ℕ → Kind → Bool
is_fit b i k = both (eqb (kind_number (kind_at b i)) (kind_number k)) (field_ok b i)

-- the walk has come to place i, and the child before has at most the rank `most`
pub record Went (b : List ℕ) (p i e d pn gc pc most : ℕ) : Type 0 where
  pub rank : ℕ
  pub low : rank ≤ most
  pub walk : Walk b p i e d pn gc pc rank

-- the records from i on and below j keep their field rules, and `due` of them are obligations. Among the children of a record that ends at e, has depth d,
-- number pn, category pc and a parent of category gc they keep the place rules, where the child before them has at most the rank `lo`; the last child of
-- them has at most the rank `hi`
pub record Row (b : List ℕ) (i j e d pn gc pc lo hi due : ℕ) : Type 0 where
  pub forth : i ≤ j
  pub fields : (m : ℕ) → i ≤ m → m < j → field_ok b m ≡ true
  pub duties : obligations_of b j ≡ obligations_of b i + due
  pub places : (p rank : ℕ) → rank ≤ lo → Walk b p i e d pn gc pc rank
      → Went b p j e d pn gc pc hi × ((m : ℕ) → i ≤ m → m < j → place_ok b m ≡ true)

-- the value of type t at record i ends at r, and no record of it runs past; it keeps every rule below a parent that takes values, which ends at e and has
-- depth d
pub record Value (b : List ℕ) (i r e d t : ℕ) : Type 0 where
  pub after : i < r
  pub upto : r ≤ e
  pub ends : r ≡ end_of b i
  pub whole : (m : ℕ) → i ≤ m → m < r → end_of b m ≤ r
  pub type : value_type b i ≡ t
  pub row : (pn gc pc lo : ℕ) → holds_values pn ≡ true → lo ≤ 5 → Row b i r e d pn gc pc lo 5 0

-- record i, whose parent ends at e and has depth d, ends at r, and below it are two such values of type t and no more
pub record Operands (b : List ℕ) (i r e d t : ℕ) : Type 0 where
  pub upto : r ≤ e
  pub ends : r ≡ end_of b i
  pub whole : (m : ℕ) → i < m → m < r → end_of b m ≤ r
  pub two : two_values b i t ≡ true
  pub row : (pn gc pc : ℕ) → holds_values pn ≡ true → Row b (i + 1) r r (d + 1) pn gc pc 0 5 0

-- the condition at record i ends at r, and keeps every rule below a parent that takes conditions, which ends at e and has depth d
pub record Condition (b : List ℕ) (i r e d : ℕ) : Type 0 where
  pub after : i < r
  pub upto : r ≤ e
  pub row : (pn gc pc lo : ℕ) → holds_conditions pn ≡ true → lo + single_of pn ≤ 5 → Row b i r e d pn gc pc lo 5 0

-- the records from i on and below r are the sections below a rule, a policy or a set, which ends at e and has depth d
pub record Sections (b : List ℕ) (i r e d : ℕ) : Type 0 where
  pub upto : r ≤ e
  pub row : (pn gc pc : ℕ) → among 1 3 pn ≡ true → Row b i r e d pn gc pc 0 4 0

-- the same of the rules below a policy
pub record Rules (b : List ℕ) (i r e d : ℕ) : Type 0 where
  pub upto : r ≤ e
  pub row : (gc pc : ℕ) → Row b i r e d 2 gc pc 5 5 0

-- the records from i on, and below the end e of their parent, which has depth d, are `due` obligations below a policy or a set
pub record Duties (b : List ℕ) (i e d due : ℕ) : Type 0 where
  pub row : (pn gc pc : ℕ) → among 1 2 pn ≡ true → Row b i e e d pn gc pc 6 6 due

-- the records from i on, and below the end e of their parent, which has depth d, are the parts of a policy, `due` of them obligations
pub record PolicyParts (b : List ℕ) (i e d due : ℕ) : Type 0 where
  pub row : (gc pc : ℕ) → Row b i e e d 2 gc pc 0 6 due

-- the policy or set at record i ends where `top` is or before, keeps its field rules, and what is below it keeps all rules where it has the depth d; `due`
-- obligations are below it
pub record Party (b : List ℕ) (i top d due : ℕ) : Type 0 where
  pub after : i < end_of b i
  pub within : end_of b i ≤ top
  pub kind : (kind_at b i ≡ PolicySet) ⊎ (kind_at b i ≡ Policy)
  pub fields : field_ok b i ≡ true
  pub below : (gc : ℕ) → Row b (i + 1) (end_of b i) (end_of b i) d (kind_number (kind_at b i)) gc (byte_of b i 4) 0 6 due

-- n records that keep every rule, `due` of them obligations
pub record Clean (b : List ℕ) (n due : ℕ) : Type 0 where
  pub fields : AllKeep (field_ok b) n
  pub places : AllKeep (place_ok b) n
  pub duties : obligations_of b n ≡ due
