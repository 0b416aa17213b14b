-- Where the walk of the records stands: what it knows of the record before place i whose children it is among. Assumes nothing.
use Rattle.std.specs.Prelude.{ℕ, ◌+◌, ◌≤◌, ◌<◌, ◌≡◌, List, Option, None, Some}
use Rattle.record.specs.Bytes.{byte_of, span_of}
use Rattle.fields.specs.First.{first_from}
use Rattle.fields.specs.Fields.{kind_at}
use Rattle.operands.specs.Parent.{end_of, parent_of}
use Rattle.placement.specs.declared.Broken.{Broken}
use Rattle.placement.specs.Place.{depth_of, kind_number, elder_rank, place_ok, broken_at}

-- p is the parent, e its end, d its depth, pn its number, pc its category, gc that of its parent, er the rank of the child before i; `elder` is that
-- child, p where there is none
pub record Walk (b : List ℕ) (p i e d pn gc pc er : ℕ) : Type 0 where
  pub after : p < i
  pub upto : i ≤ e
  pub ends : e ≡ end_of b p
  pub spans : (j : ℕ) → j < e → 1 ≤ span_of b j
  pub outer : (j : ℕ) → j < p → p < end_of b j → e ≤ end_of b j
  pub inner : (j : ℕ) → p < j → j < i → end_of b j ≤ i
  pub depth : depth_of b p ≡ d
  pub elder : ℕ
  pub elder_from : p ≤ elder
  pub elder_to : elder < i
  pub elder_of_lem : p < elder → parent_of b elder ≡ p
  pub elder_first : elder ≡ p → i ≡ p + 1
  pub elder_end : p < elder → i ≤ end_of b elder
  pub number : pn ≡ kind_number (kind_at b p)
  pub grand : gc ≡ byte_of b (parent_of b p) 4
  pub own : pc ≡ byte_of b p 4
  pub rank : er ≡ elder_rank b p elder

-- the first of the k records from i on that breaks a place rule, and which one: 0 where none does
pub record Finds (b : List ℕ) (i k at rule : ℕ) : Type 0 where
  pub place : at ≡ first_from (place_ok b) i k
  pub which : at < i + k → rule ≡ broken_at b at
  pub none : at ≡ i + k → rule ≡ 0

-- the same as an option: the record, and the rule that it breaks
abbrev pub FirstBroken : List ℕ → ℕ → ℕ → Option Broken → Type 0
FirstBroken b i k None = Finds b i k (i + k) 0
FirstBroken b i k (Some x) = Finds b i k x.at x.rule × (x.at < i + k)

-- the number of a broken rule as an option; 0 is none
abbrev pub RuleIs : ℕ → Option ℕ → Type 0
RuleIs n None = n ≡ 0
RuleIs n (Some rule) = (rule ≡ n) × (0 < rule)
