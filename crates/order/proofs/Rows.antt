-- A row of neighbouring parts of a book's bytes, before and after it is reordered: what the files on rows hand to each other. Assumes nothing.
use Prim.Native.Nat.{ℕ, ◌+◌, ◌-◌, ◌*◌, ◌≤◌, ◌<◌}
use mathlib.Core.Path.{◌≡◌}
use mathlib.Core.Bool.{true}
use mathlib.Core.List.{List, [], ◌∷◌}
use lib.ListN.{length}
use Rattle.record.specs.Choose.{among}
use Rattle.record.specs.Bytes.{size, span_of}
use Rattle.record.specs.Forest.{forest}
use Rattle.fields.specs.Fields.{obligations_of}
use Rattle.operands.specs.Parent.{end_of, parent_of}
use Rattle.meaning.specs.Policy.{Rule, Tree}
use Rattle.meaning.specs.Reading.{target_in, rules_in, obligations_in, trees_in}
use Rattle.structure.specs.Subtrees.{SameRecords}
use Rattle.structure.specs.Sound.{Parent, sound_at}
use Rattle.order.specs.Reordered.{Reordered}
use Rattle.order.specs.Rearranged.{listed}
use Rattle.order.specs.Books.{movable}

-- a part by itself: as many bytes as its span says, of a rule, a policy or a set
pub record Part (x : List ℕ) : Type 0 where
  pub some : 1 ≤ span_of x 0
  pub whole : length x ≡ span_of x 0 * size
  pub moves : movable x 0 ≡ true

-- these parts stand in b one after another, from record i to record e
pub data Standing (b : List ℕ) : ℕ → ℕ → List (List ℕ) → Type 0 where
  end : {i : ℕ} → Standing b i i []
  next : {i e : ℕ} {x : List ℕ} {xs : List (List ℕ)} → Part x → SameRecords x 0 b i (span_of x 0) → Standing b (i + span_of x 0) e xs → Standing b i e (x ∷ xs)

-- c is b, of n records, with a row of children of record p reordered, below line 1
pub record RowMoved (b c : List ℕ) (n p first last : ℕ) (before after : List (List ℕ)) : Type 0 where
  pub below : 0 < first
  pub some : first < last
  pub inside : last ≤ n
  pub parent : parent_of b first ≡ p
  pub within : last ≤ end_of b p
  pub head : SameRecords b 0 c 0 first
  pub tail : SameRecords b last c last (n - last)
  pub long : length c ≡ length b
  pub owes : obligations_of c n ≡ obligations_of b n
  pub old : Standing b first last before
  pub new : Standing c first last after
  pub order : Reordered (List ℕ) before after

-- what becomes of `left` records from i on, children of u, that begin with the row
pub record RowTurned (u : Parent) (e : ℕ) (b c : List ℕ) (i left : ℕ) : Type 0 where
  pub sound : sound_at u e c i left ≡ true
  pub parent : among 1 2 u.number ≡ true
  pub target : target_in b (forest b i left) ≡ target_in c (forest c i left)
  pub rules : Reordered Rule (rules_in b (forest b i left)) (rules_in c (forest c i left))
  pub obligations : obligations_in b (forest b i left) ≡ obligations_in c (forest c i left)
  pub trees : Reordered Tree (listed (trees_in b (forest b i left))) (listed (trees_in c (forest c i left)))
