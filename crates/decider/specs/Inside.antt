-- What the functions inside the decider say to each other. Assumes nothing.
use Rattle.std.specs.Prelude.{ℕ, ◌+◌, ◌-◌, ◌≤◌, ◌<◌, ◌≡◌, Bool, true, false, List, [], ◌∷◌, ◌++◌, length, replicate, Option, None, Some, Result, Ok, Err}
use Rattle.record.specs.Choose.{if, both}
use Rattle.record.specs.Forest.{Forest, none, node, forest, height}
use Rattle.sums.specs.declared.Status.{Status}
use Rattle.sums.specs.declared.Status.TheVariants.{Processing}
use Rattle.meaning.specs.Logic.{some}
use Rattle.meaning.specs.Policy.{Tree, policy, set}
use Rattle.meaning.specs.Meaning.{Bags, Child, is, decision_of, unsure, applying, combine, handed, binding, verdict_of, over_policies, child_of, children_of, decides}
use Rattle.meaning.specs.Reading.{is_kind, choice_at, effect_of, tree_at, trees_in, book_of, bags_of}
use Rattle.meaning.specs.declared.Truth.{Truth}
use Rattle.meaning.specs.declared.Truth.TheVariants.{True, False, Unknown}
use Rattle.meaning.specs.declared.Decision.{Decision}
use Rattle.meaning.specs.declared.Decision.TheVariants.{Permit, Deny, NotApplicable, Indeterminate}
use Rattle.meaning.specs.declared.Verdict.{Verdict}
use Rattle.meaning.specs.declared.Verdict.TheVariants as verdict
use Rattle.meaning.specs.declared.Algorithm.{Algorithm}
use Rattle.meaning.specs.declared.Algorithm.TheVariants.{OnlyOne}
use Rattle.decider.specs.Outcome.{duties_of}
use Rattle.decider.specs.Places.{Holds}

-- record i with the span s: its tree, and what a parent sees of it; and the policies and sets that stand among `count` records from `from` on
unfoldable pub tree_from : List ℕ → ℕ → ℕ → Tree
tree_from b i s = tree_at b i (forest b (i + 1) (s - 1)) (trees_in b (forest b (i + 1) (s - 1)))

unfoldable pub child_at : List ℕ → Bags → ℕ → ℕ → Child
child_at b g i s = child_of g (tree_from b i s)

unfoldable pub children_in : List ℕ → Bags → ℕ → ℕ → List Child
children_in b g from count = children_of g (trees_in b (forest b from count))

-- is record i an obligation for d?
unfoldable pub is_due : List ℕ → ℕ → Decision → Bool
is_due b i d = both (is_kind b i 8) (is d (decision_of (effect_of (choice_at b i))))

-- obligations are only for Permit or Deny; what came with d stays where the same is decided
abbrev pub binds : Decision → Bool
binds Permit = true
binds Deny = true
binds NotApplicable = false
binds Indeterminate = false

abbrev pub keeps : Decision → Decision → Bool
keeps d v = both (binds v) (is d v)

-- what the children hand up: of an algorithm, and of a tree, where rules hand up nothing
unfoldable pub up_of : Algorithm → List Child → List ℕ
up_of a cs = binding (combine a cs) (handed a (combine a cs) cs)

unfoldable pub up_in : Bags → Tree → List ℕ
up_in g (policy a t rs os) = []
up_in g (set a t ns os) = up_of (over_policies a) (children_of g ns)

unfoldable pub up_at : List ℕ → Bags → ℕ → ℕ → List ℕ
up_at b g i s = up_in g (tree_from b i s)

-- the obligation records that stand in a forest; that stand below it; and both
unfoldable pub direct_of : List ℕ → Forest → ℕ
direct_of b none = 0
direct_of b (node i kids rest) = if (is_kind b i 8) 1 0 + direct_of b rest

unfoldable pub room_of : List ℕ → Forest → ℕ
room_of b none = 0
room_of b (node i kids rest) = if (is_kind b i 8) 1 0 + room_of b kids + room_of b rest

unfoldable pub deep_of : List ℕ → Forest → ℕ
deep_of b none = 0
deep_of b (node i kids rest) = room_of b kids + deep_of b rest

-- xs stand on top of n places, in no more than `room` of them
pub record Put (l : List ℕ) (n : ℕ) (xs : List ℕ) (room : ℕ) (e : List ℕ) (m : ℕ) : Type 0 where
  pub holds : Holds l n xs e m
  pub within : m ≤ n + room

-- and the verdict is v
pub record Ruled (l : List ℕ) (n : ℕ) (v : Verdict) (xs : List ℕ) (room : ℕ) (e : List ℕ) (u : Verdict) (m : ℕ) : Type 0 where
  pub says : u ≡ v
  pub puts : Put l n xs room e m

-- record j with the span s stands among `count` records from `from` on, and its target matches
pub record Applies (b : List ℕ) (g : Bags) (from count j s : ℕ) : Type 0 where
  pub matches : (child_at b g j s).target ≡ True
  pub there : 0 < s
  pub ends : j + s ≤ from + count
  pub fits : s ≤ count
  pub room : room_of b (forest b (j + 1) (s - 1)) ≤ deep_of b (forest b from count)
  pub nest : height (forest b (j + 1) (s - 1)) < height (forest b from count)

-- and it alone
pub record Single (b : List ℕ) (g : Bags) (from count j s : ℕ) : Type 0 where
  pub sure : some unsure (children_in b g from count) ≡ false
  pub alone : applying (children_in b g from count) ≡ child_at b g j s ∷ []
  pub applies : Applies b g from count j s

-- the one child that applies, by place and span, if one does; or why there is none
abbrev pub Pick : Type 0
Pick = Result (Option (ℕ × ℕ)) Status

-- what the targets of the children leave to only-one
unfoldable pub Picked : List ℕ → Bags → ℕ → ℕ → Pick → Type 0
Picked b g from count (Ok None) = verdict_of OnlyOne (children_in b g from count) ≡ verdict.NotApplicable
Picked b g from count (Ok (Some x)) = Single b g from count x.0 x.1
Picked b g from count (Err why) = verdict_of OnlyOne (children_in b g from count) ≡ verdict.Indeterminate why

-- a target more: an Indeterminate one, or a second that matches, which is a processing error; the first such counts
abbrev pub picking : Option (ℕ × ℕ) → Truth → ℕ → ℕ → Pick
picking p False i s = Ok p
picking p (Unknown why) i s = Err why
picking None True i s = Ok (Some (i, s))
picking (Some x) True i s = Err Processing

-- the answer of a book, and what it leaves of the places l
pub record Answered (b q l e : List ℕ) (v : Verdict) (n : ℕ) : Type 0 where
  pub says : v ≡ decides (bags_of q) (book_of b)
  pub puts : n ≡ length (duties_of b q)
  pub leaves : e ≡ duties_of b q ++ replicate (length l - length (duties_of b q)) 0
