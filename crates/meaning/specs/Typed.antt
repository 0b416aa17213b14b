-- What is claimed of values in conditions: where operands are of their operator's type, it sees their values themselves. `proofs/Typed.antt` proves
-- it. Assumes nothing.
use Rattle.std.specs.Prelude.{ℕ, ◌^◌, ◌<◌, ◌≡◌, List, [], ◌∷◌, Err, Ok}
use Rattle.sums.specs.Worth.{Worth}
use Rattle.record.specs.Bytes.{Bytes}
use Rattle.value.specs.Value.{test_of}
use Rattle.value.specs.declared.Function.{Function}
use Rattle.value.specs.declared.Value.{Value}
use Rattle.sums.specs.Sums.{kind_of, result_of}
use Rattle.sums.specs.Bytes.{Of}
use Rattle.sums.specs.declared.Operator.{Operator}
use Rattle.meaning.specs.declared.Test.{Test}
use Rattle.meaning.specs.declared.Truth.{Truth}
use Rattle.meaning.specs.declared.Truth.TheVariants.{Unknown}
use Rattle.meaning.specs.Numbers.{key_of}
use Rattle.meaning.specs.Policy.{Key, Expr, literal, attribute, operate, Condition, compares, weighs, all, any, not, Conditions, no_part, part, When, always, whenever, Rule, Tree, policy, set, Trees, no_tree, tree}
use Rattle.meaning.specs.Meaning.{Bags, truth_of, type_of, worth, condition_of}
use Rattle.meaning.specs.Reading.{bags_of}

-- operands are of the operator's type, literals of eight bytes
unfoldable pub Typed : Expr → Type 0
Typed (literal k n) = n < 2 ^ 64
Typed (attribute key) = Unit
Typed (operate o a b) = (type_of a ≡ kind_of o) × (type_of b ≡ kind_of o) × Typed a × Typed b

-- two values that are compared are of one type
unfoldable mutual
  pub TypedCondition : Condition → Type 0
  TypedCondition (compares t) = Unit
  TypedCondition (weighs f a b) = (type_of a ≡ type_of b) × Typed a × Typed b
  TypedCondition (all cs) = TypedConditions cs
  TypedCondition (any cs) = TypedConditions cs
  TypedCondition (not c) = TypedCondition c

  pub TypedConditions : Conditions → Type 0
  TypedConditions no_part = Unit
  TypedConditions (part c cs) = TypedCondition c × TypedConditions cs

unfoldable pub TypedWhen : When → Type 0
TypedWhen always = Unit
TypedWhen (whenever c) = TypedCondition c

unfoldable pub TypedRules : List Rule → Type 0
TypedRules [] = Unit
TypedRules (r ∷ rs) = TypedWhen r.when × TypedRules rs

-- a policy or set all of whose conditions are: so is the tree of an accepted book
unfoldable mutual
  pub TypedTree : Tree → Type 0
  TypedTree (policy a t rs os) = TypedRules rs
  TypedTree (set a t ns os) = TypedTrees ns

  pub TypedTrees : Trees → Type 0
  TypedTrees no_tree = Unit
  TypedTrees (tree n ns) = TypedTree n × TypedTrees ns

-- values of this type
unfoldable pub All : ℕ → List Value → Type 0
All k [] = Unit
All k (v ∷ vs) = Of k v × All k vs

-- the values of a key are of the key's type: so are a request's
abbrev pub Fair : Bags → Type 0
Fair g = (key : Key) → All key.type (g key)

abbrev pub RequestsAreFair : Type 0
RequestsAreFair = (q : List ℕ) → Bytes q → Fair (bags_of q)

-- the worth of a value is of its type
abbrev pub WorthIsTyped : Type 0
WorthIsTyped = (g : Bags) → Fair g → (e : Expr) → Typed e → (v : Value) → worth g e ≡ Ok v → Of (type_of e) v

-- the operator of the operands' values themselves, the function of the two values themselves
abbrev pub operated_plain : Operator → Worth → Worth → Worth
operated_plain o (Err s) b = Err s
operated_plain o (Ok x) (Err s) = Err s
operated_plain o (Ok x) (Ok y) = result_of o x y

abbrev pub weighed_plain : Function → Worth → Worth → Truth
weighed_plain f (Err s) b = Unknown s
weighed_plain f (Ok x) (Err s) = Unknown s
weighed_plain f (Ok x) (Ok y) = truth_of (test_of f x y)

abbrev pub OperatesPlainly : Type 0
OperatesPlainly = (g : Bags) → Fair g → (o : Operator) (a b : Expr) → Typed (operate o a b) → worth g (operate o a b) ≡ operated_plain o (worth g a) (worth g b)

abbrev pub WeighsPlainly : Type 0
WeighsPlainly =
    (g : Bags) → Fair g → (f : Function) (a b : Expr) → type_of a ≡ type_of b → Typed a → Typed b
    → condition_of g (weighs f a b) ≡ weighed_plain f (worth g a) (worth g b)

-- a comparison of a literal with an attribute, choices 11 to 15, is the same as the two weighed against each other, choices 21 to 25
abbrev pub ComparesAsWeighed : Type 0
ComparesAsWeighed =
    (g : Bags) → Fair g → (t : Test) → t.literal < 2 ^ 64
    → condition_of g (compares t) ≡ condition_of g (weighs t.function (literal (key_of t).type t.literal) (attribute t.key))
