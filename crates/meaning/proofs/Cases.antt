-- What is read at a record, by cases. Assumes nothing.
use Prim.Native.Nat.{ℕ}
use mathlib.Core.Bool.{Bool, true, false}
use mathlib.Core.List.{List, [], ◌∷◌}
use lib.Dec.{eqb, ltb}
use Rattle.record.specs.Choose.{if}
use Rattle.record.specs.Forest.{Forest}
use Rattle.value.specs.declared.Function.{Function}
use Rattle.sums.specs.declared.Operator.{Operator}
use Rattle.meaning.specs.Policy.{Expr, literal, attribute, operate, Condition, compares, weighs, all, any, not, Conditions, no_part, part, Tree, policy, set, Trees}
use Rattle.meaning.specs.Reading.{is_kind, choice_at, key_at, comparison_at, not_at, of_two, operator_of, literal_at, spare_at, expr_at, weighs_at, condition_at, target_in, rules_in, obligations_in, rules_by, policies_by, tree_at}

-- a value: a literal, an attribute, or an operator with the first two of the values below it
pub expr_by : (P : List Expr → Expr → Type 0) (b : List ℕ) (i : ℕ) → ((kind n : ℕ) (es : List Expr) → P es (literal kind n)) → ((es : List Expr) → P es (attribute (key_at b i)))
    → ((o : Operator) (x y : Expr) (es : List Expr) → P (x ∷ y ∷ es) (operate o x y)) → (es : List Expr) → P es (expr_at b i es)
unfolding expr_at
expr_by P b i literals attributes operators es = go (eqb (choice_at b i) 1) (eqb (choice_at b i) 2)
  where
    two : (xs : List Expr) → P xs (of_two (operate (operator_of (choice_at b i))) (spare_at b i) xs)
    two [] = literals _ _ []
    two (x ∷ []) = literals _ _ (x ∷ [])
    two (x ∷ y ∷ xs) = operators _ x y xs

    go : (s t : Bool) → P es (if s (literal_at b i) (if t (attribute (key_at b i)) (of_two (operate (operator_of (choice_at b i))) (spare_at b i) es)))
    go true t = literals _ _ es
    go false true = attributes es
    go false false = two es

-- a condition: and and or of its parts, not of the first, a comparison of the first two of the values below it, else a comparison
pub condition_by : (P : Conditions → List Expr → Condition → Type 0) (b : List ℕ) (i : ℕ) → ((cs : Conditions) (es : List Expr) → P cs es (all cs))
    → ((cs : Conditions) (es : List Expr) → P cs es (any cs)) → ((c : Condition) (cs : Conditions) (es : List Expr) → P (part c cs) es (not c))
    → ((f : Function) (cs : Conditions) (x y : Expr) (es : List Expr) → P cs (x ∷ y ∷ es) (weighs f x y))
    → ((cs : Conditions) (es : List Expr) → P cs es (compares (comparison_at b i))) → (cs : Conditions) (es : List Expr) → P cs es (condition_at b i cs es)
unfolding condition_at
condition_by P b i ands ors nots weighings compared cs es = go (eqb (choice_at b i) 1) (eqb (choice_at b i) 2) (eqb (choice_at b i) 3) (ltb 20 (choice_at b i))
  where
    first : (ds : Conditions) → P ds es (not_at b i ds)
    first no_part = compared no_part es
    first (part d ds) = nots d ds es

    two : (xs : List Expr) → P cs xs (weighs_at b i xs)
    two [] = compared cs []
    two (x ∷ []) = compared cs (x ∷ [])
    two (x ∷ y ∷ xs) = weighings _ cs x y xs

    go : (x y z w : Bool) → P cs es (if x (all cs) (if y (any cs) (if z (not_at b i cs) (if w (weighs_at b i es) (compares (comparison_at b i))))))
    go true y z w = ands cs es
    go false true z w = ors cs es
    go false false true w = first cs
    go false false false true = two es
    go false false false false = compared cs es

-- a set or a policy
pub tree_by : (P : Bool → Tree → Type 0) (b : List ℕ) (i : ℕ) (kids : Forest) (ns : Trees) → P true (set (policies_by (choice_at b i)) (target_in b kids) ns (obligations_in b kids))
    → P false (policy (rules_by (choice_at b i)) (target_in b kids) (rules_in b kids) (obligations_in b kids)) → P (is_kind b i 1) (tree_at b i kids ns)
unfolding tree_at
tree_by P b i kids ns sets policies = go (is_kind b i 1)
  where
    go : (x : Bool) → P x (if x (set (policies_by (choice_at b i)) (target_in b kids) ns (obligations_in b kids)) (policy (rules_by (choice_at b i)) (target_in b kids) (rules_in b kids) (obligations_in b kids)))
    go true = sets
    go false = policies
