-- A policy or set of which parts were reordered. Assumes nothing.
use Rattle.std.specs.Prelude.{◌≡◌, Bool, true, List, [], ◌∷◌}
use Rattle.meaning.specs.Policy.{Target, Rule, Obligation, OverRules, OverPolicies, Tree, policy, set, Trees, no_tree, tree}
use Rattle.order.specs.Reordered.{Reordered}

-- a set's policies and sets, as a list
unfoldable pub listed : Trees → List Tree
listed no_tree = []
listed (tree n ns) = n ∷ listed ns

-- what becomes of a policy or set where `may` says of which the rules, or the policies and sets, may be reordered: it stays; its rules are reordered; its policies
-- and sets are; something becomes of these, each by itself; one after another
mutual
  pub data Rearranged (may : Tree → Bool) : Tree → Tree → Type 0 where
    as_is : {n : Tree} → Rearranged may n n
    rules : {a : OverRules} {t : Target} {rs ss : List Rule} {os : List Obligation} → may (policy a t rs os) ≡ true → Reordered Rule rs ss
        → Rearranged may (policy a t rs os) (policy a t ss os)
    children : {a : OverPolicies} {t : Target} {ns ms : Trees} {os : List Obligation} → may (set a t ns os) ≡ true → Reordered Tree (listed ns) (listed ms)
        → Rearranged may (set a t ns os) (set a t ms os)
    inside : {a : OverPolicies} {t : Target} {ns ms : Trees} {os : List Obligation} → RearrangedEach may ns ms → Rearranged may (set a t ns os) (set a t ms os)
    then : {x y z : Tree} → Rearranged may x y → Rearranged may y z → Rearranged may x z

  pub data RearrangedEach (may : Tree → Bool) : Trees → Trees → Type 0 where
    none : RearrangedEach may no_tree no_tree
    each : {n m : Tree} {ns ms : Trees} → Rearranged may n m → RearrangedEach may ns ms → RearrangedEach may (tree n ns) (tree m ms)
