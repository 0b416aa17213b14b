-- The claims of specs/Stays.antt: one induction over what was rearranged, for each way in which obligations may be alike. Assumes nothing.
use Prim.Native.Nat.{ℕ}
use mathlib.Core.Path.{◌≡◌, refl, sym, ap, ◌∙◌}
use mathlib.Core.Bool.{Bool, true, false}
use mathlib.Core.List.{List, [], ◌∷◌, ◌++◌, map}
use Rattle.record.specs.Choose.{if}
use Rattle.record.proofs.Choose.{no_false}
use Rattle.meaning.specs.Policy.{Target, Rule, Obligation, OverPolicies, policiesDeny, policiesPermit, policiesFirst, policiesOnlyOne, Tree, policy, set, Trees, no_tree, tree}
use Rattle.meaning.specs.Meaning.{Bags, target_of, under, decision_in, Child, says, combine, stops, handed, node_of, over_rules, over_policies, algorithm_of, rule_child, rule_children, child_of, children_of, decides, obliges}
use Rattle.meaning.specs.declared.Truth.{Truth}
use Rattle.meaning.specs.declared.Truth.TheVariants.{True, False, Unknown}
use Rattle.meaning.specs.declared.Decision.{Decision}
use Rattle.meaning.specs.declared.Decision.TheVariants.{NotApplicable}
use Rattle.meaning.specs.declared.Verdict.{Verdict}
use Rattle.meaning.specs.declared.Algorithm.{Algorithm}
use Rattle.meaning.specs.declared.Algorithm.TheVariants.{RulesDeny, RulesPermit, First, PoliciesDeny, PoliciesPermit, OnlyOne}
use Rattle.meaning.proofs.Forgets.{forgets}
use Rattle.order.specs.Reordered.{Reordered}
use Rattle.order.specs.Rearranged.{listed, Rearranged, as_is, rules, children, inside, then, RearrangedEach, none, each}
use Rattle.order.specs.Stays.{decision, decision_by, keeps_decision, DecisionStays, answer_by, keeps_answer, AnswerStays, numbers_by, keeps_numbers, NumbersStay}
use Rattle.order.proofs.Reordered.{same_order, map_reordered}
use Rattle.order.proofs.Alike.{Likeness, AnyLists, SameLists, any_lists, same_lists, reordered_lists, Alike, AlikeEach, nones, pairs, alike_same, said_alike, alike_then, combine_alike, handed_alike, node_alike}
use Rattle.order.proofs.Combined.{combine_reordered, handed_reordered, deny_unstopped, permit_unstopped, decided, only_same_list}

-- rules hand up nothing
rules_hand_none : (a : Algorithm) (d : Decision) (g : Bags) (rs : List Rule) → handed a d (rule_children g rs) ≡ []
unfolding handed rule_children rule_child
rules_hand_none a d g [] = refl
rules_hand_none a d g (r ∷ rs) = rw (rules_hand_none a d g rs) (go (says d (rule_child g r)) (stops a (rule_child g r)))
  where
    go : (x y : Bool) → ◌≡◌ {A = List ℕ} (if x [] [] ++ if y [] []) []
    go true true = refl
    go true false = refl
    go false true = refl
    go false false = refl

-- reordered rules and trees are reordered children
rules_listed : (g : Bags) (rs : List Rule) → map (rule_child g) rs ≡ rule_children g rs
unfolding rule_children
rules_listed g [] = refl
rules_listed g (r ∷ rs) = ap (◌∷◌ (rule_child g r)) (rules_listed g rs)

children_listed : (g : Bags) (ns : Trees) → map (child_of g) (listed ns) ≡ children_of g ns
unfolding listed child_of
children_listed g no_tree = refl
children_listed g (tree n ns) = ap (◌∷◌ (child_of g n)) (children_listed g ns)

rules_reordered : (g : Bags) (rs ss : List Rule) → Reordered Rule rs ss → Reordered Child (rule_children g rs) (rule_children g ss)
rules_reordered g rs ss r = rw (rules_listed g rs, rules_listed g ss) at (map_reordered (rule_child g) r)

children_reordered : (g : Bags) (ns ms : Trees) → Reordered Tree (listed ns) (listed ms) → Reordered Child (children_of g ns) (children_of g ms)
children_reordered g ns ms r = rw (children_listed g ns, children_listed g ms) at (map_reordered (child_of g) r)

-- where what `may` be reordered keeps the decision, and hands up what is alike where it decides d
module _ (d : Decision) (Like : List ℕ → List ℕ → Type 0) (like : Likeness Like) (g : Bags) (may : Tree → Bool)
    (lets : (n : Tree) → may n ≡ true → keeps_decision n ≡ true)
    (turned : (a : OverPolicies) (t : Target) (ns : Trees) (os : List Obligation) (ds : List Child) → may (set a t ns os) ≡ true → decided d ≡ true
    → Reordered Child (children_of g ns) ds → decision g (set a t ns os) ≡ d → Like (handed (over_policies a) d (children_of g ns)) (handed (over_policies a) d ds)) where
  mutual
    unfolding child_of decides

    child_alike : {x y : Tree} → Rearranged may x y → Alike d Like like (child_of g x) (child_of g y)
    child_alike (as_is {n}) = alike_same d Like like (child_of g n)
    child_alike (rules {a} {t} {rs} {ss} {os} m r) =
        node_alike d Like like (over_rules a) (target_of g t) (rule_children g rs) (rule_children g ss) os
        (combine_reordered (over_rules a) (lets (policy a t rs os) m) (rules_reordered g rs ss r))
        (λ k e. rw (rules_hand_none (over_rules a) d g rs, rules_hand_none (over_rules a) d g ss) (like.same []))
    child_alike (children {a} {t} {ns} {ms} {os} m r) =
        let s = children_reordered g ns ms r in
        node_alike d Like like (over_policies a) (target_of g t) (children_of g ns) (children_of g ms) os
        (combine_reordered (over_policies a) (lets (set a t ns os) m) s) (λ k e. turned a t ns os (children_of g ms) m k s e)
    child_alike (inside {a} {t} {ns} {ms} {os} r) =
        let s = children_alike r in
        node_alike d Like like (over_policies a) (target_of g t) (children_of g ns) (children_of g ms) os (combine_alike d Like like (over_policies a) s) (λ k e. handed_alike d Like like (over_policies a) s)
    child_alike (then {x} {y} {z} r s) = alike_then d Like like (child_of g x) (child_of g y) (child_of g z) (child_alike r) (child_alike s)

    children_alike : {ns ms : Trees} → RearrangedEach may ns ms → AlikeEach d Like like (children_of g ns) (children_of g ms)
    children_alike none = nones
    children_alike (each r s) = pairs (child_alike r) (children_alike s)

  stays : (x y : Tree) → Rearranged may x y → (decision g x ≡ decision g y) × (decision g x ≡ d → Like (obliges g x) (obliges g y))
  unfolding decides obliges
  stays x y r =
      let a = child_alike r in
      (said_alike d Like like (child_of g x) (child_of g y) a, a.duties)

pub decision_stays : DecisionStays
decision_stays x y r g = (stays NotApplicable AnyLists any_lists g keeps_decision (λ n m. m) (λ a t ns os ds m k s e. tt) x y r).0

answer_lets : (a : Algorithm) → answer_by a ≡ true → decision_by a ≡ true
answer_lets RulesDeny m = refl
answer_lets RulesPermit m = refl
answer_lets First m = m
answer_lets PoliciesDeny m = refl
answer_lets PoliciesPermit m = refl
answer_lets OnlyOne m = refl

numbers_lets : (a : Algorithm) (own whole : Decision) → numbers_by a own whole ≡ true → decision_by a ≡ true
numbers_lets RulesDeny own whole m = refl
numbers_lets RulesPermit own whole m = refl
numbers_lets First own whole m = m
numbers_lets PoliciesDeny own whole m = refl
numbers_lets PoliciesPermit own whole m = refl
numbers_lets OnlyOne own whole m = refl

-- a set that decides d has a target that matches, so its children are combined to d
under_decided : (t : Truth) (v : Verdict) (d : Decision) → decided d ≡ true → decision_in (under t v) ≡ d → decision_in v ≡ d
under_decided True v d k e = e
under_decided False v d k e = no_false (rw (← e) at k)
under_decided (Unknown s) v d k e = no_false (rw (← e) at k)

combines : (g : Bags) (a : OverPolicies) (t : Target) (ns : Trees) (os : List Obligation) (d : Decision) → decided d ≡ true → decision g (set a t ns os) ≡ d
    → combine (over_policies a) (children_of g ns) ≡ d
unfolding decides child_of node_of
combines g a t ns os d k e = sym (forgets (over_policies a) (children_of g ns)) ∙ under_decided (target_of g t) _ d k e

module _ (g : Bags) (t : Target) (ns : Trees) (os : List Obligation) (ds : List Child) (r : Reordered Child (children_of g ns) ds) (d : Decision) (k : decided d ≡ true) where
  only_turned : decision g (set policiesOnlyOne t ns os) ≡ d → handed OnlyOne d (children_of g ns) ≡ handed OnlyOne d ds
  only_turned e = only_same_list r (rw (combines g policiesOnlyOne t ns os d k e) k) d

  answer_turned : (a : OverPolicies) → answer_by (over_policies a) ≡ true → decision g (set a t ns os) ≡ d
      → handed (over_policies a) d (children_of g ns) ≡ handed (over_policies a) d ds
  answer_turned policiesDeny m e = no_false m
  answer_turned policiesPermit m e = no_false m
  answer_turned policiesFirst m e = no_false m
  answer_turned policiesOnlyOne m e = only_turned e

  numbers_turned : (a : OverPolicies) → numbers_by (over_policies a) d d ≡ true → decision g (set a t ns os) ≡ d
      → Reordered ℕ (handed (over_policies a) d (children_of g ns)) (handed (over_policies a) d ds)
  numbers_turned policiesDeny m e = handed_reordered PoliciesDeny d (deny_unstopped d m _ (combines g policiesDeny t ns os d k e)) r
  numbers_turned policiesPermit m e = handed_reordered PoliciesPermit d (permit_unstopped d m _ (combines g policiesPermit t ns os d k e)) r
  numbers_turned policiesFirst m e = no_false m
  numbers_turned policiesOnlyOne m e = rw (only_turned e) (same_order (handed OnlyOne d ds))

pub answer_stays : AnswerStays
answer_stays x y r g =
    let d : Decision = decision g x in
    let z = stays d SameLists same_lists g keeps_answer (λ n m. answer_lets (algorithm_of n) m) (λ a t ns os ds m k s e. answer_turned g t ns os ds s d k a m e) x y r in
    (z.0, z.1 refl)

pub numbers_stay : NumbersStay
numbers_stay g x y r =
    let d : Decision = decision g x in
    let z = stays d (Reordered ℕ) reordered_lists g (keeps_numbers g d) (λ n m. numbers_lets (algorithm_of n) (decision g n) d m)
    (λ a t ns os ds m k s e. numbers_turned g t ns os ds s d k a (rw e at m) e) x y r in
    (z.0, z.1 refl)
