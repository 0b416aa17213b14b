-- What a parent sees of the record i with the span s, by its kind; and only-one-applicable. Assumes nothing.
use Rattle.std.specs.Prelude.{None}
use mathlib.Core.Path.{◌≡◌, refl, sym, ap, ◌∙◌}
use mathlib.Core.Bool.{Bool, true, false}
use mathlib.Core.List.{List, [], ◌∷◌, ◌++◌, append-nil}
use Prim.Native.Nat.{ℕ, ◌+◌, ◌-◌}
use Rattle.record.specs.Choose.{if, either}
use Rattle.record.specs.Forest.{Forest, none, node, forest}
use Rattle.meaning.specs.Logic.{is_true, is_unknown, some, or_else}
use Rattle.meaning.specs.Policy.{Target, Rule, Obligation, OverRules, OverPolicies, Tree, policy, set, Trees}
use Rattle.meaning.specs.Meaning.{Bags, target_of, decision_of, coded, decision_in, cause_in, Child, is, unsure, keep, applying, combine, stops, met, walked, hands, handed, own_of, binding, verdict_of, node_of, over_rules, over_policies, rule_of, rule_child, rule_children, child_of, children_of}
use Rattle.meaning.specs.Reading.{is_kind, choice_at, target_in, rules_in, rules_by, policies_by, obligations_in, tree_at, trees_in, is_party}
use Rattle.meaning.specs.declared.Truth.{Truth}
use Rattle.meaning.specs.declared.Truth.TheVariants.{True, False, Unknown}
use Rattle.meaning.specs.declared.Effect.{Effect}
use Rattle.meaning.specs.declared.Effect.TheVariants.{Permits, Denies}
use Rattle.meaning.specs.declared.Decision.{Decision}
use Rattle.meaning.specs.declared.Decision.TheVariants.{Permit, Deny, NotApplicable, Indeterminate}
use Rattle.meaning.specs.declared.Verdict.{Verdict}
use Rattle.meaning.specs.declared.Verdict.TheVariants as verdict
use Rattle.meaning.specs.declared.Algorithm.{Algorithm}
use Rattle.meaning.specs.declared.Algorithm.TheVariants.{OnlyOne}
use Rattle.meaning.proofs.Forgets.{forgets}
use Rattle.decider.specs.Inside.{tree_from, child_at, children_in, up_of, up_in, up_at}
use Rattle.decider.proofs.Kept.{bind_none}

-- a verdict is its decision with its cause
coded_again : (v : Verdict) → coded (decision_in v) (or_else (cause_in v) None) ≡ v
coded_again verdict.Permit = refl
coded_again verdict.Deny = refl
coded_again verdict.NotApplicable = refl
coded_again (verdict.Indeterminate s) = refl

-- bindings
bind_both : (d : Decision) (xs ys : List ℕ) → binding d (xs ++ ys) ≡ binding d xs ++ binding d ys
bind_both Permit xs ys = refl
bind_both Deny xs ys = refl
bind_both NotApplicable xs ys = refl
bind_both Indeterminate xs ys = refl

bind_twice : (d : Decision) (xs : List ℕ) → binding d xs ≡ binding d (binding d xs)
bind_twice Permit xs = refl
bind_twice Deny xs = refl
bind_twice NotApplicable xs = refl
bind_twice Indeterminate xs = refl

-- rules hand up nothing
no_hands : (b : Bool) (xs : List ℕ) → xs ≡ [] → if b [] xs ≡ []
no_hands true xs e = refl
no_hands false xs e = e

rules_hand : (g : Bags) (a : Algorithm) (d : Decision) (rs : List Rule) → handed a d (rule_children g rs) ≡ []
unfolding handed rule_children rule_child
rules_hand g a d [] = refl
rules_hand g a d (r ∷ rs) = rw (no_hands (is (decision_in (rule_of g r)) d) [] refl) (no_hands (stops a (rule_child g r)) (handed a d (rule_children g rs)) (rules_hand g a d rs))

-- a policy or set, by its algorithm
node_binds : (a : Algorithm) (t : Truth) (cs : List Child) (os : List Obligation) → (node_of a t cs os).duties ≡ binding (decision_in (node_of a t cs os).body) (node_of a t cs os).duties
unfolding node_of
node_binds a t cs os = rw (forgets a cs) (bind_twice (combine a cs) (handed a (combine a cs) cs ++ own_of (combine a cs) os))

node_duties : (a : Algorithm) (t : Truth) (cs : List Child) (os : List Obligation)
    → (node_of a t cs os).duties ≡ up_of a cs ++ binding (decision_in (node_of a t cs os).body) (own_of (decision_in (node_of a t cs os).body) os)
unfolding node_of up_of
node_duties a t cs os = rw (forgets a cs) (bind_both (combine a cs) (handed a (combine a cs) cs) (own_of (combine a cs) os))

rules_up : (g : Bags) (a : Algorithm) (rs : List Rule) → up_of a (rule_children g rs) ≡ []
unfolding up_of
rules_up g a rs = rw (rules_hand g a (combine a (rule_children g rs)) rs) (sym (bind_none (combine a (rule_children g rs))))

-- a tree, whatever it is
module _ (g : Bags) where
  tree_binds : (n : Tree) → (child_of g n).duties ≡ binding (decision_in (child_of g n).body) (child_of g n).duties
  unfolding child_of
  tree_binds (policy a t rs os) = node_binds (over_rules a) (target_of g t) (rule_children g rs) os
  tree_binds (set a t ns os) = node_binds (over_policies a) (target_of g t) (children_of g ns) os

  tree_effect : (n : Tree) → (child_of g n).effect ≡ Permits
  unfolding child_of node_of
  tree_effect (policy a t rs os) = refl
  tree_effect (set a t ns os) = refl

  -- a set or a policy with the same target and own obligations
  module _ (k : Bool) (p : OverPolicies) (r : OverRules) (t : Target) (ns : Trees) (rs : List Rule) (os : List Obligation) where
    tree_target : (child_of g (if k (set p t ns os) (policy r t rs os))).target ≡ target_of g t
    unfolding child_of node_of
    tree_target = go k
      where
        go : (k : Bool) → (child_of g (if k (set p t ns os) (policy r t rs os))).target ≡ target_of g t
        go true = refl
        go false = refl

    tree_duties : (child_of g (if k (set p t ns os) (policy r t rs os))).duties
        ≡ up_in g (if k (set p t ns os) (policy r t rs os))
        ++ binding (decision_in (child_of g (if k (set p t ns os) (policy r t rs os))).body) (own_of (decision_in (child_of g (if k (set p t ns os) (policy r t rs os))).body) os)
    unfolding child_of up_in
    tree_duties = go k
      where
        go : (k : Bool) → (child_of g (if k (set p t ns os) (policy r t rs os))).duties
            ≡ up_in g (if k (set p t ns os) (policy r t rs os))
            ++ binding (decision_in (child_of g (if k (set p t ns os) (policy r t rs os))).body) (own_of (decision_in (child_of g (if k (set p t ns os) (policy r t rs os))).body) os)
        go true = node_duties (over_policies p) (target_of g t) (children_of g ns) os
        go false = rw (rules_up g (over_rules r) rs) at (node_duties (over_rules r) (target_of g t) (rule_children g rs) os)

module _ (b : List ℕ) (g : Bags) (i s : ℕ) where
  pub at_target : (child_at b g i s).target ≡ target_of g (target_in b (forest b (i + 1) (s - 1)))
  unfolding child_at tree_from tree_at
  at_target = tree_target g (is_kind b i 1) _ _ _ _ _ _

  pub at_effect : (child_at b g i s).effect ≡ Permits
  unfolding child_at
  at_effect = tree_effect g (tree_from b i s)

  pub at_binds : (child_at b g i s).duties ≡ binding (decision_in (child_at b g i s).body) (child_at b g i s).duties
  unfolding child_at
  at_binds = tree_binds g (tree_from b i s)

  pub at_duties : (child_at b g i s).duties ≡ up_at b g i s ++ binding (decision_in (child_at b g i s).body) (own_of (decision_in (child_at b g i s).body) (obligations_in b (forest b (i + 1) (s - 1))))
  unfolding child_at tree_from tree_at up_at
  at_duties = tree_duties g (is_kind b i 1) _ _ _ _ _ _

  -- a set, and a policy
  pub set_is : is_kind b i 1 ≡ true
      → ((child_at b g i s).body ≡ verdict_of (over_policies (policies_by (choice_at b i))) (children_in b g (i + 1) (s - 1)))
      × (up_at b g i s ≡ up_of (over_policies (policies_by (choice_at b i))) (children_in b g (i + 1) (s - 1)))
  unfolding child_at tree_from tree_at up_at children_in child_of node_of up_in
  set_is e = (rw e, rw e)

  pub policy_is : is_kind b i 1 ≡ false
      → ((child_at b g i s).body ≡ verdict_of (over_rules (rules_by (choice_at b i))) (rule_children g (rules_in b (forest b (i + 1) (s - 1)))))
      × (up_at b g i s ≡ [])
  unfolding child_at tree_from tree_at up_at child_of node_of up_in
  policy_is e = (rw e, rw e)

-- the children that stand in a forest
unfoldable pub children_on : List ℕ → Bags → Forest → List Child
children_on b g f = children_of g (trees_in b f)

pub children_all : (b : List ℕ) (g : Bags) (from count : ℕ) → children_on b g (forest b from count) ≡ children_in b g from count
unfolding children_on children_in
children_all b g from count = refl

pub children_none : (b : List ℕ) (g : Bags) {f : Forest} → f ≡ none → children_on b g f ≡ []
unfolding children_on trees_in children_of
children_none b g e = rw e

pub children_skip : (b : List ℕ) (g : Bags) {i : ℕ} {f kids rest : Forest} → f ≡ node i kids rest → false ≡ is_party b i
    → children_on b g f ≡ children_on b g rest
unfolding children_on trees_in
children_skip b g e q = rw (e, ← q)

pub children_more : (b : List ℕ) (g : Bags) {i : ℕ} (s : ℕ) {f rest : Forest} → f ≡ node i (forest b (i + 1) (s - 1)) rest → true ≡ is_party b i
    → children_on b g f ≡ child_at b g i s ∷ children_on b g rest
unfolding children_on trees_in children_of child_at tree_from
children_more b g s e q = rw (e, ← q)

-- only-one: children that do not apply hand up nothing
not_said : (x : Effect) (xs ys : List ℕ) → if (is NotApplicable (decision_of x)) xs [] ++ ys ≡ ys
not_said Permits xs ys = refl
not_said Denies xs ys = refl

not_sure : (x : Effect) (xs ys : List ℕ) → if (is Indeterminate (decision_of x)) xs [] ++ ys ≡ ys
not_sure Permits xs ys = refl
not_sure Denies xs ys = refl

handed_applying : (x : Effect) (cs : List Child) → handed OnlyOne (decision_of x) cs ≡ handed OnlyOne (decision_of x) (applying cs)
unfolding handed
handed_applying x [] = refl
handed_applying x (c ∷ cs) = go c.target refl (handed_applying x cs)
  where
    go : (t : Truth) → c.target ≡ t → handed OnlyOne (decision_of x) cs ≡ handed OnlyOne (decision_of x) (applying cs)
        → hands (decision_of x) c ++ handed OnlyOne (decision_of x) cs ≡ handed OnlyOne (decision_of x) (keep t c (applying cs))
    go True e ih = ap (λ z. hands (decision_of x) c ++ z) ih
    go False e ih = rw (e, not_said x [] (handed OnlyOne (decision_of x) cs)) ih
    go (Unknown u) e ih = rw (e, not_sure x [] (handed OnlyOne (decision_of x) cs)) ih

-- and beside the one child that applies no cause is met
none_met : (cs : List Child) → some unsure cs ≡ false → applying cs ≡ [] → walked true cs ≡ None
none_met [] e f = refl
none_met (c ∷ cs) e f = go c.target e f (none_met cs)
  where
    go : (t : Truth) → either (is_unknown t) (some unsure cs) ≡ false → keep t c (applying cs) ≡ [] → (some unsure cs ≡ false → applying cs ≡ [] → walked true cs ≡ None)
        → met true t (walked true cs) ≡ None
    go True e f ih = cc
    go False e f ih = ih e f
    go (Unknown s) e f ih = cc

one_met : (c : Child) (cs : List Child) → some unsure cs ≡ false → applying cs ≡ c ∷ [] → walked false cs ≡ None
one_met c [] e f = refl
one_met c (d ∷ cs) e f = go d.target e f (one_met c cs)
  where
    go : (t : Truth) → either (is_unknown t) (some unsure cs) ≡ false → keep t d (applying cs) ≡ c ∷ [] → (some unsure cs ≡ false → applying cs ≡ c ∷ [] → walked false cs ≡ None)
        → met false t (walked (is_true t) cs) ≡ None
    go True e f ih = let z : applying cs ≡ [] = cc in none_met cs e z
    go False e f ih = ih e f
    go (Unknown s) e f ih = cc

-- the one child whose target matches
pub single_is : (c : Child) (cs : List Child) → some unsure cs ≡ false → applying cs ≡ c ∷ [] → c.target ≡ True → c.duties ≡ binding (decision_in c.body) c.duties
    → (verdict_of OnlyOne cs ≡ c.body) × (up_of OnlyOne cs ≡ c.duties)
unfolding combine verdict_of up_of handed
single_is c cs e f t d = (rw (e, f, one_met c cs e f) (coded_again c.body), rw one (go (decision_in c.body) refl d))
  where
    one : combine OnlyOne cs ≡ decision_in c.body
    one = rw (e, f)

    all : (x : Effect) → decision_in c.body ≡ decision_of x → handed OnlyOne (decision_of x) cs ≡ c.duties
    all x q = handed_applying x cs ∙ (rw (f, t, q) (self x))
      where
        self : (x : Effect) → if (is (decision_of x) (decision_of x)) c.duties [] ++ [] ≡ c.duties
        self Permits = append-nil c.duties
        self Denies = append-nil c.duties

    go : (v : Decision) → decision_in c.body ≡ v → c.duties ≡ binding v c.duties → binding v (handed OnlyOne v cs) ≡ c.duties
    go Permit q w = all Permits q
    go Deny q w = all Denies q
    go NotApplicable q w = sym w
    go Indeterminate q w = sym w
