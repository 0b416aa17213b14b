-- Document 02, 7, sentence by sentence, of one policy or set; specs/Stays.antt says it of every book that holds it. `proofs/Sentences.antt` proves it.
-- Assumes nothing.
use Rattle.std.specs.Prelude.{ℕ, ◌≡◌, List}
use Rattle.meaning.specs.Policy.{Target, Rule, Obligation, OverRules, rulesFirst, OverPolicies, policiesDeny, policiesPermit, policiesFirst, policiesOnlyOne, Tree, policy, set, Trees}
use Rattle.meaning.specs.Meaning.{Bags, obliges}
use Rattle.meaning.specs.declared.Decision.TheVariants.{Permit, Deny}
use Rattle.order.specs.Reordered.{Reordered}
use Rattle.order.specs.Rearranged.{listed}
use Rattle.order.specs.Stays.{decision}

-- Under deny-overrides and permit-overrides any reordering of a policy's rules keeps the whole answer.
abbrev pub RulesKeepAnswer : Type 0
RulesKeepAnswer =
    (a : OverRules) → (a ≡ rulesFirst → ⊥) → (t : Target) (rs ss : List Rule) (os : List Obligation) → Reordered Rule rs ss → (g : Bags)
    → (decision g (policy a t rs os) ≡ decision g (policy a t ss os)) × (obliges g (policy a t rs os) ≡ obliges g (policy a t ss os))

-- Reordering a set's children under those two or only-one-applicable keeps the decision.
abbrev pub ChildrenKeepDecision : Type 0
ChildrenKeepDecision =
    (a : OverPolicies) → (a ≡ policiesFirst → ⊥) → (t : Target) (ns ms : Trees) (os : List Obligation) → Reordered Tree (listed ns) (listed ms) → (g : Bags)
    → decision g (set a t ns os) ≡ decision g (set a t ms os)

-- Obligations of a reordered set are the same numbers, perhaps in another order, when deny-overrides permits or permit-overrides denies;
abbrev pub DenyOverridesThatPermits : Type 0
DenyOverridesThatPermits =
    (t : Target) (ns ms : Trees) (os : List Obligation) → Reordered Tree (listed ns) (listed ms) → (g : Bags) → decision g (set policiesDeny t ns os) ≡ Permit
    → Reordered ℕ (obliges g (set policiesDeny t ns os)) (obliges g (set policiesDeny t ms os))

abbrev pub PermitOverridesThatDenies : Type 0
PermitOverridesThatDenies =
    (t : Target) (ns ms : Trees) (os : List Obligation) → Reordered Tree (listed ns) (listed ms) → (g : Bags) → decision g (set policiesPermit t ns os) ≡ Deny
    → Reordered ℕ (obliges g (set policiesPermit t ns os)) (obliges g (set policiesPermit t ms os))

-- for only-one they are the same list.
abbrev pub OnlyOneKeepsList : Type 0
OnlyOneKeepsList =
    (t : Target) (ns ms : Trees) (os : List Obligation) → Reordered Tree (listed ns) (listed ms) → (g : Bags)
    → obliges g (set policiesOnlyOne t ns os) ≡ obliges g (set policiesOnlyOne t ms os)
