-- The claims of specs/Sentences.antt. Assumes nothing.
use mathlib.Core.Path.{◌≡◌, refl}
use mathlib.Core.Bool.{true}
use Rattle.meaning.specs.Policy.{OverRules, rulesDeny, rulesPermit, rulesFirst, OverPolicies, policiesDeny, policiesPermit, policiesFirst, policiesOnlyOne, set}
use Rattle.meaning.specs.Meaning.{over_rules, over_policies}
use Rattle.order.specs.Rearranged.{rules, children}
use Rattle.order.specs.Stays.{decision_by, answer_by}
use Rattle.order.specs.Sentences.{RulesKeepAnswer, ChildrenKeepDecision, DenyOverridesThatPermits, PermitOverridesThatDenies, OnlyOneKeepsList}
use Rattle.order.proofs.Stays.{decision_stays, answer_stays, numbers_stay}

pub rules_keep_answer : RulesKeepAnswer
rules_keep_answer a h t rs ss os r g = answer_stays _ _ (rules (go a h) r) g
  where
    go : (a : OverRules) → (a ≡ rulesFirst → ⊥) → answer_by (over_rules a) ≡ true
    go rulesDeny h = refl
    go rulesPermit h = refl
    go rulesFirst h = absurd (h refl)

pub children_keep_decision : ChildrenKeepDecision
children_keep_decision a h t ns ms os r g = decision_stays _ _ (children (go a h) r) g
  where
    go : (a : OverPolicies) → (a ≡ policiesFirst → ⊥) → decision_by (over_policies a) ≡ true
    go policiesDeny h = refl
    go policiesPermit h = refl
    go policiesFirst h = absurd (h refl)
    go policiesOnlyOne h = refl

pub deny_overrides_that_permits : DenyOverridesThatPermits
deny_overrides_that_permits t ns ms os r g e = (numbers_stay g (set policiesDeny t ns os) (set policiesDeny t ms os) (children {t = t} {os = os} (rw e refl) r)).1

pub permit_overrides_that_denies : PermitOverridesThatDenies
permit_overrides_that_denies t ns ms os r g e = (numbers_stay g (set policiesPermit t ns os) (set policiesPermit t ms os) (children {t = t} {os = os} (rw e refl) r)).1

pub only_one_keeps_list : OnlyOneKeepsList
only_one_keeps_list t ns ms os r g = (answer_stays _ _ (children refl r) g).1
