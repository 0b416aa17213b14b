-- What is claimed of a rearranged policy or set, for every request: how much of its answer stays. Status codes are left aside. `proofs/Stays.antt` proves it.
-- Assumes nothing.
use Rattle.std.specs.Prelude.{ℕ, ◌≡◌, Bool, true, false, not}
use Rattle.record.specs.Choose.{both}
use Rattle.meaning.specs.Policy.{Tree}
use Rattle.meaning.specs.Meaning.{Bags, is, decision_in, algorithm_of, decides, obliges}
use Rattle.meaning.specs.declared.Algorithm.{Algorithm}
use Rattle.meaning.specs.declared.Algorithm.TheVariants.{RulesDeny, RulesPermit, First, PoliciesDeny, PoliciesPermit, OnlyOne}
use Rattle.meaning.specs.declared.Decision.{Decision}
use Rattle.meaning.specs.declared.Decision.TheVariants.{Permit, Deny}
use Rattle.order.specs.Reordered.{Reordered}
use Rattle.order.specs.Rearranged.{Rearranged}

-- the decision without its code
abbrev pub decision : Bags → Tree → Decision
decision g n = decision_in (decides g n)

-- **The decision stays** under all algorithms but first-applicable: rules under deny-overrides and permit-overrides, policies and sets under these two and
-- only-one-applicable, at any depth.
abbrev pub decision_by : Algorithm → Bool
decision_by RulesDeny = true
decision_by RulesPermit = true
decision_by First = false
decision_by PoliciesDeny = true
decision_by PoliciesPermit = true
decision_by OnlyOne = true

abbrev pub keeps_decision : Tree → Bool
keeps_decision n = decision_by (algorithm_of n)

abbrev pub DecisionStays : Type 0
DecisionStays = (x y : Tree) → Rearranged keeps_decision x y → (g : Bags) → decision g x ≡ decision g y

-- **The whole answer stays**, decision and obligations, over rules under deny-overrides and permit-overrides, and under only-one-applicable.
abbrev pub answer_by : Algorithm → Bool
answer_by RulesDeny = true
answer_by RulesPermit = true
answer_by First = false
answer_by PoliciesDeny = false
answer_by PoliciesPermit = false
answer_by OnlyOne = true

abbrev pub keeps_answer : Tree → Bool
keeps_answer n = answer_by (algorithm_of n)

abbrev pub AnswerStays : Type 0
AnswerStays = (x y : Tree) → Rearranged keeps_answer x y → (g : Bags) → (decision g x ≡ decision g y) × (obliges g x ≡ obliges g y)

-- **The obligations stay the same numbers**, perhaps in another order, where besides sets under deny-overrides and permit-overrides are reordered; but not where one
-- under deny-overrides denies and so does the whole, or one under permit-overrides permits and so does the whole. (The set's decision, then the whole's.)
abbrev pub numbers_by : Algorithm → Decision → Decision → Bool
numbers_by RulesDeny own whole = true
numbers_by RulesPermit own whole = true
numbers_by First own whole = false
numbers_by PoliciesDeny own whole = not (both (is own Deny) (is whole Deny))
numbers_by PoliciesPermit own whole = not (both (is own Permit) (is whole Permit))
numbers_by OnlyOne own whole = true

abbrev pub keeps_numbers : Bags → Decision → Tree → Bool
keeps_numbers g whole n = numbers_by (algorithm_of n) (decision g n) whole

abbrev pub NumbersStay : Type 0
NumbersStay =
    (g : Bags) (x y : Tree) → Rearranged (keeps_numbers g (decision g x)) x y → (decision g x ≡ decision g y) × Reordered ℕ (obliges g x) (obliges g y)
