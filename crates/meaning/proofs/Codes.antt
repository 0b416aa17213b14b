-- The claims of specs/Codes.antt. Assumes nothing.
use Rattle.std.specs.Prelude.{Err, None, Ok, Some}
use Prim.Native.Nat.{ℕ}
use mathlib.Core.Path.{◌≡◌, refl, sym, ap, ◌∙◌}
use mathlib.Core.Bool.{Bool, true, false}
use mathlib.Core.List.{List, [], ◌∷◌}
use Rattle.sums.specs.Worth.{Worth}
use Rattle.meaning.specs.Cause.{Cause}
use lib.Dec.{T}
use Rattle.record.specs.Choose.{if, both, either}
use Rattle.sums.specs.declared.Status.{Status}
use Rattle.sums.specs.declared.Status.TheVariants.{Processing}
use Rattle.meaning.specs.Numbers.{key_by}
use Rattle.meaning.specs.Logic.{is_true, is_unknown, some, or_else, first}
use Rattle.meaning.specs.Meaning.{match_of, comparison_of, the_only, decision_in, cause_in, Child, verdict_in, said, is, same, says, fails, first_of, unsure, keep, applying, the_one, combine, stops, evaluated, met, walked, cause_of, decides}
use Rattle.meaning.specs.Codes.{AlwaysCaused, plain, WorthPlain, CodesForgotten}
use Rattle.meaning.specs.declared.Truth.{Truth}
use Rattle.meaning.specs.declared.Truth.TheVariants.{True, False, Unknown}
use Rattle.meaning.specs.declared.Test.{Test}
use Rattle.meaning.specs.declared.Effect.{Effect}
use Rattle.meaning.specs.declared.Effect.TheVariants.{Permits, Denies}
use Rattle.meaning.specs.declared.Decision.{Decision}
use Rattle.meaning.specs.declared.Decision.TheVariants.{Permit, Deny, NotApplicable, Indeterminate}
use Rattle.meaning.specs.declared.Verdict.{Verdict}
use Rattle.meaning.specs.declared.Verdict.TheVariants as verdict
use Rattle.meaning.specs.declared.Algorithm.{Algorithm}
use Rattle.meaning.specs.declared.Algorithm.TheVariants.{RulesDeny, RulesPermit, First, PoliciesDeny, PoliciesPermit, OnlyOne}
use Rattle.meaning.proofs.Seen.{seen, WorthSeen, decision_seen, same_seen}

-- tests in place of equations: they compute in every case
abbrev is_by : Cause → Bool
is_by None = false
is_by (Some s) = true

abbrev lost : Decision → Type 0
lost d = T (is d Indeterminate)

abbrev why : Child → Cause
why c = cause_in (verdict_in c)

abbrev some_lost : List Child → Bool
some_lost cs = some (says Indeterminate) cs

-- a child is Indeterminate with a cause, so a list with such a child has a first cause
verdict_caused : (v : Verdict) (k : Cause) → T (either (is (decision_in v) Indeterminate) (is_by k)) → T (is_by (or_else (cause_in v) k))
verdict_caused verdict.Permit k h = h
verdict_caused verdict.Deny k h = h
verdict_caused verdict.NotApplicable k h = h
verdict_caused (verdict.Indeterminate s) k h = tt

first_caused : (cs : List Child) → T (some_lost cs) → T (is_by (first why cs))
first_caused [] h = h
first_caused (c ∷ cs) h = verdict_caused (verdict_in c) (first why cs) (go (says Indeterminate c) (first_caused cs) h)
  where
    go : (x : Bool) → (T (some_lost cs) → T (is_by (first why cs))) → T (either x (some_lost cs))
        → T (either x (is_by (first why cs)))
    go true ih h = tt
    go false ih h = ih h

-- an Indeterminate child is evaluated, or one stopped before it
reached : (a : Algorithm) (cs : List Child) → T (some_lost cs) → T (either (some_lost (evaluated a cs)) (some (stops a) cs))
reached a [] h = h
reached a (c ∷ cs) h = go (says Indeterminate c) (stops a c) (reached a cs) h
  where
    go : (x stop : Bool) → (T (some_lost cs) → T (either (some_lost (evaluated a cs)) (some (stops a) cs)))
        → T (either x (some_lost cs))
        → T (either (either x (some_lost (if stop [] (evaluated a cs)))) (either stop (some (stops a) cs)))
    go true stop ih h = tt
    go false true ih h = tt
    go false false ih h = ih h

-- an Indeterminate rule of this effect is Indeterminate
failed_says : (e : Effect) (cs : List Child) → T (some (fails e) cs) → T (some_lost cs)
failed_says e [] h = h
failed_says e (c ∷ cs) h = go (says Indeterminate c) (same c.effect e) (failed_says e cs) h
  where
    go : (x y : Bool) → (T (some (fails e) cs) → T (some_lost cs)) → T (either (both x y) (some (fails e) cs)) → T (either x (some_lost cs))
    go true y ih h = tt
    go false y ih h = ih h

-- a ladder whose first rung is the stop: where it says Indeterminate nothing stopped, so an Indeterminate child was evaluated
ladder_caused : (a : Algorithm) (x y : Decision) → (lost x → ⊥) → (lost y → ⊥) → (cs : List Child) (fail : Bool) → (T fail → T (some_lost cs))
    → lost (if (some (stops a) cs) x (if fail Indeterminate (if (some (says y) cs) y (if (some_lost cs) Indeterminate NotApplicable))))
    → T (is_by (first why (evaluated a cs)))
ladder_caused a x y nx ny cs fail p h =
    first_caused (evaluated a cs)
    (go (some_lost (evaluated a cs)) (some (stops a) cs) fail (some (says y) cs) (some_lost cs) p (reached a cs) h)
  where
    go : (found stop fail other may : Bool) → (T fail → T may) → (T may → T (either found stop))
        → lost (if stop x (if fail Indeterminate (if other y (if may Indeterminate NotApplicable)))) → T found
    go true stop fail other may p q h = tt
    go false true fail other may p q h = nx h
    go false false true other may p q h = q (p tt)
    go false false false true may p q h = ny h
    go false false false false true p q h = q tt
    go false false false false false p q h = h

-- first-applicable stops at the very child
first_found : (cs : List Child) → lost (first_of cs) → T (some_lost (evaluated First cs))
first_found [] h = h
first_found (c ∷ cs) h = go (said c) (first_found cs) h
  where
    go : (d : Decision) → (lost (first_of cs) → T (some_lost (evaluated First cs))) → lost (if (is d NotApplicable) (first_of cs) d)
        → T (either (is d Indeterminate) (some_lost (if (if (is d NotApplicable) false true) [] (evaluated First cs))))
    go Permit ih h = absurd h
    go Deny ih h = absurd h
    go NotApplicable ih h = ih h
    go Indeterminate ih h = tt

-- deny-overrides over policies has no Indeterminate
never : (x y : Bool) → lost (if x Deny (if y Permit NotApplicable)) → ⊥
never true y h = h
never false true h = h
never false false h = h

-- only-one, after the first child that applies: a target is Indeterminate, or a second applies, or the first's own body is Indeterminate
one_caused : (c : Child) (cs : List Child) (k : Cause) → lost (if (some unsure cs) Indeterminate (the_one (c ∷ applying cs)))
    → T (is_by (or_else (walked true cs) (or_else (cause_in c.body) k)))
one_caused c [] k h = verdict_caused c.body k (left (is (decision_in c.body) Indeterminate) h)
  where
    left : (x : Bool) → T x → T (either x (is_by k))
    left true h = tt
    left false h = absurd h
one_caused c (d ∷ ds) k h = go d.target (one_caused c ds k) h
  where
    go : (t : Truth) → (lost (if (some unsure ds) Indeterminate (the_one (c ∷ applying ds))) → T (is_by (or_else (walked true ds) (or_else (cause_in c.body) k))))
        → lost (if (either (is_unknown t) (some unsure ds)) Indeterminate (the_one (c ∷ keep t d (applying ds))))
        → T (is_by (or_else (met true t (walked true ds)) (or_else (cause_in c.body) k)))
    go True ih h = tt
    go False ih h = ih h
    go (Unknown s) ih h = tt

only_caused : (cs : List Child) → lost (if (some unsure cs) Indeterminate (the_one (applying cs))) → T (is_by (cause_of OnlyOne cs))
only_caused [] h = h
only_caused (c ∷ cs) h = go c.target (only_caused cs) h
  where
    go : (t : Truth) → (lost (if (some unsure cs) Indeterminate (the_one (applying cs))) → T (is_by (cause_of OnlyOne cs)))
        → lost (if (either (is_unknown t) (some unsure cs)) Indeterminate (the_one (keep t c (applying cs))))
        → T (is_by (or_else (met false t (walked (is_true t) cs)) (first (λ c. cause_in c.body) (keep t c (applying cs)))))
    go True ih h = one_caused c cs (first (λ c. cause_in c.body) (applying cs)) h
    go False ih h = ih h
    go (Unknown s) ih h = tt

-- that neither Permit nor Deny is Indeterminate is by computation
caused : (a : Algorithm) (cs : List Child) → lost (combine a cs) → T (is_by (cause_of a cs))
unfolding combine
caused RulesDeny cs h = ladder_caused RulesDeny Deny Permit (λ z. z) (λ z. z) cs (some (fails Denies) cs) (failed_says Denies cs) h
caused RulesPermit cs h = ladder_caused RulesPermit Permit Deny (λ z. z) (λ z. z) cs (some (fails Permits) cs) (failed_says Permits cs) h
caused PoliciesPermit cs h = ladder_caused PoliciesPermit Permit Deny (λ z. z) (λ z. z) cs false (λ z. absurd z) h
caused PoliciesDeny cs h = absurd (never (some (stops PoliciesDeny) cs) (some (says Permit) cs) h)
caused First cs h = first_caused (evaluated First cs) (first_found cs h)
caused OnlyOne cs h = only_caused cs h

pub always_caused : AlwaysCaused
always_caused a cs e = go (cause_of a cs) (caused a cs (rw e tt))
  where
    go : (k : Cause) → T (is_by k) → (s : Status) × (k ≡ Some s)
    go None h = absurd h
    go (Some s) h = (s, refl)

-- all codes seen as one
abbrev as_one : Status → Status
as_one s = Processing

plain_seen : (t u : Truth) → plain t ≡ plain u → seen as_one refl t ≡ seen as_one refl u
plain_seen t u e = go t ∙ e ∙ sym (go u)
  where
    go : (t : Truth) → seen as_one refl t ≡ plain t
    go True = refl
    go False = refl
    go (Unknown s) = refl

worth_seen : (kind : ℕ) (x y : Worth) → WorthPlain kind x y → WorthSeen as_one refl kind x y
worth_seen kind (Err s) (Err t) e = refl
worth_seen kind (Err s) (Ok y) e = e
worth_seen kind (Ok x) (Err t) e = e
worth_seen kind (Ok x) (Ok y) e = e

pub codes_forgotten : CodesForgotten
codes_forgotten g h same n k =
    let e = same_seen as_one refl g h matched compared worths n k in
    (sym (decision_seen as_one refl (decides g n)) ∙ ap decision_in e.0 ∙ decision_seen as_one refl (decides h n), e.1)
  where
    matched : (t : Test) → seen as_one refl (match_of g t) ≡ seen as_one refl (match_of h t)
    matched t = plain_seen (match_of g t) (match_of h t) (same.matched t)

    compared : (t : Test) → seen as_one refl (comparison_of g t) ≡ seen as_one refl (comparison_of h t)
    compared t = plain_seen (comparison_of g t) (comparison_of h t) (same.compared t)

    worths : (key : ℕ) → WorthSeen as_one refl (key_by key).type (the_only (g (key_by key))) (the_only (h (key_by key)))
    worths key = worth_seen (key_by key).type (the_only (g (key_by key))) (the_only (h (key_by key))) (same.worths key)
