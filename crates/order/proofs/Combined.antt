-- What an algorithm makes of reordered children: the decision, and what they hand up. Assumes nothing.
use Prim.Native.Nat.{ℕ}
use mathlib.Core.Path.{◌≡◌, refl, sym, ap, ◌∙◌}
use mathlib.Core.Bool.{Bool, true, false, not}
use mathlib.Core.List.{List, [], ◌∷◌, ◌++◌}
use Rattle.record.specs.Choose.{if, both, either}
use Rattle.record.proofs.Choose.{no_false}
use Rattle.meaning.specs.Logic.{some}
use Rattle.meaning.specs.Meaning.{Child, is, says, fails, unsure, keep, applying, the_one, combine, stops, hands, handed}
use Rattle.meaning.specs.declared.Truth.{Truth}
use Rattle.meaning.specs.declared.Truth.TheVariants.{True, False, Unknown}
use Rattle.meaning.specs.declared.Effect.TheVariants.{Permits, Denies}
use Rattle.meaning.specs.declared.Decision.{Decision}
use Rattle.meaning.specs.declared.Decision.TheVariants.{Permit, Deny, NotApplicable, Indeterminate}
use Rattle.meaning.specs.declared.Algorithm.{Algorithm}
use Rattle.meaning.specs.declared.Algorithm.TheVariants.{RulesDeny, RulesPermit, First, PoliciesDeny, PoliciesPermit, OnlyOne}
use Rattle.order.specs.Reordered.{Reordered, none, keep as stays, swap, then}
use Rattle.order.specs.Stays.{decision_by, numbers_by}
use Rattle.order.proofs.Reordered.{same_order, some_reordered, gather, gather_reordered, single_reordered}

-- only-one: those that apply are reordered, and the one of them is the same
keep_both : (t : Truth) (c : Child) {xs ys : List Child} → Reordered Child xs ys → Reordered Child (keep t c xs) (keep t c ys)
keep_both True c r = stays r
keep_both False c r = r
keep_both (Unknown s) c r = r

keep_swap : (t u : Truth) (c d : Child) (xs : List Child) → Reordered Child (keep t c (keep u d xs)) (keep u d (keep t c xs))
keep_swap True True c d xs = swap
keep_swap True False c d xs = same_order (c ∷ xs)
keep_swap True (Unknown s) c d xs = same_order (c ∷ xs)
keep_swap False u c d xs = same_order (keep u d xs)
keep_swap (Unknown s) u c d xs = same_order (keep u d xs)

applying_reordered : {xs ys : List Child} → Reordered Child xs ys → Reordered Child (applying xs) (applying ys)
applying_reordered none = none
applying_reordered (stays {x} r) = keep_both x.target x (applying_reordered r)
applying_reordered (swap {x} {y} {xs}) = keep_swap x.target y.target x y (applying xs)
applying_reordered (then r s) = then (applying_reordered r) (applying_reordered s)

lone : (c : Child) {xs ys : List Child} → Reordered Child xs ys → the_one (c ∷ xs) ≡ the_one (c ∷ ys)
lone c none = refl
lone c (stays r) = refl
lone c swap = refl
lone c (then r s) = lone c r ∙ lone c s

one_reordered : {xs ys : List Child} → Reordered Child xs ys → the_one xs ≡ the_one ys
one_reordered none = refl
one_reordered (stays {x} r) = lone x r
one_reordered swap = refl
one_reordered (then r s) = one_reordered r ∙ one_reordered s

-- the decision, of every algorithm but first-applicable
pub combine_reordered : (a : Algorithm) → decision_by a ≡ true → {xs ys : List Child} → Reordered Child xs ys → combine a xs ≡ combine a ys
unfolding combine
combine_reordered RulesDeny h r =
    rw (some_reordered (says Deny) r, some_reordered (fails Denies) r, some_reordered (says Permit) r, some_reordered (says Indeterminate) r) refl
combine_reordered RulesPermit h r =
    rw (some_reordered (says Permit) r, some_reordered (fails Permits) r, some_reordered (says Deny) r, some_reordered (says Indeterminate) r) refl
combine_reordered First h r = no_false h
combine_reordered PoliciesDeny h r = rw (some_reordered (λ c. either (says Deny c) (says Indeterminate c)) r, some_reordered (says Permit) r) refl
combine_reordered PoliciesPermit h r = rw (some_reordered (says Permit) r, some_reordered (says Deny) r, some_reordered (says Indeterminate) r) refl
combine_reordered OnlyOne h r = rw (some_reordered unsure r, one_reordered (applying_reordered r)) refl

-- where none stops every child hands up, so the same numbers are handed up
neither : (p q : Bool) → either p q ≡ false → (p ≡ false) × (q ≡ false)
neither true q e = no_false (sym e)
neither false q e = (refl, e)

handed_all : (a : Algorithm) (d : Decision) (cs : List Child) → some (stops a) cs ≡ false → handed a d cs ≡ gather (hands d) cs
unfolding handed
handed_all a d [] e = refl
handed_all a d (c ∷ cs) e =
    let n = neither (stops a c) (some (stops a) cs) e in
    rw (n.0, handed_all a d cs n.1) refl

pub handed_reordered : (a : Algorithm) (d : Decision) {xs ys : List Child} → some (stops a) xs ≡ false → Reordered Child xs ys
    → Reordered ℕ (handed a d xs) (handed a d ys)
handed_reordered a d {xs} {ys} e r =
    rw (handed_all a d xs e, handed_all a d ys (sym (some_reordered (stops a) r) ∙ e)) (gather_reordered (hands d) r)

-- deny-overrides that does not deny did not stop, and neither did permit-overrides that does not permit
unstopped : (x : Decision) → is x x ≡ true → (b : Bool) (y d : Decision) → if b x y ≡ d → not (both (is d x) (is d x)) ≡ true → b ≡ false
unstopped x s true y d e m = no_false (rw (← e, s) at m)
unstopped x s false y d e m = refl

pub deny_unstopped : (d : Decision) → numbers_by PoliciesDeny d d ≡ true → (xs : List Child) → combine PoliciesDeny xs ≡ d → some (stops PoliciesDeny) xs ≡ false
unfolding combine
deny_unstopped d m xs e = unstopped Deny refl (some (stops PoliciesDeny) xs) _ d e m

pub permit_unstopped : (d : Decision) → numbers_by PoliciesPermit d d ≡ true → (xs : List Child) → combine PoliciesPermit xs ≡ d → some (stops PoliciesPermit) xs ≡ false
unfolding combine
permit_unstopped d m xs e = unstopped Permit refl (some (stops PoliciesPermit) xs) _ d e m

-- only-one hands up what those that apply do, and where it decides that is one
abbrev pub decided : Decision → Bool
decided d = either (is d Permit) (is d Deny)

hands_none : (b : Bool) → ◌≡◌ {A = List ℕ} (if b [] []) []
hands_none true = refl
hands_none false = refl

gather_applying : (d : Decision) (cs : List Child) → gather (hands d) cs ≡ gather (hands d) (applying cs)
gather_applying d [] = refl
gather_applying d (c ∷ cs) = go c.target refl (gather_applying d cs)
  where
    go : (t : Truth) → c.target ≡ t → gather (hands d) cs ≡ gather (hands d) (applying cs)
        → hands d c ++ gather (hands d) cs ≡ gather (hands d) (keep t c (applying cs))
    go True e ih = ap (◌++◌ (hands d c)) ih
    go False e ih = rw (e, hands_none (is NotApplicable d)) ih
    go (Unknown s) e ih = rw (e, hands_none (is Indeterminate d)) ih

only_unstopped : (cs : List Child) → some (stops OnlyOne) cs ≡ false
only_unstopped [] = refl
only_unstopped (c ∷ cs) = only_unstopped cs

lone_of : (b : Bool) (cs : List Child) → decided (if b Indeterminate (the_one cs)) ≡ true → (c : Child) × (cs ≡ c ∷ [])
lone_of true cs e = no_false e
lone_of false [] e = no_false e
lone_of false (c ∷ []) e = (c, refl)
lone_of false (c ∷ d ∷ cs) e = no_false e

pub only_same_list : {xs ys : List Child} → Reordered Child xs ys → decided (combine OnlyOne xs) ≡ true → (d : Decision)
    → handed OnlyOne d xs ≡ handed OnlyOne d ys
unfolding combine
only_same_list {xs} {ys} r h d =
    let c = lone_of (some unsure xs) (applying xs) h in
    rw (
      handed_all OnlyOne d xs (only_unstopped xs),
      handed_all OnlyOne d ys (only_unstopped ys),
      gather_applying d xs,
      gather_applying d ys,
      c.1,
      single_reordered c.0 (applying_reordered r) c.1,
    ) refl
