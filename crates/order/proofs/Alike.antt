-- Children that are alike but for codes, and hand up what is alike: what an algorithm makes of them is alike. Assumes nothing.
use Prim.Native.Nat.{ℕ}
use mathlib.Core.Path.{◌≡◌, refl, sym, ap, ap₂, ◌∙◌}
use mathlib.Core.Bool.{Bool, true, false}
use mathlib.Core.List.{List, [], ◌∷◌, ◌++◌}
use Rattle.record.specs.Choose.{if, both, either}
use Rattle.record.proofs.Choose.{no_false}
use Rattle.meaning.specs.Logic.{is_unknown, some}
use Rattle.meaning.specs.Policy.{Obligation}
use Rattle.meaning.specs.Meaning.{under, decision_in, Child, said, owed, is, same, says, fails, first_of, unsure, keep, applying, the_one, combine, stops, hands, handed, own_of, binding, verdict_of, node_of}
use Rattle.meaning.specs.declared.Truth.{Truth}
use Rattle.meaning.specs.declared.Truth.TheVariants.{True, False, Unknown}
use Rattle.meaning.specs.declared.Effect.{Effect}
use Rattle.meaning.specs.declared.Effect.TheVariants.{Permits, Denies}
use Rattle.meaning.specs.declared.Decision.{Decision}
use Rattle.meaning.specs.declared.Decision.TheVariants.{Permit, Deny, NotApplicable, Indeterminate}
use Rattle.meaning.specs.declared.Verdict.{Verdict}
use Rattle.meaning.specs.declared.Algorithm.{Algorithm}
use Rattle.meaning.specs.declared.Algorithm.TheVariants.{RulesDeny, RulesPermit, First, PoliciesDeny, PoliciesPermit, OnlyOne}
use Rattle.meaning.proofs.Forgets.{forgets}
use Rattle.order.specs.Reordered.{Reordered}
use Rattle.order.specs.Reordered as list
use Rattle.order.proofs.Reordered.{same_order, front, behind}
use Rattle.order.proofs.Combined.{decided}

-- a way in which two lists of obligations may be alike: the same are, lists that are put together of such are, and so are those that a third is like
pub record Likeness (Like : List ℕ → List ℕ → Type 0) : Type 0 where
  pub same : (xs : List ℕ) → Like xs xs
  pub join : (xs ys us vs : List ℕ) → Like xs ys → Like us vs → Like (xs ++ us) (ys ++ vs)
  pub after : (xs ys zs : List ℕ) → Like xs ys → Like ys zs → Like xs zs

-- any lists are alike; equal ones; reordered ones
abbrev pub AnyLists : List ℕ → List ℕ → Type 0
AnyLists xs ys = Unit

abbrev pub SameLists : List ℕ → List ℕ → Type 0
SameLists xs ys = xs ≡ ys

pub any_lists : Likeness AnyLists
any_lists = record { same = λ xs. tt; join = λ xs ys us vs p q. tt; after = λ xs ys zs p q. tt }

pub same_lists : Likeness SameLists
same_lists = record { same = λ xs. refl; join = λ xs ys us vs p q. ap₂ ◌++◌ p q; after = λ xs ys zs p q. p ∙ q }

pub reordered_lists : Likeness (Reordered ℕ)
reordered_lists = record { same = same_order; join = λ xs ys us vs p q. list.then (behind us p) (front ys q); after = λ xs ys zs p q. list.then p q }

-- decisions that are told to be the same
is_same : (s d : Decision) → is s d ≡ true → s ≡ d
is_same Permit Permit e = refl
is_same Permit Deny e = no_false e
is_same Permit NotApplicable e = no_false e
is_same Permit Indeterminate e = no_false e
is_same Deny Permit e = no_false e
is_same Deny Deny e = refl
is_same Deny NotApplicable e = no_false e
is_same Deny Indeterminate e = no_false e
is_same NotApplicable Permit e = no_false e
is_same NotApplicable Deny e = no_false e
is_same NotApplicable NotApplicable e = refl
is_same NotApplicable Indeterminate e = no_false e
is_same Indeterminate Permit e = no_false e
is_same Indeterminate Deny e = no_false e
is_same Indeterminate NotApplicable e = no_false e
is_same Indeterminate Indeterminate e = refl

-- children that are seen alike but for codes, and that hand up what is alike where they decide d
module _ (d : Decision) (Like : List ℕ → List ℕ → Type 0) (like : Likeness Like) where
  pub record Alike (x y : Child) : Type 0 where
    pub target : x.target ≡ y.target
    pub effect : x.effect ≡ y.effect
    pub body : decision_in x.body ≡ decision_in y.body
    pub duties : said x ≡ d → Like (owed x.target x.duties) (owed y.target y.duties)

  pub data AlikeEach : List Child → List Child → Type 0 where
    nones : AlikeEach [] []
    pairs : {x y : Child} {xs ys : List Child} → Alike x y → AlikeEach xs ys → AlikeEach (x ∷ xs) (y ∷ ys)

  pub alike_same : (x : Child) → Alike x x
  alike_same x = record { target = refl; effect = refl; body = refl; duties = λ e. like.same (owed x.target x.duties) }

  -- what a parent asks of a child
  under_alike : (t : Truth) (v w : Verdict) → decision_in v ≡ decision_in w → decision_in (under t v) ≡ decision_in (under t w)
  under_alike True v w e = e
  under_alike False v w e = refl
  under_alike (Unknown s) v w e = refl

  pub said_alike : (x y : Child) → Alike x y → said x ≡ said y
  said_alike x y a = ap (λ (t : Truth). decision_in (under t x.body)) a.target ∙ under_alike y.target x.body y.body a.body

  pub alike_then : (x y z : Child) → Alike x y → Alike y z → Alike x z
  alike_then x y z p q =
      record {
        target = p.target ∙ q.target;
        effect = p.effect ∙ q.effect;
        body = p.body ∙ q.body;
        duties = λ e. like.after _ _ _ (p.duties e) (q.duties (sym (said_alike x y p) ∙ e));
      }

  stops_alike : (a : Algorithm) (x y : Child) → Alike x y → stops a x ≡ stops a y
  stops_alike RulesDeny x y p = ap (λ (s : Decision). is s Deny) (said_alike x y p)
  stops_alike RulesPermit x y p = ap (λ (s : Decision). is s Permit) (said_alike x y p)
  stops_alike First x y p = ap (λ (s : Decision). if (is s NotApplicable) false true) (said_alike x y p)
  stops_alike PoliciesDeny x y p = ap (λ (s : Decision). either (is s Deny) (is s Indeterminate)) (said_alike x y p)
  stops_alike PoliciesPermit x y p = ap (λ (s : Decision). is s Permit) (said_alike x y p)
  stops_alike OnlyOne x y p = refl

  -- and of children
  asked_alike : (f : Decision → Effect → Bool) {xs ys : List Child} → AlikeEach xs ys → some (λ c. f (said c) c.effect) xs ≡ some (λ c. f (said c) c.effect) ys
  asked_alike f nones = refl
  asked_alike f (pairs {x = x} {y = y} p q) = ap₂ either (ap₂ f (said_alike x y p) p.effect) (asked_alike f q)

  says_alike : (s : Decision) {xs ys : List Child} → AlikeEach xs ys → some (says s) xs ≡ some (says s) ys
  says_alike s q = asked_alike (λ z e. is z s) q

  fails_alike : (e : Effect) {xs ys : List Child} → AlikeEach xs ys → some (fails e) xs ≡ some (fails e) ys
  fails_alike e q = asked_alike (λ z f. both (is z Indeterminate) (same f e)) q

  first_alike : {xs ys : List Child} → AlikeEach xs ys → first_of xs ≡ first_of ys
  first_alike nones = refl
  first_alike (pairs {x = x} {y = y} p q) = ap₂ (λ (s rest : Decision). if (is s NotApplicable) rest s) (said_alike x y p) (first_alike q)

  unsure_alike : {xs ys : List Child} → AlikeEach xs ys → some unsure xs ≡ some unsure ys
  unsure_alike nones = refl
  unsure_alike (pairs p q) = ap₂ either (ap is_unknown p.target) (unsure_alike q)

  keep_alike : (t u : Truth) → t ≡ u → (x y : Child) {xs ys : List Child} → Alike x y → AlikeEach xs ys → AlikeEach (keep t x xs) (keep u y ys)
  keep_alike t u e x y {xs} {ys} p q = rw e (go u)
    where
      go : (u : Truth) → AlikeEach (keep u x xs) (keep u y ys)
      go True = pairs p q
      go False = q
      go (Unknown s) = q

  applying_alike : {xs ys : List Child} → AlikeEach xs ys → AlikeEach (applying xs) (applying ys)
  applying_alike nones = nones
  applying_alike (pairs {x = x} {y = y} p q) = keep_alike x.target y.target p.target x y p (applying_alike q)

  one_alike : {xs ys : List Child} → AlikeEach xs ys → the_one xs ≡ the_one ys
  one_alike nones = refl
  one_alike (pairs p nones) = p.body
  one_alike (pairs p (pairs q r)) = refl

  pub combine_alike : (a : Algorithm) {xs ys : List Child} → AlikeEach xs ys → combine a xs ≡ combine a ys
  unfolding combine
  combine_alike RulesDeny q = rw (says_alike Deny q, fails_alike Denies q, says_alike Permit q, says_alike Indeterminate q) refl
  combine_alike RulesPermit q = rw (says_alike Permit q, fails_alike Permits q, says_alike Deny q, says_alike Indeterminate q) refl
  combine_alike First q = first_alike q
  combine_alike PoliciesDeny q = rw (asked_alike (λ z e. either (is z Deny) (is z Indeterminate)) q, says_alike Permit q) refl
  combine_alike PoliciesPermit q = rw (says_alike Permit q, says_alike Deny q, says_alike Indeterminate q) refl
  combine_alike OnlyOne q = rw (unsure_alike q, one_alike (applying_alike q)) refl

  -- what is handed up where d is decided
  hands_alike : (x y : Child) → Alike x y → Like (hands d x) (hands d y)
  hands_alike x y p = rw (← said_alike x y p) (go (is (said x) d) refl)
    where
      go : (b : Bool) → is (said x) d ≡ b → Like (if b (owed x.target x.duties) []) (if b (owed y.target y.duties) [])
      go true e = p.duties (is_same (said x) d e)
      go false e = like.same []

  pub handed_alike : (a : Algorithm) {xs ys : List Child} → AlikeEach xs ys → Like (handed a d xs) (handed a d ys)
  unfolding handed
  handed_alike a nones = like.same []
  handed_alike a (pairs {x = x} {y = y} {xs = xs} {ys = ys} p q) =
      rw (← stops_alike a x y p) (like.join (hands d x) (hands d y) _ _ (hands_alike x y p) (go (stops a x) (handed_alike a q)))
    where
      go : (b : Bool) → Like (handed a d xs) (handed a d ys) → Like (if b [] (handed a d xs)) (if b [] (handed a d ys))
      go true h = like.same []
      go false h = h

  -- a policy or set whose children decide alike and hand up what is alike, where it decides d
  module _ (a : Algorithm) (t : Truth) (cs ds : List Child) (os : List Obligation) (e : combine a cs ≡ combine a ds)
      (h : decided d ≡ true → said (node_of a t cs os) ≡ d → Like (handed a d cs) (handed a d ds)) where
    abbrev owing : List Child → List ℕ
    owing xs = binding (combine a xs) (handed a (combine a xs) xs ++ own_of (combine a xs) os)

    bound : (s : Decision) {xs ys : List ℕ} → (decided s ≡ true → Like xs ys) → Like (binding s xs) (binding s ys)
    bound Permit l = l refl
    bound Deny l = l refl
    bound NotApplicable l = like.same []
    bound Indeterminate l = like.same []

    owing_alike : combine a cs ≡ d → (decided d ≡ true → Like (handed a d cs) (handed a d ds)) → Like (owing cs) (owing ds)
    owing_alike q l = rw (← e, q) (bound d (λ k. like.join _ _ _ _ (l k) (like.same (own_of d os))))

    pub node_alike : Alike (node_of a t cs os) (node_of a t ds os)
    unfolding node_of
    node_alike = record { target = refl; effect = refl; body = forgets a cs ∙ e ∙ sym (forgets a ds); duties = go t h }
      where
        go : (t : Truth) → (decided d ≡ true → decision_in (under t (verdict_of a cs)) ≡ d → Like (handed a d cs) (handed a d ds))
            → decision_in (under t (verdict_of a cs)) ≡ d → Like (owed t (owing cs)) (owed t (owing ds))
        go True h p = owing_alike (sym (forgets a cs) ∙ p) (λ k. h k p)
        go False h p = like.same []
        go (Unknown s) h p = like.same []
