-- Codes only travel: bags in which every test and attribute finds the same, each code seen as another, are answered the same, as seen. With codes seen as
-- they are it is the claim of specs/Alike.antt, with all seen as one the last claim of specs/Codes.antt. Assumes nothing.
use Rattle.std.specs.Prelude.{Err, None, Ok, Some}
use Prim.Native.Nat.{ℕ}
use mathlib.Core.Path.{◌≡◌, refl, sym, subst, ap, ap₂, ◌∙◌}
use mathlib.Core.Bool.{Bool, true, false}
use mathlib.Core.List.{List, [], ◌∷◌, map}
use Rattle.sums.specs.Worth.{Worth}
use Rattle.meaning.specs.Cause.{Cause}
use lib.Dec.{T}
use Rattle.record.specs.Choose.{if, both, either}
use Rattle.value.specs.Value.{value_of, equal_of}
use Rattle.value.specs.declared.Function.{Function}
use Rattle.value.proofs.Functions.{equal_to_itself, equal_stand_alike}
use Rattle.sums.specs.Sums.{bytes_of, kind_of}
use Rattle.sums.specs.Equal.{WorthAlike}
use Rattle.sums.specs.declared.Operator.{Operator}
use Rattle.sums.specs.declared.Status.{Status}
use Rattle.sums.specs.declared.Status.TheVariants.{Processing}
use Rattle.sums.proofs.Equal.{equal_operands}
use Rattle.meaning.specs.Logic.{is_true, is_false, is_unknown, some, or_else, first, because, unless, and_all, or_all, not_of, target_all}
use Rattle.meaning.specs.Meaning.{Bags, truth_of, match_of, comparison_of, the_only, type_of, operated, worth, weighed, condition_of, conditions_of, each, conjunction_of, section_of, sections_of, target_of, under, coded, decision_in, cause_in, when_of, rule_of, Child, verdict_in, said, owed, is, same, says, fails, first_of, unsure, keep, applying, the_one, is_only, combine, stops, evaluated, met, walked, cause_of, handed, verdict_of, node_of, over_rules, over_policies, rule_child, rule_children, child_of, children_of, decides, obliges}
use Rattle.meaning.specs.Numbers.{key_by}
use Rattle.meaning.specs.Policy.{OneOrMore, last, more, Conjunction, Section, Target, Expr, literal, attribute, operate, Condition, compares, weighs, all, any, not, Conditions, no_part, part, When, always, whenever, Rule, Obligation, Tree, policy, set, Trees, no_tree, tree}
use Rattle.meaning.specs.Typed.{Typed, TypedCondition, TypedConditions, TypedWhen, TypedRules, TypedTree, TypedTrees}
use Rattle.meaning.specs.declared.Truth.{Truth}
use Rattle.meaning.specs.declared.Truth.TheVariants.{True, False, Unknown}
use Rattle.meaning.specs.declared.Test.{Test}
use Rattle.meaning.specs.declared.Effect.{Effect}
use Rattle.meaning.specs.declared.Effect.TheVariants.{Permits, Denies}
use Rattle.meaning.specs.declared.Decision.{Decision}
use Rattle.meaning.specs.declared.Decision.TheVariants.{Permit, Deny, NotApplicable, Indeterminate}
use Rattle.meaning.specs.declared.Verdict.{Verdict}
use Rattle.meaning.specs.declared.Verdict.TheVariants as verdict
use Rattle.meaning.specs.declared.Algorithm.{Algorithm}
use Rattle.meaning.specs.declared.Algorithm.TheVariants.{RulesDeny, RulesPermit, First, PoliciesDeny, PoliciesPermit, OnlyOne}

-- a test that is blind to a change of each of a list is blind to it in the list
some_same : {A : Type 0} (f : A → Bool) (k : A → A) → ((x : A) → f (k x) ≡ f x) → (xs : List A) → some f (map k xs) ≡ some f xs
some_same f k e [] = refl
some_same f k e (x ∷ xs) = ap₂ either (e x) (some_same f k e xs)

-- a choice of two of one form has that form
if_of : {A B : Type 0} (f : A → B) (b : Bool) (x y : A) → if b (f x) (f y) ≡ f (if b x y)
if_of f true x y = refl
if_of f false x y = refl

-- a processing error stays one, since only-one gives that code of itself
module _ (see : Status → Status) (keeps : see Processing ≡ Processing) where
  abbrev pub seen : Truth → Truth
  seen True = True
  seen False = False
  seen (Unknown s) = Unknown (see s)

  abbrev cause_seen : Cause → Cause
  cause_seen None = None
  cause_seen (Some s) = Some (see s)

  abbrev pub verdict_seen : Verdict → Verdict
  verdict_seen verdict.Permit = verdict.Permit
  verdict_seen verdict.Deny = verdict.Deny
  verdict_seen verdict.NotApplicable = verdict.NotApplicable
  verdict_seen (verdict.Indeterminate s) = verdict.Indeterminate (see s)

  abbrev child_seen : Child → Child
  child_seen c = record { target = seen c.target; effect = c.effect; body = verdict_seen c.body; duties = c.duties }

  abbrev pub WorthSeen : ℕ → Worth → Worth → Type 0
  WorthSeen kind (Err s) (Err t) = see s ≡ see t
  WorthSeen kind (Err s) (Ok y) = ⊥
  WorthSeen kind (Ok x) (Err t) = ⊥
  WorthSeen kind (Ok x) (Ok y) = T (equal_of (value_of kind (bytes_of x)) (value_of kind (bytes_of y)))

  -- alike worths are alike as seen, for results of equal operands are known to be alike
  pub alike_seen : (kind : ℕ) (x y : Worth) → WorthAlike kind x y → WorthSeen kind x y
  alike_seen kind (Err s) (Err t) e = ap see e
  alike_seen kind (Err s) (Ok y) e = e
  alike_seen kind (Ok x) (Err t) e = e
  alike_seen kind (Ok x) (Ok y) e = e

  -- what looks at no code sees no difference in a truth
  blind : {A : Type 0} (f : Truth → A) → ((s t : Status) → f (Unknown s) ≡ f (Unknown t)) → (t : Truth) → f (seen t) ≡ f t
  blind f e True = refl
  blind f e False = refl
  blind f e (Unknown s) = e (see s) s

  -- a cause travels with its code
  because_seen : (t : Truth) → because (seen t) ≡ cause_seen (because t)
  because_seen True = refl
  because_seen False = refl
  because_seen (Unknown s) = refl

  or_else_seen : (c d : Cause) → or_else (cause_seen c) (cause_seen d) ≡ cause_seen (or_else c d)
  or_else_seen None d = refl
  or_else_seen (Some s) d = refl

  first_seen : {A : Type 0} (f : A → Cause) (k : A → A) → ((x : A) → f (k x) ≡ cause_seen (f x)) → (xs : List A) → first f (map k xs) ≡ cause_seen (first f xs)
  first_seen f k e [] = refl
  first_seen f k e (x ∷ xs) = ap₂ or_else (e x) (first_seen f k e xs) ∙ or_else_seen (f x) (first f xs)

  unless_seen : (c : Cause) (t : Truth) → unless (cause_seen c) (seen t) ≡ seen (unless c t)
  unless_seen None t = refl
  unless_seen (Some s) t = refl

  -- and, or and target look at codes only to hand on the first
  false_seen : (ts : List Truth) → some is_false (map seen ts) ≡ some is_false ts
  false_seen = some_same is_false seen (blind is_false (λ s t. refl))

  true_seen : (ts : List Truth) → some is_true (map seen ts) ≡ some is_true ts
  true_seen = some_same is_true seen (blind is_true (λ s t. refl))

  causes_seen : (ts : List Truth) → first because (map seen ts) ≡ cause_seen (first because ts)
  causes_seen = first_seen because seen because_seen

  and_seen : (ts : List Truth) → and_all (map seen ts) ≡ seen (and_all ts)
  unfolding and_all
  and_seen ts = rw (false_seen ts, causes_seen ts, unless_seen (first because ts) True) (if_of seen (some is_false ts) False (unless (first because ts) True))

  or_seen : (ts : List Truth) → or_all (map seen ts) ≡ seen (or_all ts)
  unfolding or_all
  or_seen ts = rw (true_seen ts, causes_seen ts, unless_seen (first because ts) False) (if_of seen (some is_true ts) True (unless (first because ts) False))

  target_seen : (ts : List Truth) → target_all (map seen ts) ≡ seen (target_all ts)
  unfolding target_all
  target_seen ts =
      rw (false_seen ts, causes_seen ts)
      (ap (unless (cause_seen (first because ts))) (if_of seen (some is_false ts) False True) ∙ unless_seen (first because ts) (if (some is_false ts) False True))

  not_seen : (t : Truth) → not_of (seen t) ≡ seen (not_of t)
  not_seen True = refl
  not_seen False = refl
  not_seen (Unknown s) = refl

  -- verdicts, and a child's whole verdict
  under_seen : (t : Truth) (v : Verdict) → under (seen t) (verdict_seen v) ≡ verdict_seen (under t v)
  under_seen True v = refl
  under_seen False v = refl
  under_seen (Unknown s) v = refl

  pub decision_seen : (v : Verdict) → decision_in (verdict_seen v) ≡ decision_in v
  decision_seen verdict.Permit = refl
  decision_seen verdict.Deny = refl
  decision_seen verdict.NotApplicable = refl
  decision_seen (verdict.Indeterminate s) = refl

  cause_in_seen : (v : Verdict) → cause_in (verdict_seen v) ≡ cause_seen (cause_in v)
  cause_in_seen verdict.Permit = refl
  cause_in_seen verdict.Deny = refl
  cause_in_seen verdict.NotApplicable = refl
  cause_in_seen (verdict.Indeterminate s) = refl

  coded_seen : (d : Decision) (k : Cause) → coded d (cause_seen k) ≡ verdict_seen (coded d k)
  coded_seen Permit k = refl
  coded_seen Deny k = refl
  coded_seen NotApplicable k = refl
  coded_seen Indeterminate (Some s) = refl
  coded_seen Indeterminate None = ap verdict.Indeterminate (sym keeps)

  verdict_in_seen : (c : Child) → verdict_in (child_seen c) ≡ verdict_seen (verdict_in c)
  verdict_in_seen c = under_seen c.target c.body

  said_seen : (c : Child) → said (child_seen c) ≡ said c
  said_seen c = ap decision_in (verdict_in_seen c) ∙ decision_seen (verdict_in c)

  -- combining asks children for decisions, effects and targets, and no code
  asked_seen : (f : Decision → Effect → Bool) (cs : List Child)
      → some (λ c. f (said c) c.effect) (map child_seen cs) ≡ some (λ c. f (said c) c.effect) cs
  asked_seen f = some_same (λ c. f (said c) c.effect) child_seen (λ c. ap (λ d. f d c.effect) (said_seen c))

  says_seen : (d : Decision) (cs : List Child) → some (says d) (map child_seen cs) ≡ some (says d) cs
  says_seen d = asked_seen (λ x e. is x d)

  fails_seen : (e : Effect) (cs : List Child) → some (fails e) (map child_seen cs) ≡ some (fails e) cs
  fails_seen e = asked_seen (λ x f. both (is x Indeterminate) (same f e))

  first_of_seen : (cs : List Child) → first_of (map child_seen cs) ≡ first_of cs
  first_of_seen [] = refl
  first_of_seen (c ∷ cs) = ap₂ (λ d rest. if (is d NotApplicable) rest d) (said_seen c) (first_of_seen cs)

  applying_seen : (cs : List Child) → applying (map child_seen cs) ≡ map child_seen (applying cs)
  applying_seen [] = refl
  applying_seen (c ∷ cs) = rw (applying_seen cs) (go c.target)
    where
      go : (t : Truth) → keep (seen t) (child_seen c) (map child_seen (applying cs)) ≡ map child_seen (keep t c (applying cs))
      go True = refl
      go False = refl
      go (Unknown s) = refl

  the_one_seen : (cs : List Child) → the_one (map child_seen cs) ≡ the_one cs
  the_one_seen [] = refl
  the_one_seen (c ∷ []) = decision_seen c.body
  the_one_seen (c ∷ d ∷ cs) = refl

  combine_seen : (a : Algorithm) (cs : List Child) → combine a (map child_seen cs) ≡ combine a cs
  unfolding combine
  combine_seen RulesDeny cs = rw (says_seen Deny cs, fails_seen Denies cs, says_seen Permit cs, says_seen Indeterminate cs) refl
  combine_seen RulesPermit cs = rw (says_seen Permit cs, fails_seen Permits cs, says_seen Deny cs, says_seen Indeterminate cs) refl
  combine_seen PoliciesDeny cs = rw (asked_seen (λ x e. either (is x Deny) (is x Indeterminate)) cs, says_seen Permit cs) refl
  combine_seen PoliciesPermit cs = rw (says_seen Permit cs, says_seen Deny cs, says_seen Indeterminate cs) refl
  combine_seen First cs = first_of_seen cs
  combine_seen OnlyOne cs =
      rw (some_same unsure child_seen (λ c. blind is_unknown (λ s t. refl) c.target) cs, applying_seen cs, the_one_seen (applying cs)) refl

  stops_seen : (a : Algorithm) (c : Child) → stops a (child_seen c) ≡ stops a c
  stops_seen RulesDeny c = rw (said_seen c) refl
  stops_seen RulesPermit c = rw (said_seen c) refl
  stops_seen PoliciesDeny c = rw (said_seen c) refl
  stops_seen PoliciesPermit c = rw (said_seen c) refl
  stops_seen First c = rw (said_seen c) refl
  stops_seen OnlyOne c = refl

  -- nor do obligations
  owed_seen : (c : Child) → owed (child_seen c).target c.duties ≡ owed c.target c.duties
  owed_seen c = blind (λ t. owed t c.duties) (λ s t. refl) c.target

  handed_seen : (a : Algorithm) (d : Decision) (cs : List Child) → handed a d (map child_seen cs) ≡ handed a d cs
  unfolding handed
  handed_seen a d [] = refl
  handed_seen a d (c ∷ cs) = rw (said_seen c, owed_seen c, stops_seen a c, handed_seen a d cs) refl

  -- the cause is that of the same child, or only-one's own
  abbrev in_body : Child → Cause
  in_body c = cause_in c.body

  abbrev in_all : Child → Cause
  in_all c = cause_in (verdict_in c)

  evaluated_seen : (a : Algorithm) (cs : List Child) → evaluated a (map child_seen cs) ≡ map child_seen (evaluated a cs)
  evaluated_seen a [] = refl
  evaluated_seen a (c ∷ cs) = rw (stops_seen a c, evaluated_seen a cs) (ap (◌∷◌ (child_seen c)) (if_of (map child_seen) (stops a c) [] (evaluated a cs)))

  met_seen : (one : Bool) (t : Truth) (later : Cause) → met one (seen t) (cause_seen later) ≡ cause_seen (met one t later)
  met_seen true True later = ap Some (sym keeps)
  met_seen false True later = refl
  met_seen one False later = refl
  met_seen one (Unknown s) later = refl

  walked_seen : (one : Bool) (cs : List Child) → walked one (map child_seen cs) ≡ cause_seen (walked one cs)
  walked_seen one [] = refl
  walked_seen one (c ∷ cs) =
      rw (blind is_true (λ s t. refl) c.target, walked_seen (either one (is_true c.target)) cs)
      (met_seen one c.target (walked (either one (is_true c.target)) cs))

  cause_of_seen : (a : Algorithm) (cs : List Child) → cause_of a (map child_seen cs) ≡ cause_seen (cause_of a cs)
  cause_of_seen a cs =
      rw (
        walked_seen false cs,
        applying_seen cs,
        evaluated_seen a cs,
        first_seen in_body child_seen (λ c. cause_in_seen c.body) (applying cs),
        first_seen in_all child_seen (λ c. ap cause_in (verdict_in_seen c) ∙ cause_in_seen (verdict_in c)) (evaluated a cs),
        or_else_seen (walked false cs) (first in_body (applying cs)),
      )
      (if_of cause_seen (is_only a) (or_else (walked false cs) (first in_body (applying cs))) (first in_all (evaluated a cs)))

  -- so a policy or set as seen is that of its children as seen
  node_seen : (a : Algorithm) (t : Truth) (cs : List Child) (os : List Obligation) → node_of a (seen t) (map child_seen cs) os ≡ child_seen (node_of a t cs os)
  unfolding node_of verdict_of
  node_seen a t cs os = rw (combine_seen a cs, handed_seen a (combine a cs) cs, cause_of_seen a cs, coded_seen (combine a cs) (cause_of a cs)) refl

  -- the first lost operand is the same one
  operated_seen : (o : Operator) (x y z w : Worth) → WorthSeen (kind_of o) x z → WorthSeen (kind_of o) y w → WorthSeen (kind_of o) (operated o x y) (operated o z w)
  operated_seen o (Err s) y (Err t) w p q = p
  operated_seen o (Err s) y (Ok z) w p q = absurd p
  operated_seen o (Ok x) y (Err t) w p q = absurd p
  operated_seen o (Ok x) (Err s) (Ok z) (Err t) p q = q
  operated_seen o (Ok x) (Err s) (Ok z) (Ok w) p q = absurd q
  operated_seen o (Ok x) (Ok y) (Ok z) (Err t) p q = absurd q
  operated_seen o (Ok x) (Ok y) (Ok z) (Ok w) p q =
      alike_seen (kind_of o) (operated o (Ok x) (Ok y)) (operated o (Ok z) (Ok w)) (equal_operands o (bytes_of x) (bytes_of y) (bytes_of z) (bytes_of w) p q)

  weighed_seen : (f : Function) (k : ℕ) (x y z w : Worth) → WorthSeen k x z → WorthSeen k y w → seen (weighed f k x y) ≡ seen (weighed f k z w)
  weighed_seen f k (Err s) y (Err t) w p q = ap Unknown p
  weighed_seen f k (Err s) y (Ok z) w p q = absurd p
  weighed_seen f k (Ok x) y (Err t) w p q = absurd p
  weighed_seen f k (Ok x) (Err s) (Ok z) (Err t) p q = ap Unknown q
  weighed_seen f k (Ok x) (Err s) (Ok z) (Ok w) p q = absurd q
  weighed_seen f k (Ok x) (Ok y) (Ok z) (Err t) p q = absurd q
  weighed_seen f k (Ok x) (Ok y) (Ok z) (Ok w) p q = ap (λ b. seen (truth_of b)) (equal_stand_alike f k (bytes_of x) (bytes_of y) (bytes_of z) (bytes_of w) p q)

  -- what a word of the meaning makes of what is the same as seen is the same as seen
  through : (f : List Truth → Truth) → ((ts : List Truth) → f (map seen ts) ≡ seen (f ts)) → (ts us : List Truth) → map seen ts ≡ map seen us → seen (f ts) ≡ seen (f us)
  through f e ts us p = sym (e ts) ∙ ap f p ∙ e us

  under_both : (t u : Truth) (v w : Verdict) → seen t ≡ seen u → verdict_seen v ≡ verdict_seen w → verdict_seen (under t v) ≡ verdict_seen (under u w)
  under_both t u v w p q = sym (under_seen t v) ∙ ap₂ under p q ∙ under_seen u w

  each_same : {A : Type 0} (f f' : A → Truth) → ((x : A) → seen (f x) ≡ seen (f' x)) → (xs : OneOrMore A) → map seen (each f xs) ≡ map seen (each f' xs)
  each_same f f' e (last x) = ap (λ (t : Truth). t ∷ []) (e x)
  each_same f f' e (more x xs) = ap₂ ◌∷◌ (e x) (each_same f f' e xs)

  -- of two bags in which each test and each attribute finds the same, as seen
  module _ (g h : Bags) (matched : (t : Test) → seen (match_of g t) ≡ seen (match_of h t)) (compared : (t : Test) → seen (comparison_of g t) ≡ seen (comparison_of h t))
      (worths : (key : ℕ) → WorthSeen (key_by key).type (the_only (g (key_by key))) (the_only (h (key_by key)))) where
    abbrev Alike : Expr → ℕ → Type 0
    Alike e k = WorthSeen k (worth g e) (worth h e)

    worth_alike : (e : Expr) → Typed e → Alike e (type_of e)
    unfolding worth Typed
    worth_alike (literal k n) t = equal_to_itself k (bytes_of (value_of k n))
    worth_alike (attribute key) t = worths key
    worth_alike (operate o a b) t =
        operated_seen o (worth g a) (worth g b) (worth h a) (worth h b)
        (subst (Alike a) t.0 (worth_alike a t.2))
        (subst (Alike b) t.1 (worth_alike b t.3))

    mutual
      unfolding condition_of TypedCondition

      condition : (c : Condition) → TypedCondition c → seen (condition_of g c) ≡ seen (condition_of h c)
      condition (compares t) k = compared t
      condition (weighs f a b) k =
          weighed_seen f (type_of a) (worth g a) (worth g b) (worth h a) (worth h b) (worth_alike a k.1) (subst (Alike b) (sym k.0) (worth_alike b k.2))
      condition (all cs) k = through and_all and_seen (conditions_of g cs) (conditions_of h cs) (conditions cs k)
      condition (any cs) k = through or_all or_seen (conditions_of g cs) (conditions_of h cs) (conditions cs k)
      condition (not c) k = sym (not_seen (condition_of g c)) ∙ ap not_of (condition c k) ∙ not_seen (condition_of h c)

      conditions : (cs : Conditions) → TypedConditions cs → map seen (conditions_of g cs) ≡ map seen (conditions_of h cs)
      conditions no_part k = refl
      conditions (part c cs) k = ap₂ ◌∷◌ (condition c k.0) (conditions cs k.1)

    conjunction : (c : Conjunction) → seen (conjunction_of g c) ≡ seen (conjunction_of h c)
    unfolding conjunction_of
    conjunction c = through and_all and_seen (each (match_of g) c) (each (match_of h) c) (each_same (match_of g) (match_of h) matched c)

    section : (s : Section) → seen (section_of g s) ≡ seen (section_of h s)
    unfolding section_of
    section s = through or_all or_seen (each (conjunction_of g) s) (each (conjunction_of h) s) (each_same (conjunction_of g) (conjunction_of h) conjunction s)

    sections : (t : Target) → map seen (sections_of g t) ≡ map seen (sections_of h t)
    unfolding sections_of
    sections [] = refl
    sections (s ∷ ss) = ap₂ ◌∷◌ (section s) (sections ss)

    target : (t : Target) → seen (target_of g t) ≡ seen (target_of h t)
    unfolding target_of
    target t = through target_all target_seen (sections_of g t) (sections_of h t) (sections t)

    when : (w : When) → TypedWhen w → seen (when_of g w) ≡ seen (when_of h w)
    unfolding when_of TypedWhen
    when always k = refl
    when (whenever c) k = condition c k

    rule : (r : Rule) → TypedWhen r.when → child_seen (rule_child g r) ≡ child_seen (rule_child h r)
    unfolding rule_child rule_of
    rule r k =
        ap (λ v. record { target = True; effect = r.effect; body = v; duties = [] })
        (under_both (target_of g r.target) (target_of h r.target) _ _ (target r.target) (under_both (when_of g r.when) (when_of h r.when) _ _ (when r.when k) refl))

    rules : (rs : List Rule) → TypedRules rs → map child_seen (rule_children g rs) ≡ map child_seen (rule_children h rs)
    unfolding rule_children TypedRules
    rules [] k = refl
    rules (r ∷ rs) k = ap₂ ◌∷◌ (rule r k.0) (rules rs k.1)

    node : (a : Algorithm) (t : Target) (cs ds : List Child) (os : List Obligation) → map child_seen cs ≡ map child_seen ds
        → child_seen (node_of a (target_of g t) cs os) ≡ child_seen (node_of a (target_of h t) ds os)
    node a t cs ds os e = sym (node_seen a (target_of g t) cs os) ∙ ap₂ (λ x xs. node_of a x xs os) (target t) e ∙ node_seen a (target_of h t) ds os

    mutual
      unfolding child_of TypedTree

      child : (n : Tree) → TypedTree n → child_seen (child_of g n) ≡ child_seen (child_of h n)
      child (policy a t rs os) k = node (over_rules a) t (rule_children g rs) (rule_children h rs) os (rules rs k)
      child (set a t ns os) k = node (over_policies a) t (children_of g ns) (children_of h ns) os (children ns k)

      children : (ns : Trees) → TypedTrees ns → map child_seen (children_of g ns) ≡ map child_seen (children_of h ns)
      children no_tree k = refl
      children (tree n ns) k = ap₂ ◌∷◌ (child n k.0) (children ns k.1)

    pub same_seen : (n : Tree) → TypedTree n → (verdict_seen (decides g n) ≡ verdict_seen (decides h n)) × (obliges g n ≡ obliges h n)
    unfolding decides obliges
    same_seen n k =
        let e = child n k in (
          sym (verdict_in_seen (child_of g n)) ∙ ap verdict_in e ∙ verdict_in_seen (child_of h n),
          sym (owed_seen (child_of g n)) ∙ ap (λ (c : Child). owed c.target c.duties) e ∙ owed_seen (child_of h n),
        )
