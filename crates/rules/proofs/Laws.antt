-- How the parts of a target, of a condition and of a policy begin, and what follows from the first of them. Assumes nothing.
use Rattle.std.specs.Prelude.{None}
use mathlib.Core.Path.{◌≡◌, refl, sym, ap, ◌∙◌}
use mathlib.Core.Bool.{Bool, true, false}
use mathlib.Core.List.{List, [], ◌∷◌}
use Prim.Native.Nat.{ℕ, ◌+◌, ◌-◌, ◌≤◌, ◌<◌}
use Rattle.meaning.specs.Cause.{Cause}
use native.Mathlib.Omega.{arith}
use borrow.Author.Tests.{ne_eqb, eqb-true, eqb-false, lt-ltb, le-ltb}
use lib.Dec.{eqb}
use Rattle.record.specs.Choose.{if}
use Rattle.rules.specs.Parts.{truths}
use Rattle.record.specs.Bytes.{byte_of}
use Rattle.record.specs.Forest.{Forest, none, node, span_in, forest}
use Rattle.record.proofs.Forests.{span_pos, span_le, forest_none, forest_step}
use Rattle.value.specs.Value.{function_of}
use Rattle.sums.specs.declared.Status.{Status}
use Rattle.meaning.specs.Logic.{or_else, and_all, or_all, target_all, not_of}
use Rattle.meaning.specs.Policy.{compares, weighs, OverRules, rulesDeny, rulesPermit, rulesFirst}
use Rattle.meaning.specs.Meaning.{Bags, match_of, comparison_of, condition_of, conditions_of, each, conjunction_of, section_of, sections_of, target_of, under, effected, coded, decision_in, cause_in, when_of, rule_of, is_only, verdict_of, over_rules, rule_child, rule_children}
use Rattle.meaning.specs.Reading.{choice_at, match_at, comparison_at, row_of, children_at, conjunction_at, section_at, target_in, exprs_in, weighs_at, condition_at, condition_from, conditions_in, when_in, effect_of, rule_at, rules_in}
use Rattle.meaning.specs.declared.Truth.{Truth}
use Rattle.meaning.specs.declared.Truth.TheVariants.{True, False, Unknown}
use Rattle.meaning.specs.declared.Effect.{Effect}
use Rattle.meaning.specs.declared.Decision.{Decision}
use Rattle.meaning.specs.declared.Verdict.{Verdict}
use Rattle.meaning.specs.declared.Verdict.TheVariants.{NotApplicable, Indeterminate}
use Rattle.meaning.specs.declared.Algorithm.{Algorithm}
use Rattle.weigh.specs.Two.{second_in}
use Rattle.weigh.proofs.Laws.{few}
use Rattle.algorithm.specs.Fold.{start, fold_result, settled, absorb}
use Rattle.algorithm.specs.Tally.{verdict_so_far}
use Rattle.algorithm.specs.declared.Acc.{Acc}
use Rattle.algorithm.specs.declared.tally.Tally.{Tally}
use Rattle.algorithm.proofs.Causes.{tallies, walks, verdict_right, walks_more}

each_row : {A : Type 0} (f : A → Truth) (read : ℕ → Forest → A) (i : ℕ) (kids rest : Forest)
    → each f (row_of read i kids rest) ≡ f (read i kids) ∷ truths (λ j below. f (read j below)) rest
unfolding row_of truths
each_row f read i kids none = refl
each_row f read i kids (node j below rest) = ap (λ (ts : List Truth). f (read i kids) ∷ ts) (each_row f read j below rest)

-- the children of record i, from `a` on; without one it stands for its own child
each_child : {A : Type 0} (f : A → Truth) (read : ℕ → Forest → A) (b : List ℕ) (i s : ℕ) {a : ℕ} → 0 < s → a ≡ if (eqb s 1) i (i + 1)
    → truths (λ j below. f (read j below)) (forest b a (i + s - a)) ≡ each f (children_at read i (forest b (i + 1) (s - 1)))
unfolding children_at truths
each_child f read b i s {a} h e = go (eqb s 1) refl
  where
    go : (t : Bool) → eqb s 1 ≡ t → truths (λ j below. f (read j below)) (forest b a (i + s - a)) ≡ each f (children_at read i (forest b (i + 1) (s - 1)))
    go true z =
        let one : s ≡ 1 = eqb-true s 1 z in
        let at : a ≡ i = rw z at e in
        let left : i + s - a ≡ 1 = omega arith in
        let span : span_in b i 1 ≡ 1 = omega (arith, span_pos b i 1 (omega arith), span_le b i 1) in
        rw (left, at, one, forest_step b i 1 (omega arith), span, forest_none b (i + 1) 0 (omega arith))
    go false z =
        let many : s ≡ 1 → ⊥ = eqb-false s 1 z in
        let at : a ≡ i + 1 = rw z at e in
        let left : i + s - a ≡ s - 1 = omega arith in
        rw (left, at, forest_step b (i + 1) (s - 1) (omega arith)) (sym (each_row f read (i + 1) _ _))

-- a conjunction, a section: all their children
module _ (b : List ℕ) (g : Bags) (i s : ℕ) {a : ℕ} (h : 0 < s) (e : a ≡ if (eqb s 1) i (i + 1)) where
  pub conjunction_all : and_all (truths (λ j below. match_of g (match_at b j)) (forest b a (i + s - a))) ≡ conjunction_of g (conjunction_at b i (forest b (i + 1) (s - 1)))
  unfolding conjunction_of conjunction_at
  conjunction_all = ap and_all (each_child (match_of g) (λ (j : ℕ) (below : Forest). match_at b j) b i s h e)

  pub section_all : or_all (truths (λ j below. conjunction_of g (conjunction_at b j below)) (forest b a (i + s - a))) ≡ section_of g (section_at b i (forest b (i + 1) (s - 1)))
  unfolding section_of section_at
  section_all = ap or_all (each_child (conjunction_of g) (conjunction_at b) b i s h e)

-- no records are left
module _ {f : Forest} (e : f ≡ none) where
  pub truths_none : (says : ℕ → Forest → Truth) → truths says f ≡ []
  unfolding truths
  truths_none says = rw e

  pub sections_none : (b : List ℕ) (g : Bags) → sections_of g (target_in b f) ≡ []
  unfolding sections_of target_in
  sections_none b g = rw e

  pub conditions_none : (b : List ℕ) (g : Bags) → conditions_of g (conditions_in b f) ≡ []
  unfolding conditions_of conditions_in
  conditions_none b g = rw e

  pub when_none : (b : List ℕ) (g : Bags) {w : Truth} → when_of g (when_in b f) ≡ w → True ≡ w
  unfolding when_of when_in
  when_none b g p = rw e at p

-- record i is next, with `kids` below it
pub truths_more : (says : ℕ → Forest → Truth) {i : ℕ} {f kids rest : Forest} {t : Truth} → f ≡ node i kids rest → t ≡ says i kids → truths says f ≡ t ∷ truths says rest
unfolding truths
truths_more says e et = rw (e, et)

module _ (b : List ℕ) {i : ℕ} {f kids rest : Forest} (e : f ≡ node i kids rest) (g : Bags) where
  pub conditions_more : {t : Truth} → t ≡ condition_of g (condition_from b i kids) → conditions_of g (conditions_in b f) ≡ t ∷ conditions_of g (conditions_in b rest)
  unfolding conditions_of conditions_in
  conditions_more et = rw (e, et)

  -- with its kind
  module _ {k : ℕ} (ek : k ≡ byte_of b i 0) where
    pub sections_more : {t : Truth} → k ≡ 4 → t ≡ section_of g (section_at b i kids) → sections_of g (target_in b f) ≡ t ∷ sections_of g (target_in b rest)
    unfolding sections_of target_in
    sections_more q et = rw (e, ← ek, q, et)

    pub sections_over : (k ≡ 4 → ⊥) → sections_of g (target_in b f) ≡ []
    unfolding sections_of target_in
    sections_over q = rw (e, ← ek, ne_eqb k 4 q)

    pub when_here : {t w : Truth} → k ≡ 7 → t ≡ condition_of g (condition_from b i kids) → when_of g (when_in b f) ≡ w → t ≡ w
    unfolding when_of when_in
    when_here q et p = rw (e, ← ek, q, ← et) at p

    pub when_later : {w : Truth} → (k ≡ 7 → ⊥) → when_of g (when_in b f) ≡ w → when_of g (when_in b rest) ≡ w
    unfolding when_in
    when_later q p = rw (e, ← ek, ne_eqb k 7 q) at p

-- no section comes first
pub no_sections : (b : List ℕ) (g : Bags) (f : Forest) → sections_of g (target_in b f) ≡ [] → True ≡ target_of g (target_in b f)
unfolding target_of target_all
no_sections b g f e = rw e

-- a condition by its choice
module _ (b : List ℕ) (g : Bags) (i s : ℕ) {k : ℕ} (e : k ≡ byte_of b i 1) where
  pub is_joined : (k ≡ 0 → ⊥) → k ≤ 3 → (k ≡ 3 → ⊥)
      → (let ts = conditions_of g (conditions_in b (forest b (i + 1) (s - 1))) in if (eqb k 1) (and_all ts) (or_all ts)) ≡ condition_of g (condition_from b i (forest b (i + 1) (s - 1)))
  unfolding condition_of condition_at
  is_joined z h r = on (eqb k 1) refl
    where
      ts : List Truth
      ts = conditions_of g (conditions_in b (forest b (i + 1) (s - 1)))

      on : (t : Bool) → eqb k 1 ≡ t → if t (and_all ts) (or_all ts) ≡ condition_of g (condition_from b i (forest b (i + 1) (s - 1)))
      on true q = let p : byte_of b i 1 ≡ 1 = sym e ∙ eqb-true k 1 q in rw p
      on false q = let p : byte_of b i 1 ≡ 2 = omega (arith, e, eqb-false k 1 q) in rw p

  pub is_comparison : {t : Truth} → (k ≡ 1 → ⊥) → (k ≡ 2 → ⊥) → (k ≡ 3 → ⊥) → k ≤ 20 → t ≡ comparison_of g (comparison_at b i)
      → t ≡ condition_of g (condition_from b i (forest b (i + 1) (s - 1)))
  unfolding condition_of condition_at
  is_comparison p q r l et = rw (← e, ne_eqb k 1 p, ne_eqb k 2 q, ne_eqb k 3 r, le-ltb 20 k l) et

  -- of two values, where record i ends at i + s
  is_weighing_lem : 20 < k → condition_from b i (forest b (i + 1) (s - 1)) ≡ weighs_at b i (exprs_in b (forest b (i + 1) (i + s - i - 1)))
  unfolding condition_at
  is_weighing_lem h =
      let z : i + s - i - 1 ≡ s - 1 = omega arith in
      rw (z, ← e, ne_eqb k 1 (λ w. omega (arith, h, w)), ne_eqb k 2 (λ w. omega (arith, h, w)), ne_eqb k 3 (λ w. omega (arith, h, w)), lt-ltb 20 k h) refl

  pub weighs_few : {second : ℕ} {t : Truth} → 20 < k → 0 < s → second ≡ second_in b i (i + s) → second ≡ i + s → t ≡ comparison_of g (comparison_at b i)
      → t ≡ condition_of g (condition_from b i (forest b (i + 1) (s - 1)))
  unfolding condition_of
  weighs_few h p d z et = rw (is_weighing_lem h, few b i (i + s) (omega arith) (weighs (function_of (choice_at b i - 20))) (compares (comparison_at b i)) (sym d ∙ z)) et

  pub weighs_two : {t : Truth} → 20 < k → t ≡ condition_of g (weighs_at b i (exprs_in b (forest b (i + 1) (i + s - i - 1))))
      → t ≡ condition_of g (condition_from b i (forest b (i + 1) (s - 1)))
  weighs_two h et = rw (is_weighing_lem h) et

  pub not_none : {t : Truth} → k ≡ 3 → forest b (i + 1) (s - 1) ≡ none → t ≡ comparison_of g (comparison_at b i)
      → t ≡ condition_of g (condition_from b i (forest b (i + 1) (s - 1)))
  unfolding condition_of condition_at conditions_in
  not_none q f et = rw (f, ← e, q) et

  pub not_more : {at : ℕ} {kids rest : Forest} {t u : Truth} → k ≡ 3 → forest b (i + 1) (s - 1) ≡ node at kids rest
      → t ≡ condition_of g (condition_from b at kids) → u ≡ not_of t → u ≡ condition_of g (condition_from b i (forest b (i + 1) (s - 1)))
  unfolding condition_of condition_at conditions_in
  not_more q f et eu = rw (f, ← e, q, ← et) eu

-- a rule by its target
module _ (b : List ℕ) (g : Bags) (i : ℕ) (kids : Forest) {x : Truth} (e : x ≡ target_of g (target_in b kids)) where
  pub rule_no : x ≡ False → NotApplicable ≡ rule_of g (rule_at b i kids)
  unfolding rule_of rule_at
  rule_no q = rw (← e, q)

  pub rule_lost : {why : Status} → x ≡ Unknown why → Indeterminate why ≡ rule_of g (rule_at b i kids)
  unfolding rule_of rule_at
  rule_lost q = rw (← e, q)

  pub rule_yes : {c : ℕ} {f : Effect} {t : Truth} {o v : Verdict} → x ≡ True → c ≡ byte_of b i 1 → f ≡ effect_of c → t ≡ when_of g (when_in b kids)
      → o ≡ effected f → v ≡ under t o → v ≡ rule_of g (rule_at b i kids)
  unfolding rule_of rule_at
  rule_yes q ec ef et eo ev = rw (← e, q, ← ec, ← ef, ← et, ← eo) ev

-- what an algorithm over rules that keeps acc and cause so far is still to say of the rules in a forest
unfoldable pub ruled : List ℕ → Bags → Algorithm → Acc → Cause → Forest → Verdict
ruled b g a acc cause rest = verdict_so_far a (walks a (record { acc = acc; cause = cause }) (rule_children g (rules_in b rest)))

pub rules_all : (b : List ℕ) (g : Bags) (f : Forest) (a : Algorithm) {acc : Acc} (r : OverRules) → a ≡ over_rules r → acc ≡ start a
    → ruled b g a acc None f ≡ verdict_of (over_rules r) (rule_children g (rules_in b f))
unfolding ruled
rules_all b g f a r er e = rw (e, ← er) (verdict_right a (rule_children g (rules_in b f)))

pub rules_end : (b : List ℕ) (g : Bags) {rest : Forest} (a : Algorithm) (acc : Acc) (cause : Cause) {d : Decision} {v w : Verdict} → rest ≡ none
    → d ≡ fold_result a acc → v ≡ coded d cause → ruled b g a acc cause rest ≡ w → v ≡ w
unfolding ruled walks rule_children rules_in
rules_end b g a acc cause e ed ev p = rw (ev, ed) (rw e at p)

-- over rules no algorithm is only-one-applicable, so a rule is taken in by its verdict, and the first cause counts
pub not_only : (a : Algorithm) (r : OverRules) → a ≡ over_rules r → is_only a ≡ false
not_only a r e = rw e (each_is r)
  where
    each_is : (r : OverRules) → is_only (over_rules r) ≡ false
    each_is rulesDeny = refl
    each_is rulesPermit = refl
    each_is rulesFirst = refl

takes_rule : (b : List ℕ) (g : Bags) (i : ℕ) (kids : Forest) (a : Algorithm) (acc : Acc) (cause : Cause) {c : ℕ} {f : Effect} {v : Verdict} {d : Decision} {now : Cause}
    {next : Tally} → is_only a ≡ false → c ≡ byte_of b i 1 → f ≡ effect_of c → v ≡ rule_of g (rule_at b i kids) → d ≡ decision_in v → now ≡ cause_in v
    → next.acc ≡ absorb a acc f d → next.cause ≡ or_else cause now → tallies a (record { acc = acc; cause = cause }) (rule_child g (rule_at b i kids)) ≡ next
unfolding rule_child rule_at
takes_rule b g i kids a acc cause o ec ef ev ed en ea ey = rw (o, ea, ey, ed, en, ev, ef, ec)

module _ (b : List ℕ) (g : Bags) {i : ℕ} {all kids rest : Forest} (a : Algorithm) (acc : Acc) (cause : Cause) {kind : ℕ} {w : Verdict}
    (e : all ≡ node i kids rest) (ek : kind ≡ byte_of b i 0) (p : ruled b g a acc cause all ≡ w) where
  pub rules_skip : (kind ≡ 3 → ⊥) → ruled b g a acc cause rest ≡ w
  unfolding ruled rules_in
  rules_skip q = rw (e, ← ek, ne_eqb kind 3 q) at p

  module _ {c : ℕ} {f : Effect} {v : Verdict} {d : Decision} {now : Cause} {x : Acc} {y : Cause} {t : Bool} (q : kind ≡ 3) (o : is_only a ≡ false) (ec : c ≡ byte_of b i 1)
      (ef : f ≡ effect_of c) (ev : v ≡ rule_of g (rule_at b i kids)) (ed : d ≡ decision_in v) (ex : x ≡ absorb a acc f d) (en : now ≡ cause_in v)
      (ey : y ≡ or_else cause now) (et : t ≡ settled a x) where
    next : Tally
    next = record { acc = x; cause = y }

    more : verdict_so_far a (if t next (walks a next (rule_children g (rules_in b rest)))) ≡ w
    unfolding ruled rules_in rule_children next
    more =
        rw et
        (rw (e, ← ek, q, walks_more a (record { acc = acc; cause = cause }) _ _ (takes_rule b g i kids a acc cause o ec ef ev ed en ex ey)) at p)

    pub rules_stop : {k : Decision} {r : Verdict} → t ≡ true → k ≡ fold_result a x → r ≡ coded k y → r ≡ w
    unfolding next
    rules_stop z ek er = rw (er, ek) (rw z at more)

    pub rules_turn : t ≡ false → ruled b g a x y rest ≡ w
    unfolding ruled next
    rules_turn z = rw z at more
