-- What stays of the obligations while an algorithm goes over its children is what document 01 hands up: a decision that was left does not come
-- back. Assumes nothing.
use mathlib.Core.Path.{◌≡◌, refl, sym, ap, ◌∙◌}
use mathlib.Core.Bool.{Bool, true, false, not}
use mathlib.Core.List.{List, [], ◌∷◌, ◌++◌, append-nil, append_assoc}
use Prim.Native.Nat.{ℕ}
use lib.Dec.{ltb}
use Rattle.record.specs.Choose.{if, both}
use Rattle.record.proofs.Choose.{both_parts}
use Rattle.meaning.specs.Meaning.{decision_of, Child, said, owed, is, is_only, combine, hands, handed, binding}
use Rattle.meaning.specs.declared.Effect.{Effect}
use Rattle.meaning.specs.declared.Effect.TheVariants.{Permits, Denies}
use Rattle.meaning.specs.declared.Decision.{Decision}
use Rattle.meaning.specs.declared.Decision.TheVariants.{Permit, Deny, NotApplicable, Indeterminate}
use Rattle.meaning.specs.declared.Algorithm.{Algorithm}
use Rattle.meaning.specs.declared.Algorithm.TheVariants.{RulesDeny, RulesPermit, First, PoliciesDeny, PoliciesPermit, OnlyOne}
use Rattle.algorithm.specs.Fold.{start, join, rank_of, fold_result, settled, absorb}
use Rattle.algorithm.specs.declared.Rank.{Rank}
use Rattle.algorithm.specs.declared.Rank.TheVariants.{R0, R1, R2, R3, R4}
use Rattle.algorithm.specs.declared.Acc.{Acc}
use Rattle.algorithm.specs.declared.Acc.TheVariants.{Ranked}
use Rattle.algorithm.proofs.Walk.{takes_on, gives_on, walk, gave, result_right, gave_right}
use Rattle.decider.specs.Inside.{keeps, up_of}

-- what stays of xs, which came with b, and of ys, which came with d, where v is decided
abbrev pub stay : Decision → List ℕ → Decision → List ℕ → Decision → List ℕ
stay b xs d ys v = if (keeps b v) xs [] ++ if (keeps d v) ys []

-- ranks: a decision is ahead of a rank where its own rank was not reached yet
height : Rank → ℕ
height R0 = 0
height R1 = 1
height R2 = 2
height R3 = 3
height R4 = 4

ahead : Algorithm → Rank → Decision → Bool
ahead a r v = ltb (height r) (height (rank_of a Permits v))

abbrev implies : Bool → Bool → Bool
implies true q = q
implies false q = true

-- one child more, which said d: a decision still ahead was ahead, and is not d
leaves : Algorithm → Rank → Effect → Decision → Decision → Bool
leaves a r e d v = implies (ahead a (join r (rank_of a e d)) v) (both (ahead a r v) (not (is d v)))

-- and one that is reached was ahead, unless it was reached before
reaches : Algorithm → Rank → Effect → Decision → Decision → Bool
reaches a r e d v = implies (is (fold_result a (Ranked (join r (rank_of a e d)))) v) (implies (not (is (fold_result a (Ranked r)) v)) (ahead a r v))

climbs : Algorithm → Rank → Effect → Decision → Effect → Bool
climbs a r e d x = both (leaves a r e d (decision_of x)) (reaches a r e d (decision_of x))

every_rank : (Rank → Bool) → Bool
every_rank f = both (f R0) (both (f R1) (both (f R2) (both (f R3) (f R4))))

every_decision : (Decision → Bool) → Bool
every_decision f = both (f Permit) (both (f Deny) (both (f NotApplicable) (f Indeterminate)))

every_effect : (Effect → Bool) → Bool
every_effect f = both (f Permits) (f Denies)

four_are : (p q r s : Bool) → both p (both q (both r s)) ≡ true → (p ≡ true) × (q ≡ true) × (r ≡ true) × (s ≡ true)
four_are p q r s e =
    let x = both_parts p (both q (both r s)) e in
    let y = both_parts q (both r s) x.1 in
    let z = both_parts r s y.1 in
    (x.0, y.0, z.0, z.1)

at_rank : (f : Rank → Bool) → every_rank f ≡ true → (r : Rank) → f r ≡ true
unfolding every_rank
at_rank f e R0 = (both_parts (f R0) _ e).0
at_rank f e R1 = (four_are (f R1) (f R2) (f R3) (f R4) (both_parts (f R0) (both (f R1) (both (f R2) (both (f R3) (f R4)))) e).1).0
at_rank f e R2 = (four_are (f R1) (f R2) (f R3) (f R4) (both_parts (f R0) (both (f R1) (both (f R2) (both (f R3) (f R4)))) e).1).1
at_rank f e R3 = (four_are (f R1) (f R2) (f R3) (f R4) (both_parts (f R0) (both (f R1) (both (f R2) (both (f R3) (f R4)))) e).1).2
at_rank f e R4 = (four_are (f R1) (f R2) (f R3) (f R4) (both_parts (f R0) (both (f R1) (both (f R2) (both (f R3) (f R4)))) e).1).3

at_decision : (f : Decision → Bool) → every_decision f ≡ true → (d : Decision) → f d ≡ true
unfolding every_decision
at_decision f e Permit = (four_are (f Permit) (f Deny) (f NotApplicable) (f Indeterminate) e).0
at_decision f e Deny = (four_are (f Permit) (f Deny) (f NotApplicable) (f Indeterminate) e).1
at_decision f e NotApplicable = (four_are (f Permit) (f Deny) (f NotApplicable) (f Indeterminate) e).2
at_decision f e Indeterminate = (four_are (f Permit) (f Deny) (f NotApplicable) (f Indeterminate) e).3

at_effect : (f : Effect → Bool) → every_effect f ≡ true → (x : Effect) → f x ≡ true
unfolding every_effect
at_effect f e Permits = (both_parts (f Permits) (f Denies) e).0
at_effect f e Denies = (both_parts (f Permits) (f Denies) e).1

-- of every algorithm but only-one
climbs_table : (a : Algorithm) → is_only a ≡ false
    → every_rank (λ r. every_effect (λ e. every_decision (λ d. every_effect (λ x. climbs a r e d x)))) ≡ true
unfolding every_rank every_effect every_decision climbs leaves reaches ahead height
climbs_table RulesDeny h = refl
climbs_table RulesPermit h = refl
climbs_table First h = refl
climbs_table PoliciesDeny h = refl
climbs_table PoliciesPermit h = refl
climbs_table OnlyOne h = cc

module _ (a : Algorithm) (plain : is_only a ≡ false) where
  one_more : (r : Rank) (e : Effect) (d : Decision) (x : Effect) → climbs a r e d x ≡ true
  one_more r e d x =
      at_effect (λ x. climbs a r e d x)
      (at_decision (λ d. every_effect (λ x. climbs a r e d x))
      (at_effect (λ e. every_decision (λ d. every_effect (λ x. climbs a r e d x)))
      (at_rank (λ r. every_effect (λ e. every_decision (λ d. every_effect (λ x. climbs a r e d x)))) (climbs_table a plain) r) e) d) x

  still_ahead : (r : Rank) (e : Effect) (d : Decision) (x : Effect) → ahead a (join r (rank_of a e d)) (decision_of x) ≡ true
      → (ahead a r (decision_of x) ≡ true) × (is d (decision_of x) ≡ false)
  unfolding climbs leaves
  still_ahead r e d x h =
      go (ahead a (join r (rank_of a e d)) (decision_of x)) (ahead a r (decision_of x)) (is d (decision_of x))
      (both_parts (leaves a r e d (decision_of x)) (reaches a r e d (decision_of x)) (one_more r e d x)).0 h
    where
      go : (p q i : Bool) → implies p (both q (not i)) ≡ true → p ≡ true → (q ≡ true) × (i ≡ false)
      go true true true e h = (refl, cc)
      go true true false e h = (refl, refl)
      go true false i e h = (cc, cc)
      go false q i e h = (cc, cc)

  was_ahead : (r : Rank) (e : Effect) (d : Decision) (x : Effect) → fold_result a (Ranked (join r (rank_of a e d))) ≡ decision_of x
      → is (fold_result a (Ranked r)) (decision_of x) ≡ false → ahead a r (decision_of x) ≡ true
  unfolding climbs reaches
  was_ahead r e d x h n =
      go (is (fold_result a (Ranked (join r (rank_of a e d)))) (decision_of x)) (is (fold_result a (Ranked r)) (decision_of x)) (ahead a r (decision_of x))
      (both_parts (leaves a r e d (decision_of x)) (reaches a r e d (decision_of x)) (one_more r e d x)).1 (ap (λ z. is z (decision_of x)) h ∙ self x) n
    where
      self : (x : Effect) → is (decision_of x) (decision_of x) ≡ true
      self Permits = refl
      self Denies = refl

      go : (p q i : Bool) → implies p (implies (not q) i) ≡ true → p ≡ true → q ≡ false → i ≡ true
      go true true i e h n = cc
      go true false i e h n = e
      go false q i e h n = cc

-- what was handed up so far, for each decision; what of it stands; and what is still to come
pub record Standing (a : Algorithm) (cs : List Child) (acc : Acc) (rest : List Child) (xs : List ℕ) : Type 0 where
  rank : Rank
  ranked : acc ≡ Ranked rank
  up : Decision → List ℕ
  stands : xs ≡ binding (fold_result a acc) (up (fold_result a acc))
  late : (x : Effect) → ahead a rank (decision_of x) ≡ true → up (decision_of x) ≡ []
  says : fold_result a (walk a acc rest) ≡ combine a cs
  gives : (d : Decision) → up d ++ gave a d acc rest ≡ gave a d (start a) cs

pub bind_none : (d : Decision) → [] ≡ binding d []
bind_none Permit = refl
bind_none Deny = refl
bind_none NotApplicable = refl
bind_none Indeterminate = refl

from_bottom : (a : Algorithm) → is_only a ≡ false → start a ≡ Ranked R0
from_bottom RulesDeny h = refl
from_bottom RulesPermit h = refl
from_bottom First h = refl
from_bottom PoliciesDeny h = refl
from_bottom PoliciesPermit h = refl
from_bottom OnlyOne h = cc

-- what came with b stands for the decision of x, unless there was nothing for that
keeps_old : (b : Decision) (x : Effect) (up : Decision → List ℕ) (xs : List ℕ) → xs ≡ binding b (up b)
    → (is b (decision_of x) ≡ false → up (decision_of x) ≡ []) → if (is b (decision_of x)) xs [] ≡ up (decision_of x)
keeps_old Permit Permits up xs e h = e
keeps_old Permit Denies up xs e h = sym (h refl)
keeps_old Deny Permits up xs e h = sym (h refl)
keeps_old Deny Denies up xs e h = e
keeps_old NotApplicable Permits up xs e h = sym (h refl)
keeps_old NotApplicable Denies up xs e h = sym (h refl)
keeps_old Indeterminate Permits up xs e h = sym (h refl)
keeps_old Indeterminate Denies up xs e h = sym (h refl)

stands_more : (b d v : Decision) (up : Decision → List ℕ) (xs ys : List ℕ) → xs ≡ binding b (up b)
    → ((x : Effect) → v ≡ decision_of x → is b (decision_of x) ≡ false → up (decision_of x) ≡ [])
    → stay b xs d ys v ≡ binding v (up v ++ if (is d v) ys [])
stands_more b d Permit up xs ys e h = ap (λ z. z ++ if (is d Permit) ys []) (keeps_old b Permits up xs e (h Permits refl))
stands_more b d Deny up xs ys e h = ap (λ z. z ++ if (is d Deny) ys []) (keeps_old b Denies up xs e (h Denies refl))
stands_more b d NotApplicable up xs ys e h = refl
stands_more b d Indeterminate up xs ys e h = refl

module _ (a : Algorithm) (plain : is_only a ≡ false) where
  pub stand_start : (cs : List Child) → Standing a cs (start a) cs []
  stand_start cs = record {
    rank = R0;
    ranked = from_bottom a plain;
    up = λ d. [];
    stands = bind_none (fold_result a (start a));
    late = λ x e. refl;
    says = result_right a cs;
    gives = λ d. refl;
  }

  pub stand_end : {cs : List Child} {acc : Acc} {xs : List ℕ} → Standing a cs acc [] xs → xs ≡ up_of a cs
  unfolding walk gave up_of
  stand_end {cs} {acc} {xs} w = w.stands ∙ (rw w.says (go (combine a cs) refl))
    where
      all : (x : Effect) → combine a cs ≡ decision_of x → w.up (decision_of x) ≡ handed a (decision_of x) cs
      all x e = sym (append-nil (w.up (decision_of x))) ∙ w.gives (decision_of x) ∙ gave_right a x cs e

      go : (d : Decision) → combine a cs ≡ d → binding d (w.up d) ≡ binding d (handed a d cs)
      go Permit e = all Permits e
      go Deny e = all Denies e
      go NotApplicable e = refl
      go Indeterminate e = refl

  walk_more : (acc : Acc) (c : Child) (rest : List Child)
      → walk a (absorb a acc c.effect (said c)) (if (settled a (absorb a acc c.effect (said c))) [] rest) ≡ walk a acc (c ∷ rest)
  unfolding walk
  walk_more acc c rest =
      go (absorb a acc c.effect (said c)) (settled a (absorb a acc c.effect (said c)))
      ∙ ap (λ z. if (settled a (takes_on z c.target acc a c)) (takes_on z c.target acc a c) (walk a (takes_on z c.target acc a c) rest)) (sym plain)
    where
      go : (n : Acc) (s : Bool) → walk a n (if s [] rest) ≡ if s n (walk a n rest)
      go n true = refl
      go n false = refl

  gave_more : (d : Decision) (acc : Acc) (c : Child) (rest : List Child)
      → hands d c ++ gave a d (absorb a acc c.effect (said c)) (if (settled a (absorb a acc c.effect (said c))) [] rest) ≡ gave a d acc (c ∷ rest)
  unfolding gave
  gave_more d acc c rest =
      ap (λ z. hands d c ++ z) (go (absorb a acc c.effect (said c)) (settled a (absorb a acc c.effect (said c))))
      ∙ ap (λ z. gives_on z acc d c ++ if (settled a (takes_on z c.target acc a c)) [] (gave a d (takes_on z c.target acc a c) rest)) (sym plain)
    where
      go : (n : Acc) (s : Bool) → gave a d n (if s [] rest) ≡ if s [] (gave a d n rest)
      go n true = refl
      go n false = refl

  -- one child more; where the algorithm is settled nothing comes after it
  pub stand_turn : {cs : List Child} {acc : Acc} {c : Child} {rest : List Child} {xs : List ℕ} → Standing a cs acc (c ∷ rest) xs
      → Standing a cs (absorb a acc c.effect (said c)) (if (settled a (absorb a acc c.effect (said c))) [] rest)
      (stay (fold_result a acc) xs (said c) (owed c.target c.duties) (fold_result a (absorb a acc c.effect (said c))))
  stand_turn {cs} {acc} {c} {rest} {xs} w = record {
    rank = join w.rank (rank_of a c.effect (said c));
    ranked = ap (λ z. absorb a z c.effect (said c)) w.ranked;
    up = λ d. w.up d ++ hands d c;
    stands = stands_more (fold_result a acc) (said c) (fold_result a (absorb a acc c.effect (said c))) w.up xs (owed c.target c.duties) w.stands before;
    late = λ x h. after x (still_ahead a plain w.rank c.effect (said c) x h);
    says = ap (fold_result a) (walk_more acc c rest) ∙ w.says;
    gives = λ d. append_assoc (w.up d) (hands d c) _ ∙ ap (λ z. w.up d ++ z) (gave_more d acc c rest) ∙ w.gives d;
  }
    where
      before : (x : Effect) → fold_result a (absorb a acc c.effect (said c)) ≡ decision_of x → is (fold_result a acc) (decision_of x) ≡ false → w.up (decision_of x) ≡ []
      before x e n = w.late x (was_ahead a plain w.rank c.effect (said c) x (rw w.ranked at e) (rw w.ranked at n))

      after : (x : Effect) → (ahead a w.rank (decision_of x) ≡ true) × (is (said c) (decision_of x) ≡ false) → w.up (decision_of x) ++ hands (decision_of x) c ≡ []
      after x h = rw (w.late x h.0, h.1)
