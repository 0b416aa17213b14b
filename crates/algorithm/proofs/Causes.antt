-- Causes beside the walk: what is kept of them is what document 02, section 4, says. Assumes nothing.
use Rattle.std.specs.Prelude.{None, Some}
use mathlib.Core.Path.{◌≡◌, refl, sym, ap, ap₂, ◌∙◌}
use mathlib.Core.Bool.{Bool, true, false}
use mathlib.Core.List.{List, [], ◌∷◌}
use Rattle.meaning.specs.Cause.{Cause}
use Rattle.record.specs.Choose.{if}
use Rattle.sums.specs.declared.Status.TheVariants.{Processing}
use Rattle.meaning.specs.Logic.{is_true, or_else, first}
use Rattle.meaning.specs.Meaning.{coded, decision_in, cause_in, Child, verdict_in, said, applying, keep, is_only, evaluated, met, walked, cause_of, verdict_of}
use Rattle.meaning.specs.declared.Truth.{Truth}
use Rattle.meaning.specs.declared.Truth.TheVariants.{True, False, Unknown}
use Rattle.meaning.specs.declared.Decision.{Decision}
use Rattle.meaning.specs.declared.Algorithm.{Algorithm}
use Rattle.meaning.specs.declared.Algorithm.TheVariants.{RulesDeny, RulesPermit, First, PoliciesDeny, PoliciesPermit, OnlyOne}
use Rattle.algorithm.specs.Fold.{join, rank_of, fold_result, settled}
use Rattle.algorithm.specs.Tally.{fresh, verdict_so_far}
use Rattle.algorithm.specs.declared.Rank.{Rank}
use Rattle.algorithm.specs.declared.Rank.TheVariants.{R0}
use Rattle.algorithm.specs.declared.Acc.{Acc}
use Rattle.algorithm.specs.declared.Acc.TheVariants.{Ranked, Nobody, Pending, Two, One}
use Rattle.algorithm.specs.declared.tally.Tally.{Tally}
use Rattle.algorithm.proofs.Walk.{takes_on, takes, walk, result_right, Stops, stops_right}

-- a child is taken in, with its cause: under only-one a second that applies is a processing error
abbrev pub causes_on : Bool → Truth → Acc → Cause → Child → Cause
causes_on false t acc k c = or_else k (cause_in (verdict_in c))
causes_on true False acc k c = k
causes_on true (Unknown s) acc k c = Some s
causes_on true True Nobody k c = or_else (cause_in c.body) k
causes_on true True Pending k c = Some Processing
causes_on true True Two k c = Some Processing
causes_on true True (One d) k c = Some Processing
causes_on true True (Ranked r) k c = Some Processing

abbrev pub tallies_on : Bool → Algorithm → Tally → Child → Tally
tallies_on b up k c = record { acc = takes_on b c.target k.acc up c; cause = causes_on b c.target k.acc k.cause c }

abbrev pub tallies : Algorithm → Tally → Child → Tally
tallies up k c = tallies_on (is_only up) up k c

unfoldable pub walks : Algorithm → Tally → List Child → Tally
walks up k [] = k
walks up k (c ∷ cs) = if (settled up (tallies up k c).acc) (tallies up k c) (walks up (tallies up k c) cs)

-- one child more, by what is kept after it
pub walks_more : (a : Algorithm) (k : Tally) (c : Child) (cs : List Child) {next : Tally} → tallies a k c ≡ next
    → walks a k (c ∷ cs) ≡ if (settled a next.acc) next (walks a next cs)
unfolding walks
walks_more a k c cs e = ap (λ (n : Tally). if (settled a n.acc) n (walks a n cs)) e

-- the decision is that of the walk without causes
pub walks_acc : (up : Algorithm) (k : Tally) (cs : List Child) → (walks up k cs).acc ≡ walk up k.acc cs
unfolding walks walk
walks_acc up k [] = refl
walks_acc up k (c ∷ cs) = go (settled up (takes up k.acc c)) (walks_acc up (tallies up k c) cs)
  where
    go : (b : Bool) → (walks up (tallies up k c) cs).acc ≡ walk up (takes up k.acc c) cs
        → (if b (tallies up k c) (walks up (tallies up k c) cs)).acc ≡ if b (takes up k.acc c) (walk up (takes up k.acc c) cs)
    go true h = refl
    go false h = h

or_assoc : (a b c : Cause) → or_else (or_else a b) c ≡ or_else a (or_else b c)
or_assoc None b c = refl
or_assoc (Some s) b c = refl

or_none : (a : Cause) → or_else a None ≡ a
or_none None = refl
or_none (Some s) = refl

-- of every algorithm but only-one: the first of the children up to the stop
module _ (a : Algorithm) (plain : is_only a ≡ false) where
  ranked_cause : (cs : List Child) (r : Rank) (k : Cause) → settled a (Ranked r) ≡ false
      → (walks a (record { acc = Ranked r; cause = k }) cs).cause ≡ or_else k (first (λ c. cause_in (verdict_in c)) (evaluated a cs))
  unfolding walks
  ranked_cause [] r k e = sym (or_none k)
  ranked_cause (c ∷ cs) r k e =
      rw (plain, ← h.stop r c e)
      (go (settled a (Ranked n)) refl (λ f. ranked_cause cs n (or_else k why) f))
    where
      h : Stops a
      h = stops_right a plain

      n : Rank
      n = join r (rank_of a c.effect (said c))

      why : Cause
      why = cause_in (verdict_in c)

      go : (b : Bool) → settled a (Ranked n) ≡ b
          → (settled a (Ranked n) ≡ false → (walks a (record { acc = Ranked n; cause = or_else k why }) cs).cause ≡ or_else (or_else k why) (first (λ c. cause_in (verdict_in c)) (evaluated a cs)))
          → (if b (record { acc = Ranked n; cause = or_else k why }) (walks a (record { acc = Ranked n; cause = or_else k why }) cs)).cause
          ≡ or_else k (or_else why (first (λ c. cause_in (verdict_in c)) (if b [] (evaluated a cs))))
      go true f ih = ap (or_else k) (sym (or_none why))
      go false f ih = ih f ∙ or_assoc k why (first (λ c. cause_in (verdict_in c)) (evaluated a cs))

-- only-one: after one child that applies, the first met of an Indeterminate target and another that applies
only_rest : (d : Decision) (k : Cause) (cs : List Child) → (walks OnlyOne (record { acc = One d; cause = k }) cs).cause ≡ or_else (walked true cs) k
unfolding walks
only_rest d k [] = refl
only_rest d k (c ∷ cs) = go c.target (only_rest d k cs)
  where
    go : (t : Truth) → (walks OnlyOne (record { acc = One d; cause = k }) cs).cause ≡ or_else (walked true cs) k
        → (if (settled OnlyOne (takes_on true t (One d) OnlyOne c)) (record { acc = takes_on true t (One d) OnlyOne c; cause = causes_on true t (One d) k c }) (walks OnlyOne (record { acc = takes_on true t (One d) OnlyOne c; cause = causes_on true t (One d) k c }) cs)).cause
        ≡ or_else (met true t (walked true cs)) k
    go True h = refl
    go False h = h
    go (Unknown s) h = refl

-- where none is met after it, none applies after it
none_after : (cs : List Child) (k : Cause) → or_else (walked true cs) k ≡ or_else (walked true cs) (or_else k (first (λ c. cause_in c.body) (applying cs)))
none_after [] k = sym (or_none k)
none_after (c ∷ cs) k = go c.target (none_after cs k)
  where
    go : (t : Truth) → or_else (walked true cs) k ≡ or_else (walked true cs) (or_else k (first (λ c. cause_in c.body) (applying cs)))
        → or_else (met true t (walked true cs)) k ≡ or_else (met true t (walked true cs)) (or_else k (first (λ c. cause_in c.body) (keep t c (applying cs))))
    go True h = refl
    go False h = h
    go (Unknown s) h = refl

only_cause : (cs : List Child) → (walks OnlyOne (fresh OnlyOne) cs).cause ≡ cause_of OnlyOne cs
unfolding walks
only_cause [] = refl
only_cause (c ∷ cs) = go c.target (only_cause cs)
  where
    go : (t : Truth) → (walks OnlyOne (fresh OnlyOne) cs).cause ≡ cause_of OnlyOne cs
        → (if (settled OnlyOne (takes_on true t Nobody OnlyOne c)) (record { acc = takes_on true t Nobody OnlyOne c; cause = causes_on true t Nobody None c }) (walks OnlyOne (record { acc = takes_on true t Nobody OnlyOne c; cause = causes_on true t Nobody None c }) cs)).cause
        ≡ or_else (met false t (walked (is_true t) cs)) (first (λ c. cause_in c.body) (keep t c (applying cs)))
    go True h = rw (or_none (cause_in c.body)) (only_rest (decision_in c.body) (cause_in c.body) cs ∙ none_after cs (cause_in c.body))
    go False h = h
    go (Unknown s) h = refl

cause_right : (a : Algorithm) (cs : List Child) → (walks a (fresh a) cs).cause ≡ cause_of a cs
cause_right RulesDeny cs = ranked_cause RulesDeny refl cs R0 None refl
cause_right RulesPermit cs = ranked_cause RulesPermit refl cs R0 None refl
cause_right First cs = ranked_cause First refl cs R0 None refl
cause_right PoliciesDeny cs = ranked_cause PoliciesDeny refl cs R0 None refl
cause_right PoliciesPermit cs = ranked_cause PoliciesPermit refl cs R0 None refl
cause_right OnlyOne cs = only_cause cs

pub verdict_right : (a : Algorithm) (cs : List Child) → verdict_so_far a (walks a (fresh a) cs) ≡ verdict_of a cs
unfolding verdict_of
verdict_right a cs = ap₂ coded (ap (fold_result a) (walks_acc a (fresh a) cs) ∙ result_right a cs) (cause_right a cs)
