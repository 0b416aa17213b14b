-- Truths joined one after another: what a loop over parts keeps, when it may stop, and how it ends. Assumes nothing.
use mathlib.Core.Path.{◌≡◌, refl, sym, ◌∙◌}
use mathlib.Core.Bool.{Bool, true, false}
use mathlib.Core.List.{List, [], ◌∷◌}
use Rattle.record.specs.Choose.{if}
use Rattle.sums.specs.declared.Status.{Status}
use Rattle.meaning.specs.Logic.{is_true, is_false, and_all, or_all, target_all, and_of, or_of, target_and}
use Rattle.meaning.specs.Meaning.{truth_of}
use Rattle.meaning.specs.declared.Truth.{Truth}
use Rattle.meaning.specs.declared.Truth.TheVariants.{True, False, Unknown}
use Rattle.meaning.proofs.Logic.{and_none, and_cons, and_assoc, and_true, and_false, or_none, or_cons, or_assoc, or_false, or_true, target_none, target_cons, target_assoc, target_true}

-- a way of joining truths: many, two, and what none gives
pub record Joins (many : List Truth → Truth) (two : Truth → Truth → Truth) (start : Truth) : Type 0 where
  pub none : many [] ≡ start
  pub cons : (t : Truth) (ts : List Truth) → many (t ∷ ts) ≡ two t (many ts)
  pub assoc : (a t y : Truth) → two (two a t) y ≡ two a (two t y)
  pub unit : (a : Truth) → two a start ≡ a

-- what settles it, wherever it comes
pub record Settles (two : Truth → Truth → Truth) (sure : Truth) : Type 0 where
  pub early : (y : Truth) → two sure y ≡ sure
  pub late : (a : Truth) → two a sure ≡ sure

pub ands : Joins and_all and_of True
ands = record { none = and_none; cons = and_cons; assoc = and_assoc; unit = and_true }

pub ands_settle : Settles and_of False
ands_settle = record { early = λ y. refl; late = and_false }

pub ors : Joins or_all or_of False
ors = record { none = or_none; cons = or_cons; assoc = or_assoc; unit = or_false }

pub ors_settle : Settles or_of True
ors_settle = record { early = λ y. refl; late = or_true }

pub targets : Joins target_all target_and True
targets = record { none = target_none; cons = target_cons; assoc = target_assoc; unit = target_true }

is_true_lem : (t : Truth) → is_true t ≡ true → t ≡ True
is_true_lem True e = refl
is_true_lem False e = cc
is_true_lem (Unknown s) e = cc

is_false_lem : (t : Truth) → is_false t ≡ true → t ≡ False
is_false_lem True e = cc
is_false_lem False e = refl
is_false_lem (Unknown s) e = cc

-- what a loop that has a so far is still to say of the truths ts
unfoldable pub then : (List Truth → Truth) → (Truth → Truth → Truth) → Truth → List Truth → Truth
then many two a ts = two a (many ts)

module _ {many : List Truth → Truth} {two : Truth → Truth → Truth} {start : Truth} (j : Joins many two start) where
  module _ (a : Truth) {t w : Truth} {xs ts : List Truth} (e : xs ≡ t ∷ ts) where
    pub turn : {u : Truth} → u ≡ two a t → then many two a xs ≡ w → then many two u ts ≡ w
    unfolding then
    turn eu p = rw eu (j.assoc a t (many ts) ∙ (rw (e, j.cons t ts) at p))

    pub stop : {sure : Truth} → Settles two sure → t ≡ sure → then many two a xs ≡ w → sure ≡ w
    unfolding then
    stop s z p = sym (s.late a) ∙ (rw (e, j.cons t ts, z, s.early (many ts)) at p)

  pub end : (a : Truth) {w : Truth} {xs : List Truth} → xs ≡ [] → then many two a xs ≡ w → a ≡ w
  unfolding then
  end a e p = sym (j.unit a) ∙ (rw (e, j.none) at p)

-- a target that is Unknown so far stays so: a section that is Unknown later does not count
pub targets_stop : (a : Truth) {w : Truth} {why : Status} (ts : List Truth) → a ≡ Unknown why → then target_all target_and a ts ≡ w → a ≡ w
unfolding then
targets_stop a ts z p = z ∙ (rw z at p)

-- and, where `all`, or else or
unfoldable pub join_then : Bool → Truth → List Truth → Truth
join_then true a ts = then and_all and_of a ts
join_then false a ts = then or_all or_of a ts

pub join_none : (all : Bool) {a : Truth} (ts : List Truth) → a ≡ truth_of all → join_then all a ts ≡ if all (and_all ts) (or_all ts)
unfolding join_then then
join_none true ts e = rw e
join_none false ts e = rw e

pub join_turn : (all : Bool) (a : Truth) {t u w : Truth} {xs ts : List Truth} → xs ≡ t ∷ ts → u ≡ if all (and_of a t) (or_of a t)
    → join_then all a xs ≡ w → join_then all u ts ≡ w
unfolding join_then
join_turn true a e eu p = turn ands a e eu p
join_turn false a e eu p = turn ors a e eu p

pub join_stop : (all : Bool) (a : Truth) {t w : Truth} {r : Bool} {xs ts : List Truth} → xs ≡ t ∷ ts → r ≡ if all (is_false t) (is_true t) → r ≡ true
    → join_then all a xs ≡ w → t ≡ w
unfolding join_then
join_stop true a {t} e er z p = let f : t ≡ False = is_false_lem t (sym er ∙ z) in f ∙ stop ands a e ands_settle f p
join_stop false a {t} e er z p = let f : t ≡ True = is_true_lem t (sym er ∙ z) in f ∙ stop ors a e ors_settle f p

pub join_end : (all : Bool) (a : Truth) {w : Truth} {xs : List Truth} → xs ≡ [] → join_then all a xs ≡ w → a ≡ w
unfolding join_then
join_end true a e p = end ands a e p
join_end false a e p = end ors a e p
