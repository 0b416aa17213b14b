-- Laws of rows: how a pass over sound records goes on, from child to child. Assumes nothing.
use mathlib.Core.Path.{◌≡◌, refl, sym, ◌∙◌}
use mathlib.Core.Bool.{Bool, true}
use mathlib.Core.List.{List}
use Prim.Native.Nat.{ℕ, ◌+◌, ◌-◌, ◌≤◌, ◌<◌}
use native.Mathlib.Omega.{arith}
use lib.Dec.{ltb, eqb}
use borrow.Author.Tests.{ltb-true, ltb-false, le-leb}
use Rattle.record.specs.Choose.{if}
use Rattle.record.specs.Bytes.{byte_of, span_of}
use Rattle.fields.specs.Fields.{obligations_of}
use Rattle.fields.specs.declared.Kind.{Kind}
use Rattle.fields.proofs.First.{by, first_reach_all}
use Rattle.fields.proofs.Laws.{obligations_more, obligations_le}
use Rattle.operands.specs.Parent.{end_of}
use Rattle.operands.specs.Operands.{value_type, two_values, operands_ok, operands_at}
use Rattle.placement.specs.Place.{most_depth, kind_number, takes_of, rise_of, under_ok, rank_of, stands_ok, place_ok}
use Rattle.placement.specs.Walk.{Walk, Finds}
use Rattle.grammar.specs.Row.{Fit, Row}
use Rattle.operands.proofs.Parent.{span_end}
use Rattle.placement.proofs.Laws.{rule_zero, Passed, passed, kids, rest}

pub row_none : (b : List ℕ) {i j e d pn gc pc lo hi : ℕ} → i ≡ j → lo ≤ hi → Row b i j e d pn gc pc lo hi 0
row_none b q l = rw (← q) (record {
  forth = omega arith;
  fields = λ m a z. absurd (omega arith);
  duties = omega arith;
  places = λ p r h w. (record { rank = r; low = omega arith; walk = w }, λ m a z. absurd (omega arith));
})

module _ (b : List ℕ) {i j e d pn gc pc lo mid m : ℕ} (x : Row b i j e d pn gc pc lo mid m) where
  pub row_then : {k hi n : ℕ} → Row b j k e d pn gc pc mid hi n → Row b i k e d pn gc pc lo hi (m + n)
  row_then {k} {hi} {n} y = record {
    forth = omega (arith, x.forth, y.forth);
    fields = λ l a z. by (ltb l j) (λ t. x.fields l a (ltb-true l j t)) (λ t. y.fields l (ltb-false l j t) z);
    duties = omega (arith, x.duties, y.duties);
    places = λ p r h w.
        let u = x.places p r h w in
        let v = y.places p u.0.rank u.0.low u.0.walk in
        (v.0, λ l a z. by (ltb l j) (λ t. u.1 l a (ltb-true l j t)) (λ t. v.1 l (ltb-false l j t) z));
  }

  pub row_lower : {lower : ℕ} → lower ≤ lo → Row b i j e d pn gc pc lower mid m
  row_lower l = record {
    forth = x.forth;
    fields = x.fields;
    duties = x.duties;
    places = λ p r h w. x.places p r (omega arith) w;
  }

-- a k at record i has the operands that it wants
abbrev pub operands_of : List ℕ → ℕ → Kind → Bool
operands_of b i k = operands_ok k (byte_of b i 1) (value_type b (i + 1)) (two_values b i)

-- a child, and what is below it
module _ (b : List ℕ) (d pn gc pc lo : ℕ) {i e end below due : ℕ} {k : Kind} (f : Fit b i k) (ends : end ≡ end_of b i) (inside : i < end) (upto : end ≤ e)
    (takes : takes_of pn k ≡ true) (after : lo + rise_of pn k ≤ rank_of k (byte_of b i 4)) (under : under_ok k gc (byte_of b i 4) ≡ true)
    (wants : operands_of b i k ≡ true) (deep : d < most_depth) (x : Row b (i + 1) end end (d + 1) (kind_number k) pc (byte_of b i 4) 0 below due) where
  stands : (r : ℕ) → r ≤ lo → true ≡ stands_ok pn k (byte_of b i 4) r gc
  unfolding stands_ok
  stands r h = rw (takes, le-leb (r + rise_of pn k) (rank_of k (byte_of b i 4)) (omega arith), under) refl

  wanted : operands_at b i ≡ true
  unfolding operands_at
  wanted = rw f.kind wants

  span_is : end ≡ i + span_of b i
  span_is = ends ∙ span_end b i (span_of b i) refl

  passes : (p r : ℕ) → r ≤ lo → Walk b p i e d pn gc pc r → Passed b p i e d pn gc pc r k (byte_of b i 4) (i + span_of b i)
  passes p r h w =
      passed b w (omega arith) (sym f.kind) refl refl (stands r h) (λ z. sym wanted)
      (sym (rule_zero (i + span_of b i) e (d + 1) true (omega (arith, span_is)) refl (omega arith))) refl

  finds : (p : ℕ) (r : ℕ) (h : r ≤ lo) (w : Walk b p i e d pn gc pc r) → ((m : ℕ) → i + 1 ≤ m → m < end → place_ok b m ≡ true)
      → Finds b (i + 1) (i + span_of b i - (i + 1)) (i + span_of b i) 0
  finds p r h w ok = record {
    place = sym (first_reach_all (place_ok b) (i + 1) (i + span_of b i - (i + 1)) (λ m a z. ok m a (omega (arith, span_is))) ∙ omega (arith, span_is));
    which = λ z. absurd (omega (arith, span_is));
    none = λ z. refl;
  }

  pub row_child : Row b i end e d pn gc pc lo (rank_of k (byte_of b i 4)) (if (eqb (byte_of b i 0) 8) 1 0 + due)
  row_child = record {
    forth = omega arith;
    fields = λ m a z. by (ltb i m) (λ t. x.fields m (omega (arith, ltb-true i m t)) z)
        (λ t. let q : m ≡ i = omega (arith, ltb-false i m t) in rw q f.fields);
    duties = let y = obligations_more b i {m = obligations_of b i} {k = byte_of b i 0} refl refl refl in omega (arith, y, x.duties);
    places = λ p r h w.
        let g = passes p r h w in
        let u = x.places i 0 (omega arith) (rw (← span_is) at (kids b g refl)) in
        let v = rest b g (finds p r h w u.1) (omega arith) refl in (
          record { rank = rank_of k (byte_of b i 4); low = omega arith; walk = rw (← span_is) at v },
          λ m a z. by (ltb i m) (λ t. u.1 m (omega (arith, ltb-true i m t)) z)
              (λ t. let q : m ≡ i = omega (arith, ltb-false i m t) in rw q g.ok),
        );
  }

pub row_to : (b : List ℕ) {i j k e d pn gc pc lo hi m n : ℕ} → j ≡ k → m ≡ n → Row b i j e d pn gc pc lo hi m → Row b i k e d pn gc pc lo hi n
row_to b p q x = rw (p, q) at x

-- no more obligations than records
pub row_few : (b : List ℕ) {i j e d pn gc pc lo hi due : ℕ} → Row b i j e d pn gc pc lo hi due → due ≤ j
row_few b {j = j} x = omega (arith, x.duties, obligations_le b j)
