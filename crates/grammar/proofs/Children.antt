-- How a row goes on by one child: a law for each loop of `src/lib.rt` over children of one kind. Assumes nothing.
use mathlib.Core.Path.{◌≡◌, refl, sym, ◌∙◌}
use mathlib.Core.Bool.{true}
use mathlib.Core.List.{List}
use Prim.Native.Nat.{ℕ, ◌+◌, ◌-◌, ◌≤◌, ◌<◌}
use native.Mathlib.Nat.{add-zero}
use native.Mathlib.Omega.{arith}
use lib.Dec.{eqb}
use borrow.Author.Tests.{eq-eqb}
use Rattle.record.specs.Choose.{if, among}
use Rattle.record.specs.Bytes.{byte_of, span_of}
use Rattle.fields.specs.declared.Kind.{Kind}
use Rattle.fields.specs.declared.Kind.TheVariants.{Section, Conjunction, Match, Obligation}
use Rattle.placement.specs.Place.{most_depth, kind_number, takes_of, rise_of, under_ok, rank_of}
use Rattle.grammar.specs.Row.{Fit, Row, Sections}
use Rattle.operands.proofs.Parent.{span_end}
use Rattle.grammar.proofs.Rows.{operands_of, row_none, row_then, row_lower, row_child}
use Rattle.grammar.proofs.Fits.{leaf, other, not_duty, duty, fit_span, fit_leaf}

-- a child with nothing below it
pub row_leaf : (b : List ℕ) (d pn gc pc lo : ℕ) {i e : ℕ} {k : Kind} → Fit b i k → leaf k ≡ true → i < e → takes_of pn k ≡ true
    → lo + rise_of pn k ≤ rank_of k (byte_of b i 4) → under_ok k gc (byte_of b i 4) ≡ true → operands_of b i k ≡ true → d < most_depth
    → Row b i (i + 1) e d pn gc pc lo (rank_of k (byte_of b i 4)) (if (eqb (byte_of b i 0) 8) 1 0)
row_leaf b d pn gc pc lo {i} {e} {k} f l h takes after under wants deep =
    let u : i + 1 ≤ e = omega arith in
    let x : Row b (i + 1) (i + 1) (i + 1) (d + 1) (kind_number k) pc (byte_of b i 4) 0 0 0 = row_none b refl (omega arith) in
    let ends = sym (span_end b i 1 (sym (fit_leaf b i f l))) in
    rw (add-zero (if (eqb (byte_of b i 0) 8) 1 0)) at (row_child b d pn gc pc lo f ends (omega arith) u takes after under wants deep x)

-- one more match
pub match_more : (b : List ℕ) {from i end category n : ℕ} → ((d pc : ℕ) → d < most_depth → Row b from i end d 5 category pc 5 5 0)
    → Fit b i Match → i < end → n ≡ byte_of b i 4 → n ≡ category → (d pc : ℕ) → d < most_depth → Row b from (i + 1) end d 5 category pc 5 5 0
match_more b {i = i} {category = category} x f h en e d pc l =
    row_then b (x d pc l)
    (rw (not_duty b i f (other refl)) at (row_leaf b d 5 category pc 5 f refl h refl (omega arith) (eq-eqb category (byte_of b i 4) (omega arith)) refl l))

-- one more obligation
pub own_more : (b : List ℕ) {from i end d pn gc pc : ℕ} → Row b from i end d pn gc pc 6 6 (i - from) → Fit b i Obligation → i < end → among 1 2 pn ≡ true
    → d < most_depth → Row b from (i + 1) end d pn gc pc 6 6 (i + 1 - from)
own_more b {from} {i} {d = d} {pn = pn} {gc = gc} {pc = pc} x f h takes l =
    let q : i - from + 1 ≡ i + 1 - from = omega (arith, x.forth) in
    rw q at (row_then b x (rw (duty b i f) at (row_leaf b d pn gc pc 6 f refl h takes (omega arith) refl refl l)))

-- one more child with something below it
module _ (b : List ℕ) {from i end next category s : ℕ} (es : s ≡ span_of b i) (en : next ≡ i + s) (h : next ≤ end) where
  pub conjunction_more : ((d gc : ℕ) → d + 1 < most_depth → Row b from i end d 4 gc category 5 5 0) → Fit b i Conjunction
      → ((d pc : ℕ) → d < most_depth → Row b (i + 1) next next d 5 category pc 5 5 0)
      → (d gc : ℕ) → d + 1 < most_depth → Row b from next end d 4 gc category 5 5 0
  conjunction_more x f y d gc l =
      row_then b (x d gc l)
      (rw (not_duty b i f (other refl)) at
      (row_child b d 4 gc category 5 f (en ∙ sym (span_end b i s es)) (omega (arith, fit_span b i f)) h refl (omega arith) refl refl (omega arith)
      (row_lower b (y (d + 1) (byte_of b i 4) l) (omega arith))))

  pub section_more : {d pn gc pc last : ℕ} → Row b from i end d pn gc pc 0 last 0 → Fit b i Section → category ≡ byte_of b i 4 → last < category
      → d + 3 ≤ most_depth → among 1 3 pn ≡ true → ((d gc : ℕ) → d + 1 < most_depth → Row b (i + 1) next next d 4 gc category 5 5 0)
      → Row b from next end d pn gc pc 0 category 0
  section_more {d} {pn} {gc} {pc} {last} x f ec a l takes y =
      row_then b x
      (rw (not_duty b i f (other refl), ← ec) at
      (row_child b d pn gc pc last f (en ∙ sym (span_end b i s es)) (omega (arith, fit_span b i f)) h takes (omega arith) refl refl (omega arith)
      (row_lower b (rw ec at (y (d + 1) pc (omega arith))) (omega arith))))

-- a record's sections, the last of which has a category of at most 4
pub sections_are : (b : List ℕ) {from i e d last : ℕ} → i ≤ e → last ≤ 4 → ((pn gc pc : ℕ) → among 1 3 pn ≡ true → Row b from i e d pn gc pc 0 last 0)
    → Sections b from i e d
sections_are b upto four x = record { upto = upto; row = λ pn gc pc l. row_then b (x pn gc pc l) (row_none b refl four) }
