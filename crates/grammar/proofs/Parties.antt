-- Laws of policies and sets: one among the children of a set, and the whole book. Assumes nothing.
use mathlib.Core.Path.{◌≡◌, refl, sym, ◌∙◌}
use mathlib.Core.Bool.{true, false}
use mathlib.Core.List.{List}
use mathlib.Core.Logic.{⊎_elim, ◌⊎◌}
use Prim.Native.Nat.{ℕ, ◌+◌, ◌*◌, ◌≤◌, ◌<◌}
use native.Mathlib.Omega.{arith}
use lib.Dec.{ltb, eqb}
use lib.ListN.{length}
use borrow.Author.Tests.{ltb-true, ltb-false}
use Rattle.record.specs.Choose.{among}
use Rattle.record.specs.Bytes.{size, byte_of, span_of}
use Rattle.fields.specs.First.{first_from}
use Rattle.fields.specs.Fields.{kind_at, field_ok, obligations_of}
use Rattle.fields.specs.declared.Kind.{Kind}
use Rattle.fields.specs.declared.Kind.TheVariants.{PolicySet, Policy}
use Rattle.fields.proofs.First.{by, first_reach_all}
use Rattle.fields.proofs.Laws.{obligations_none, obligations_more}
use Rattle.placement.specs.Keeps.{AllKeep}
use Rattle.operands.specs.Parent.{end_of}
use Rattle.placement.specs.Place.{most_depth, kind_number, takes_of, rise_of, under_ok, rank_of, place_ok}
use Rattle.grammar.specs.Row.{Fit, Row, Party, Clean}
use Rattle.operands.proofs.Parent.{span_end}
use Rattle.placement.proofs.Laws.{top_walk, top_ok_lem}
use Rattle.grammar.proofs.Fits.{other, not_duty, fit_span}
use Rattle.grammar.proofs.Rows.{operands_of, row_then}
use Rattle.grammar.proofs.Parts.{row_other}

-- a policy or set among the children of a set
module _ (b : List ℕ) (d gc pc : ℕ) {i e due : ℕ} (x : Party b i e (d + 1) due) (deep : d < most_depth) where
  of_kind : (k : Kind) → kind_at b i ≡ k → takes_of 1 k ≡ true → rise_of 1 k ≡ 0 → rank_of k (byte_of b i 4) ≡ 5 → under_ok k gc (byte_of b i 4) ≡ true
      → operands_of b i k ≡ true → Row b i (end_of b i) e d 1 gc pc 5 5 due
  of_kind k q takes step five under wants =
      let f : Fit b i k = record { kind = q; fields = x.fields } in
      row_other b d 1 gc pc 5 f (span_end b i (span_of b i) refl) x.within takes five (omega (arith, step)) under wants deep
      (rw q at (x.below pc))

  pub row_party : Row b i (end_of b i) e d 1 gc pc 5 5 due
  row_party =
      ⊎_elim (λ (t : kind_at b i ≡ PolicySet). of_kind PolicySet t refl refl refl refl refl)
      (λ (t : kind_at b i ≡ Policy). of_kind Policy t refl refl refl refl refl)
      x.kind

-- the whole book
module _ (b : List ℕ) {n due : ℕ} (h : 0 < n) (l : length b ≡ n * size) (s : span_of b 0 ≡ n) (x : Party b 0 n 1 due) where
  ends : end_of b 0 ≡ n
  ends = span_end b 0 (span_of b 0) refl ∙ omega (arith, s)

  top_is : among 1 2 (kind_number (kind_at b 0)) ≡ true
  top_is = ⊎_elim (λ (t : kind_at b 0 ≡ PolicySet). rw t refl) (λ (t : kind_at b 0 ≡ Policy). rw t refl) x.kind

  below : Row b 1 n n 1 (kind_number (kind_at b 0)) (byte_of b 0 4) (byte_of b 0 4) 0 6 due
  below = rw ends at (x.below (byte_of b 0 4))

  fields_kept : AllKeep (field_ok b) n
  fields_kept m z = by (ltb 0 m) (λ t. below.fields m (omega (arith, ltb-true 0 m t)) z)
      (λ t. let q : m ≡ 0 = omega (arith, ltb-false 0 m t) in rw q x.fields)

  fields_all : first_from (field_ok b) 0 n ≡ n
  fields_all = first_reach_all (field_ok b) 0 n (λ m a z. fields_kept m (omega arith)) ∙ omega arith

  places_kept : AllKeep (place_ok b) n
  places_kept m z =
      let w = top_walk b h l refl refl (sym top_is) refl refl s fields_all refl in
      let y = below.places 0 0 (omega arith) w in
      by (ltb 0 m) (λ t. y.1 m (omega (arith, ltb-true 0 m t)) z)
      (λ t. let q : m ≡ 0 = omega (arith, ltb-false 0 m t) in rw q (top_ok_lem b h l refl refl (sym top_is) refl refl s))

  no_eight : eqb (kind_number (kind_at b 0)) 8 ≡ false
  no_eight = ⊎_elim (λ (t : kind_at b 0 ≡ PolicySet). rw t refl) (λ (t : kind_at b 0 ≡ Policy). rw t refl) x.kind

  duties_all : obligations_of b n ≡ due
  duties_all =
      let z = not_duty b 0 {k = kind_at b 0} (record { kind = refl; fields = x.fields }) (other no_eight) in
      let y = obligations_more b 0 {m = obligations_of b 0} {k = byte_of b 0 0} refl refl refl in
      let o = obligations_none b in omega (arith, below.duties, y, z, o)

  pub row_clean : Clean b n due
  row_clean = record { fields = fields_kept; places = places_kept; duties = duties_all }

-- a policy or set with all that is below it
pub party_is : (b : List ℕ) {i top d due next : ℕ} (k : Kind) → Fit b i k → (k ≡ PolicySet) ⊎ (k ≡ Policy) → next ≡ i + span_of b i → next ≤ top
    → ((gc pc : ℕ) → Row b (i + 1) next next d (kind_number k) gc pc 0 6 due) → Party b i top d due
party_is b {i} {top} {d} {due} {next} k f o n l x =
    let q : next ≡ end_of b i = n ∙ sym (span_end b i (span_of b i) refl) in
    let s = fit_span b i f in
    record {
      after = omega (arith, q, n, s);
      within = omega (arith, q, l);
      kind = rw (← f.kind) at o;
      fields = f.fields;
      below = λ gc. rw (q, ← f.kind) at (x gc (byte_of b i 4));
    }

-- from one policy or set among a set's children to the next
pub party_next : (b : List ℕ) (i : ℕ) {at next d due below s : ℕ} → ((gc pc : ℕ) → Row b (i + 1) at next d 1 gc pc 0 5 due) → Party b at next (d + 1) below
    → d < most_depth → s ≡ span_of b at
    → (at + s ≤ next) × (at < at + s) × ((gc pc : ℕ) → Row b (i + 1) (at + s) next d 1 gc pc 0 5 (due + below))
party_next b i {at} {next} {d} {due} {below} {s} x p deep es =
    let q : end_of b at ≡ at + s = span_end b at s es in
    let y : (gc pc : ℕ) → Row b (i + 1) (at + s) next d 1 gc pc 0 5 (due + below) =
    λ gc pc. row_then b (x gc pc) (rw q at (row_party b d gc pc p deep)) in
    (omega (arith, q, p.within), omega (arith, q, p.after), y)
