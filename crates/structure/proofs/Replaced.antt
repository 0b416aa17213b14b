-- A child of line 1 gives place to others: the claims of `specs/Claims.antt` on replacing. Assumes nothing.
use mathlib.Core.Path.{◌≡◌, refl, sym, ap, ◌∙◌}
use mathlib.Core.Bool.{true}
use mathlib.Core.List.{List}
use mathlib.Core.Logic.{⊎_elim}
use Prim.Native.Nat.{ℕ, ◌+◌, ◌-◌, ◌≤◌, ◌<◌}
use native.Mathlib.Omega.{arith}
use lib.Dec.{ltb}
use borrow.Author.Tests.{ltb-false}
use Rattle.record.specs.Choose.{among}
use Rattle.record.specs.Bytes.{span_of}
use Rattle.fields.specs.Fields.{kind_at}
use Rattle.fields.specs.declared.Kind.{Kind}
use Rattle.fields.proofs.First.{by}
use Rattle.operands.specs.Parent.{end_of, parent_of}
use Rattle.placement.specs.Place.{kind_number, rank_at}
use Rattle.operands.proofs.Parent.{parent_ge}
use Rattle.placement.proofs.Laws.{top_ok_lem}
use Rattle.judge.proofs.Sound.{top_kept}
use Rattle.structure.specs.Subtrees.{subtrees_of, SameRecords}
use Rattle.structure.specs.Sound.{Parent, line_one, rank_after, sound_at}
use Rattle.structure.specs.Claims.{ReplacedIsKept, ChildForChild}
use Rattle.structure.proofs.Records.{policy_kind, kind_same, line_same}
use Rattle.structure.proofs.Subtrees.{EndsThere, subtrees_same}
use Rattle.structure.proofs.Sound.{FirstChild, first_of, child_rank, sound_lower, rank_lower, rank_none, rank_step, sound_join, sound_cut}
use Rattle.structure.proofs.Accepted.{kept_below, below_kept}
use Rattle.structure.proofs.Parts.{by_own_bytes, by_themselves}
use Rattle.structure.proofs.Spanned.{any_span, fields_kept}

-- line 1 may state any span
top_any : (k : Kind) → among 1 2 (kind_number k) ≡ true → any_span k ≡ true
top_any k a = ⊎_elim (ap any_span) (ap any_span) (policy_kind k a)

-- no child before a child of line 1 reaches over it
before_ends : (b : List ℕ) (i : ℕ) → parent_of b i ≡ 0 → (j : ℕ) → 1 ≤ j → j < i → end_of b j ≤ i
before_ends b i q j a l = by (ltb i (end_of b j)) (λ t. absurd (omega (arith, parent_ge b i j l t, q, a))) (λ t. ltb-false i (end_of b j) t)

-- what is below line 1 then
below_replaced : (u : Parent) (b : List ℕ) (n : ℕ) (c : List ℕ) (i t : ℕ) → 0 < i → i < n → EndsThere b 1 (i - 1)
    → sound_at u 0 b 1 (n - 1) ≡ true → SameRecords b 1 c 1 (i - 1) → SameRecords b (i + span_of b i) c (i + t) (n - (i + span_of b i))
    → sound_at u (rank_at b i) c i t ≡ true → rank_after (rank_at b i) (subtrees_of c i t) ≤ rank_at b i
    → (span_of b i ≤ n - i) × (sound_at u 0 c 1 (i - 1 + (t + (n - (i + span_of b i)))) ≡ true)
unfolding sound_at
below_replaced u b n c i t h l ends x before after new low =
    let q : n - 1 ≡ i - 1 + (n - i) = omega arith in
    let at : 1 + (i - 1) ≡ i = omega arith in
    let v = sound_cut u 0 b 1 (i - 1) (n - i) ends (rw q at x) in
    let e : ℕ = rank_after 0 (subtrees_of b 1 (i - 1)) in
    let w : FirstChild u e b i (n - i) = first_of u e b i (n - i) (omega arith) (rw at at v.1) in
    let rank : e ≤ rank_at b i = child_rank u e b i w.child in
    let r : n - i - span_of b i ≡ n - (i + span_of b i) = omega arith in
    let some = sound_lower u (rank_at b i) e (subtrees_of c i t) rank new in
    let lower = rank_lower (rank_at b i) e (subtrees_of c i t) rank in
    let others = sym (by_own_bytes u (rank_at b i) b (i + span_of b i) c (i + t) (n - (i + span_of b i)) after) ∙ (rw r at w.rest) in
    let later = sound_join u e c i t (n - (i + span_of b i)) some (sound_lower u (rank_at b i) (rank_after e (subtrees_of c i t)) _ (omega arith) others) in
    let same : subtrees_of b 1 (i - 1) ≡ subtrees_of c 1 (i - 1) = subtrees_same b 1 c 1 (i - 1) before in
    (w.within, sound_join u 0 c 1 (i - 1) (t + (n - (i + span_of b i))) (rw same at v.0) (rw (← same, at) later))

pub replaced_is_kept : ReplacedIsKept
replaced_is_kept b n c m i t k h l p w new low =
    let a = kept_below b n k in
    let ends : EndsThere b 1 (i - 1) = λ j x z. omega (arith, before_ends b i p j x (omega arith)) in
    let z = below_replaced (line_one b) b n c i t h l ends a.sound w.before w.after new low in
    let v = top_kept b n k.sized a.place in
    let records = w.records in
    let within = z.0 in
    let some = w.sized.some in
    let kind = rw (kind_same b 0 c 0 w.line_one_lem) at v.0 in
    let q : i - 1 + (t + (n - (i + span_of b i))) ≡ m - 1 = omega arith in
    below_kept c m (record {
      sized = w.sized;
      fields = fields_kept b 0 c 0 w.line_one_lem (top_any (kind_at b 0) v.0) a.fields (omega (arith, w.span));
      place = top_ok_lem c {n = m} (omega arith) w.sized.bytes refl refl refl kind refl w.span;
      sound = rw (line_same b c w.line_one_lem, q) at z.1;
    })

pub child_for_child : ChildForChild
child_for_child b n c m i k h l p w x q =
    let some = x.some in
    let r = rank_step (rank_at b i) c i (span_of c i) some (omega arith) in
    let s = rank_none (rank_at c i) c (i + span_of c i) (span_of c i - span_of c i) (omega arith) in
    replaced_is_kept b n c m i (span_of c i) k h l p w (sym (by_themselves (line_one b) (rank_at b i) c i (span_of c i)) ∙ x.alone) (omega (arith, r, s, q))
