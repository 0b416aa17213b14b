-- What is mended and what is replaced, child by child; what is mended is sound, and no longer than it was. Assumes nothing.
use mathlib.Core.Path.{◌≡◌, refl, sym, ◌∙◌}
use mathlib.Core.Bool.{Bool, true, false}
use mathlib.Core.List.{List, [], ◌∷◌, ◌++◌, append_assoc, append-nil}
use mathlib.Core.Logic.{⊎_elim}
use Prim.Native.Nat.{ℕ, suc, ◌+◌, ◌-◌, ◌*◌, ◌≤◌, ◌<◌}
use native.Mathlib.Omega.{arith}
use lib.ListN.{length}
use borrow.Author.Tests.{le-leb}
use Rattle.record.specs.Choose.{either, among}
use Rattle.record.specs.Bytes.{size, span_of, byte_of}
use Rattle.record.specs.Below.{all_below}
use Rattle.record.specs.Forest.{span_in}
use Rattle.record.proofs.Choose.{both_parts, no_false}
use Rattle.fields.specs.Fields.{kind_of, kind_at, zeros, plain_ok, field_ok}
use Rattle.fields.specs.declared.Kind.{Kind}
use Rattle.fields.specs.declared.Kind.TheVariants.{PolicySet, Policy}
use Rattle.fields.proofs.First.{by}
use Rattle.placement.specs.Place.{kind_number, rank_of, rank_at, stands_ok}
use Rattle.structure.specs.Subtrees.{Subtrees, no_subtree, subtree, record_count, record_at, subtrees_of, bytes_of, with_span, slice_of}
use Rattle.structure.specs.Sound.{Parent, as_parent, record_ok, child_ok, operands_in, sound}
use Rattle.structure.proofs.Records.{policy_kind, child_parts}
use Rattle.structure.proofs.Subtrees.{subtrees_none, subtrees_step, count_none, count_subtree}
use Rattle.structure.proofs.Sound.{sound_parts, parts_sound, child_rank}
use Rattle.structure.proofs.Written.{bytes_slice}
use Rattle.spoilt.specs.Spoilt.{line_ok, replaceable, first_spoilt}
use Rattle.spoilt.proofs.Lines.{line_parts}
use Rattle.spoilt.proofs.Trees.{mendable, bad_inside, sound_empty}
use Rattle.mending.specs.Mending.{deny_policy, deny_rule, mended, replacements, headed}

-- how mending goes on: no child, one that stays, one that is replaced
mended_none : (u : Parent) → mended u no_subtree ≡ no_subtree
unfolding mended
mended_none u = refl

pub replaced_none : (u : Parent) (line : ℕ) → replacements u line no_subtree ≡ []
unfolding replacements
replaced_none u line = refl

module _ (u : Parent) (r : List ℕ) (kids rest : Subtrees) where
  mended_kept : sound (as_parent u r 0) 0 kids ≡ true → mended u (subtree r kids rest) ≡ subtree r kids (mended u rest)
  unfolding mended
  mended_kept k = rw k refl

  mended_new : sound (as_parent u r 0) 0 kids ≡ false
      → mended u (subtree r kids rest) ≡ subtree deny_policy (subtree deny_rule no_subtree no_subtree) (mended u rest)
  unfolding mended
  mended_new k = rw k refl

  module _ (line : ℕ) where
    pub replaced_kept : sound (as_parent u r 0) 0 kids ≡ true → replacements u line (subtree r kids rest) ≡ replacements u (line + suc (record_count kids)) rest
    unfolding replacements
    replaced_kept k = rw k refl

    pub replaced_new : sound (as_parent u r 0) 0 kids ≡ false
        → replacements u line (subtree r kids rest)
        ≡ record { line = line; lines = suc (record_count kids) } ∷ replacements u (line + suc (record_count kids)) rest
    unfolding replacements
    replaced_new k = rw k refl

-- records of which the first covers all others, as one subtree, and its bytes
module _ (b : List ℕ) (i s : ℕ) (l : 0 < s) (e : span_in b i s ≡ s) where
  pub one_tree : subtrees_of b i s ≡ subtree (record_at b i) (subtrees_of b (i + 1) (s - 1)) no_subtree
  one_tree = let z : s - s ≡ 0 = omega arith in rw (subtrees_step b i s l, e, z, subtrees_none b (i + s)) refl

  pub one_bytes : (i + s) * size ≤ length b → bytes_of (subtree (record_at b i) (subtrees_of b (i + 1) (s - 1)) no_subtree) ≡ slice_of b i s
  one_bytes h = rw (← one_tree) (bytes_slice b i s h)

-- what is mended as bytes: none; a child that stays, and then those after it; the two records of a replacement, and then those after it
pub bytes_none : (u : Parent) → bytes_of (mended u no_subtree) ≡ []
unfolding bytes_of
bytes_none u = rw (mended_none u) refl

module _ (u : Parent) (r : List ℕ) (kids rest : Subtrees) where
  pub bytes_kept : sound (as_parent u r 0) 0 kids ≡ true → bytes_of (mended u (subtree r kids rest)) ≡ bytes_of (subtree r kids no_subtree) ++ bytes_of (mended u rest)
  unfolding bytes_of
  bytes_kept k = rw (mended_kept u r kids rest k, append-nil (bytes_of kids), append_assoc r (bytes_of kids) (bytes_of (mended u rest))) refl

  pub bytes_new : sound (as_parent u r 0) 0 kids ≡ false → bytes_of (mended u (subtree r kids rest)) ≡ (deny_policy ++ deny_rule) ++ bytes_of (mended u rest)
  unfolding bytes_of
  bytes_new k = rw (mended_new u r kids rest k) refl

-- line 1 is one record more, and its bytes stand first
pub headed_count : (r : List ℕ) (kids : Subtrees) → record_count (headed r kids) ≡ suc (record_count kids)
unfolding headed
headed_count r kids = let c = count_subtree (with_span r (suc (record_count kids))) kids no_subtree in let z = count_none in omega (arith, c, z)

pub headed_bytes : (r : List ℕ) (kids : Subtrees) → bytes_of (headed r kids) ≡ with_span r (suc (record_count kids)) ++ bytes_of kids
unfolding headed bytes_of
headed_bytes r kids = rw (append-nil (bytes_of kids)) refl

-- what is replaced ranks as a policy does
policy_rank : (k : Kind) (c : ℕ) → among 1 2 (kind_number k) ≡ true → rank_of k c ≡ 5
policy_rank k c a = ⊎_elim (λ (q : k ≡ PolicySet). rw q refl) (λ (q : k ≡ Policy). rw q refl) (policy_kind k a)

pub replaceable_parts : (u : Parent) (e : ℕ) (r : List ℕ) (kids : Subtrees) → replaceable u e r kids ≡ true
    → (among 1 2 (kind_number (kind_at r 0)) ≡ true) × (line_ok u e r kids ≡ true)
unfolding replaceable
replaceable_parts u e r kids h = both_parts (among 1 2 (kind_number (kind_at r 0))) (line_ok u e r kids) h

replaceable_rank : (u : Parent) (e : ℕ) (r : List ℕ) (kids : Subtrees) → replaceable u e r kids ≡ true → rank_at r 0 ≡ 5
unfolding rank_at
replaceable_rank u e r kids h = policy_rank (kind_at r 0) (byte_of r 0 4) (replaceable_parts u e r kids h).0

deny_rank : rank_at deny_policy 0 ≡ 5
unfolding rank_at kind_at kind_of
deny_rank = refl

-- the two records that stand for it are sound
deny_policy_lem : record_ok deny_policy 1 ≡ true
unfolding record_ok field_ok kind_at kind_of plain_ok zeros all_below span_of
deny_policy_lem = refl

deny_rule_lem : record_ok deny_rule 0 ≡ true
unfolding record_ok field_ok kind_at kind_of plain_ok zeros all_below span_of
deny_rule_lem = refl

rule_count : record_count (subtree deny_rule no_subtree no_subtree) ≡ 1
unfolding record_count
rule_count = refl

no_operands : (kids : Subtrees) → (operands_in deny_policy kids ≡ true) × (operands_in deny_rule kids ≡ true)
unfolding operands_in kind_at kind_of
no_operands kids = (refl, refl)

policy_stands : (u : Parent) (e : ℕ) → u.number ≡ 1 → u.above ≡ 1 → e ≤ 5 → child_ok u e deny_policy ≡ true
unfolding child_ok stands_ok kind_at kind_of
policy_stands u e n a l = let o : e + 0 ≤ 5 = omega arith in rw (n, a, le-leb (e + 0) 5 o) refl

rule_stands : (u : Parent) → u.above ≡ 1 → child_ok (as_parent u deny_policy 0) 0 deny_rule ≡ true
unfolding child_ok stands_ok kind_at kind_of
rule_stands u a = rw a refl

rule_sound : (u : Parent) → u.above ≡ 1 → sound (as_parent u deny_policy 0) 0 (subtree deny_rule no_subtree no_subtree) ≡ true
rule_sound u a =
    parts_sound (as_parent u deny_policy 0) 0 deny_rule no_subtree no_subtree (rw count_none deny_rule_lem) (rule_stands u a) (no_operands no_subtree).1
    (sound_empty _ 0) (sound_empty _ _)

-- a child that is not sound within may be replaced
pub then_replaceable : (p k : Bool) → either p k ≡ true → k ≡ false → p ≡ true
then_replaceable true k e f = refl
then_replaceable false k e f = no_false (sym f ∙ e)

-- children of a set on line 1, of which no line is spoilt, are sound once mended
pub mended_sound : (u : Parent) → u.number ≡ 1 → u.above ≡ 1 → (e : ℕ) (x : Subtrees) → first_spoilt u e x ≡ record_count x → sound u e (mended u x) ≡ true
mended_sound u n a e no_subtree h = rw (mended_none u) (sound_empty u e)
mended_sound u n a e (subtree r kids rest) h =
    let w = mendable u e r kids rest h in
    let l = line_parts u e r kids w.line in
    let others = mended_sound u n a (rank_at r 0) rest w.others in
    by (sound (as_parent u r 0) 0 kids)
    (λ k. rw (mended_kept u r kids rest k) (parts_sound u e r kids (mended u rest) l.0 l.1 l.2 k others))
    (λ k. let q = replaceable_rank u e r kids (then_replaceable _ _ w.within k) in
    let z = child_rank u e r 0 (child_parts u e r l.1) in
    rw (mended_new u r kids rest k)
    (parts_sound u e deny_policy (subtree deny_rule no_subtree no_subtree) (mended u rest) (rw rule_count deny_policy_lem) (policy_stands u e n a (omega (arith, q, z)))
    (no_operands _).0 (rule_sound u a) (rw deny_rank (rw q at others))))

-- and they are no longer: a child that is replaced has a bad line below its own
pub count_mended : (u : Parent) (x : Subtrees) → record_count (mended u x) ≤ record_count x
count_mended u no_subtree = rw (mended_none u) (omega arith)
count_mended u (subtree r kids rest) =
    let c = count_mended u rest in
    let g = count_subtree r kids rest in
    by (sound (as_parent u r 0) 0 kids)
    (λ k. rw (mended_kept u r kids rest k) (let d = count_subtree r kids (mended u rest) in omega (arith, c, g, d)))
    (λ k. rw (mended_new u r kids rest k)
    (let d = count_subtree deny_policy (subtree deny_rule no_subtree no_subtree) (mended u rest) in
    let m = rule_count in
    let s = bad_inside (as_parent u r 0) 0 kids k in
    omega (arith, c, g, d, m, s)))

-- nor is more replaced than there are records
pub count_replaced : (u : Parent) (line : ℕ) (x : Subtrees) → length (replacements u line x) ≤ record_count x
count_replaced u line no_subtree = rw (replaced_none u line) (omega arith)
count_replaced u line (subtree r kids rest) =
    let c = count_replaced u (line + suc (record_count kids)) rest in
    let g = count_subtree r kids rest in
    by (sound (as_parent u r 0) 0 kids)
    (λ k. rw (replaced_kept u r kids rest line k) (omega (arith, c, g)))
    (λ k. rw (replaced_new u r kids rest line k) (omega (arith, c, g)))

-- sound children stay, and none is replaced
pub sound_stays : (u : Parent) (e : ℕ) (x : Subtrees) → sound u e x ≡ true → mended u x ≡ x
sound_stays u e no_subtree h = mended_none u
sound_stays u e (subtree r kids rest) h =
    let z = sound_parts u e r kids rest h in
    rw (mended_kept u r kids rest z.3, sound_stays u (rank_at r 0) rest z.4) refl

pub none_replaced : (u : Parent) (e line : ℕ) (x : Subtrees) → sound u e x ≡ true → replacements u line x ≡ []
none_replaced u e line no_subtree h = replaced_none u line
none_replaced u e line (subtree r kids rest) h =
    let z = sound_parts u e r kids rest h in
    rw (replaced_kept u r kids rest line z.3) (none_replaced u (rank_at r 0) (line + suc (record_count kids)) rest z.4)
