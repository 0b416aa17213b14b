-- A policy or set within a set is a book by itself, one level down or more: the claims of `specs/Claims.antt` on that. Assumes nothing.
use mathlib.Core.Path.{◌≡◌, refl, sym, ◌∙◌}
use mathlib.Core.Bool.{true}
use mathlib.Core.List.{List}
use mathlib.Core.Logic.{⊎_elim}
use Prim.Native.Nat.{ℕ, suc, ◌+◌, ◌-◌, ◌≤◌, ◌<◌}
use native.Mathlib.Omega.{arith}
use borrow.Author.Tests.{eqb-true, le-leb, leb-true}
use lib.Dec.{leb}
use Rattle.record.specs.Choose.{among}
use Rattle.record.specs.Bytes.{byte_of, span_of}
use Rattle.record.specs.Forest.{Forest, none, node, forest, height}
use Rattle.record.proofs.Choose.{both_right}
use Rattle.record.proofs.Forests.{span_stated, forest_step}
use Rattle.fields.specs.Fields.{kind_at}
use Rattle.fields.specs.declared.Kind.{Kind}
use Rattle.fields.specs.declared.Kind.TheVariants.{PolicySet, Policy}
use Rattle.placement.specs.Place.{most_depth, kind_number, rank_at, stands_ok}
use Rattle.placement.proofs.Laws.{stands_parts, all_but}
use Rattle.judge.proofs.Sound.{under_is}
use Rattle.structure.specs.Subtrees.{Subtrees, record_at, subtrees_in, subtrees_of}
use Rattle.structure.specs.Sound.{Parent, as_parent, line_one, operands_in, sound, sound_at}
use Rattle.structure.specs.Claims.{PolicyIsBook, BookMayStand}
use Rattle.structure.proofs.Records.{policy_kind, record_but_span, child_parts, parts_child, kind_same, later_byte}
use Rattle.structure.proofs.Sound.{first_of, of_first, sound_parts, parts_sound, sound_none}
use Rattle.structure.proofs.Parts.{book_of_lem, of_book}

-- the parent's parent is asked only of a match, which only a conjunction takes
stands_under : (p : ℕ) (k : Kind) (c e g h : ℕ) → (p ≡ 5 → h ≡ g) → stands_ok p k c e g ≡ true → stands_ok p k c e h ≡ true
stands_under p k c e g h q x =
    let v = stands_parts p k c e g x in
    sym (all_but p k c e h refl v.0 refl refl v.1 refl)
    ∙ under_is k h c (λ m. q (eqb-true p 5 (rw m at v.0)) ∙ eqb-true g c (rw m at v.2))

-- the same parent with other levels above, within another
abbrev moved : Parent → ℕ → ℕ → Parent
moved u a g = record { above = a; number = u.number; category = u.category; grand = g }

-- sound subtrees are within the depth
deep : (u : Parent) (e : ℕ) (b : List ℕ) (f : Forest) → sound u e (subtrees_in b f) ≡ true → u.above ≤ most_depth → u.above + height f ≤ most_depth
unfolding subtrees_in height
deep u e b none h l = omega arith
deep u e b (node i kids rest) h l =
    let z = sound_parts u e (record_at b i) (subtrees_in b kids) (subtrees_in b rest) h in
    let w = child_parts u e (record_at b i) z.1 in
    let k = deep (as_parent u (record_at b i) 0) 0 b kids z.3 (omega (arith, w.deep)) in
    let r = deep u _ b rest z.4 l in
    omega (arith, k, r)

-- and they are sound wherever they are within it
move : (u : Parent) (a g e : ℕ) (b : List ℕ) (f : Forest) → (u.number ≡ 5 → g ≡ u.grand) → a + height f ≤ most_depth → sound u e (subtrees_in b f) ≡ true
    → sound (moved u a g) e (subtrees_in b f) ≡ true
unfolding subtrees_in height sound
move u a g e b none q l h = refl
move u a g e b (node i kids rest) q l h =
    let r : List ℕ = record_at b i in
    let z = sound_parts u e r (subtrees_in b kids) (subtrees_in b rest) h in
    let w = child_parts u e r z.1 in
    parts_sound (moved u a g) e r (subtrees_in b kids) (subtrees_in b rest) z.0
    (parts_child (moved u a g) e r (record { stands = stands_under u.number (kind_at r 0) (byte_of r 0 4) e u.grand g q w.stands; deep = omega arith })) z.2
    (move (as_parent u r 0) (a + 1) u.category 0 b kids (λ x. refl) (omega arith) z.3)
    (move u a g (rank_at r 0) b rest q (omega arith) z.4)

-- line 1 of a book, by the place where it stands
line_at : (b : List ℕ) (i : ℕ) → line_one (record_at b i) ≡ record { above = 1; number = kind_number (kind_at b i); category = byte_of b i 4; grand = byte_of b i 4 }
line_at b i = rw (kind_same (record_at b i) 0 b i (record_but_span b i), later_byte (record_at b i) 0 b i (record_but_span b i) 4 (omega arith) (omega arith)) refl

not_five : (n : ℕ) → among 1 2 n ≡ true → n ≡ 5 → ⊥
not_five n a e = omega (arith, leb-true n 2 (both_right (leb 1 n) (leb n 2) a))

height_below : (b : List ℕ) (i s : ℕ) → 0 < s → span_of b i ≡ s → suc (height (forest b (i + 1) (s - 1))) ≤ height (forest b i s)
unfolding height
height_below b i s h e = rw (forest_step b i s h, span_stated b i s (omega arith) (omega arith), e) (omega arith)

pub policy_is_book : PolicyIsBook
unfolding sound_at subtrees_of
policy_is_book u e b i some kind x =
    let s : ℕ = span_of b i in
    let w = first_of u e b i s (omega arith) x in
    let l = w.child.deep in
    let d = deep (as_parent u b i) 0 b (forest b (i + 1) (s - 1)) w.kids (omega arith) in (
      of_book b i s (record {
        some = some;
        fields = w.fields;
        span = refl;
        kind = kind;
        below = rw (line_at b i) (move (as_parent u b i) 1 (byte_of b i 4) 0 b (forest b (i + 1) (s - 1)) (λ q. absurd (not_five _ kind q)) (omega arith) w.kids);
      }),
      deep u e b (forest b i s) x (omega arith),
    )

-- a policy or set may stand in a set before its obligations
policy_stands : (k : Kind) (c e g : ℕ) → among 1 2 (kind_number k) ≡ true → e < 6 → stands_ok 1 k c e g ≡ true
unfolding stands_ok
policy_stands k c e g a l =
    let o = le-leb (e + 0) 5 (omega arith) in
    ⊎_elim (λ (q : k ≡ PolicySet). rw (q, o) refl) (λ (q : k ≡ Policy). rw (q, o) refl) (policy_kind k a)

-- and wants no operands
pub policy_operands : (r : List ℕ) (kids : Subtrees) → among 1 2 (kind_number (kind_at r 0)) ≡ true → operands_in r kids ≡ true
unfolding operands_in
policy_operands r kids a = ⊎_elim (λ (q : kind_at r 0 ≡ PolicySet). rw q refl) (λ (q : kind_at r 0 ≡ Policy). rw q refl) (policy_kind (kind_at r 0) a)

pub book_may_stand : BookMayStand
unfolding sound_at subtrees_of
book_may_stand u e b i s set l x d =
    let w = book_of_lem b i s x in
    let some = w.some in
    let span = w.span in
    let h = height_below b i s some span in
    let below = rw (line_at b i) at w.below in
    let kids = move _ (u.above + 1) u.category 0 b (forest b (i + 1) (s - 1)) (λ q. absurd (not_five _ w.kind q)) (omega arith) below in
    of_first u e b i s (record {
      fields = w.fields;
      some = omega arith;
      within = omega arith;
      child = record { stands = rw set (policy_stands (kind_at b i) (byte_of b i 4) e u.grand w.kind l); deep = omega arith };
      operands = policy_operands (record_at b i) _ (rw (kind_same (record_at b i) 0 b i (record_but_span b i)) w.kind);
      kids = rw span kids;
      rest = sound_none u (rank_at b i) b (i + span_of b i) (s - span_of b i) (omega arith);
    })
