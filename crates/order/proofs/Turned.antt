-- A row of parts that is reordered where it stands is as sound as before, and is read as its parts are, each by its own bytes. Assumes nothing.
use Prim.Native.Nat.{ℕ, ◌+◌, ◌-◌, ◌≤◌, ◌<◌}
use mathlib.Core.Path.{◌≡◌, refl, sym, ap, ◌∙◌}
use mathlib.Core.Bool.{Bool, true, false}
use mathlib.Core.List.{List, [], ◌∷◌, ◌++◌, append_assoc}
use native.Mathlib.Omega.{arith}
use lib.Dec.{eqb}
use borrow.Author.Tests.{eqb-true}
use Rattle.record.specs.Choose.{if, both, among}
use Rattle.record.specs.Bytes.{byte_of, span_of}
use Rattle.record.specs.Forest.{none, node, span_in, forest}
use Rattle.record.proofs.Choose.{no_false}
use Rattle.record.proofs.Forests.{span_stated, forest_none, forest_more}
use Rattle.fields.specs.Fields.{kind_of, kind_at}
use Rattle.fields.specs.declared.Kind.{Kind}
use Rattle.fields.specs.declared.Kind.TheVariants.{PolicySet, Policy, Rule as RuleKind, Nothing}
use Rattle.fields.proofs.First.{by}
use Rattle.placement.specs.Place.{takes_of, rank_of, rank_at, rise_of}
use Rattle.placement.proofs.Laws.{stands_parts, all_but}
use Rattle.meaning.specs.Policy.{Rule, Obligation, Tree, Trees, no_tree, tree}
use Rattle.meaning.specs.Reading.{is_kind, is_party, target_in, rules_in, obligations_in, trees_in}
use Rattle.structure.specs.Subtrees.{no_subtree, subtree, record_at, subtrees_in, subtrees_of, joined, SameRecord, SameRecords}
use Rattle.structure.specs.Sound.{Parent, rank_after, sound_at}
use Rattle.structure.specs.ReadAlike.{ReadAlike}
use Rattle.structure.proofs.Records.{MayStand, span_same}
use Rattle.structure.proofs.Subtrees.{same_first}
use Rattle.structure.proofs.Sound.{first_of, of_first, rank_is, rank_of_lem, child_rank, sound_lower, sound_joined}
use Rattle.structure.proofs.Parts.{by_own_bytes}
use Rattle.structure.proofs.ReadAlike.{same_is_read_alike}
use Rattle.order.specs.Reordered.{Reordered, none as no_part, keep, swap, then}
use Rattle.order.specs.Rearranged.{listed}
use Rattle.order.specs.Books.{moves, movable}
use Rattle.order.proofs.Reordered.{behind, gather, gather_reordered}
use Rattle.order.proofs.Rows.{Part, Standing, end, next, RowTurned}

-- sections and obligations are not moved
unlike : (n m : ℕ) → moves n ≡ true → moves m ≡ false → eqb n m ≡ false
unlike n m h q = by (eqb n m) (λ t. no_false (sym q ∙ (rw (eqb-true n m t) at h))) (λ t. t)

module _ (d : List ℕ) (i : ℕ) (h : movable d i ≡ true) where
  no_section : is_kind d i 4 ≡ false
  no_section = unlike (byte_of d i 0) 4 h refl

  no_obligation : is_kind d i 8 ≡ false
  no_obligation = unlike (byte_of d i 0) 8 h refl

-- what the place rules say of a kind whose records may be moved, with category c, below a parent of number p
record Moves (p : ℕ) (k : Kind) (c : ℕ) : Type 0 where
  rank : rank_of k c ≡ 5
  rise : rise_of p k ≡ 0
  taken : takes_of p k ≡ true → among 1 2 p ≡ true

-- also where the choice is not in the table
or_nothing : (p : ℕ) (k : Kind) (c : ℕ) → Moves p k c → (t : Bool) → Moves p (if t k Nothing) c
or_nothing p k c w true = w
or_nothing p k c w false = record { rank = refl; rise = refl; taken = no_false }

of_three : (P : ℕ → Type 0) → P 1 → P 2 → P 3 → (n : ℕ) → moves n ≡ true → P n
of_three P x y z n h =
    by (eqb n 3) (λ t. rw (eqb-true n 3 t) z)
    (λ t. by (eqb n 1) (λ u. rw (eqb-true n 1 u) x) (λ u. rw (eqb-true n 2 (rw (t, u) at h)) y))

module _ (d : List ℕ) (i : ℕ) (h : movable d i ≡ true) where
  as_kind : (p : ℕ) → Moves p (kind_at d i) (byte_of d i 4)
  unfolding kind_at kind_of
  as_kind p =
      let c : ℕ = byte_of d i 4 in
      let choice : ℕ = byte_of d i 1 in
      of_three (λ (n : ℕ). Moves p (kind_of n choice) c)
      (or_nothing p PolicySet c (record { rank = refl; rise = refl; taken = λ t. rw (eqb-true p 1 t) refl }) (among 1 4 choice))
      (or_nothing p Policy c (record { rank = refl; rise = refl; taken = λ t. rw (eqb-true p 1 t) refl }) (among 1 3 choice))
      (or_nothing p RuleKind c (record { rank = refl; rise = refl; taken = λ t. rw (eqb-true p 2 t) refl }) (among 1 2 choice)) (byte_of d i 0) h

  rank_five : rank_at d i ≡ 5
  rank_five = sym (rank_of_lem d i) ∙ (as_kind 0).rank

  -- a child of u that may be moved may stand after another such child
  module _ (u : Parent) (e : ℕ) (w : MayStand u e d i) where
    parent_takes : among 1 2 u.number ≡ true
    parent_takes = (as_kind u.number).taken (stands_parts u.number (kind_at d i) (byte_of d i 4) e u.grand w.stands).0

    may_follow : MayStand u 5 d i
    may_follow =
        let m = as_kind u.number in
        let v = stands_parts u.number (kind_at d i) (byte_of d i 4) e u.grand w.stands in
        record {
          stands = sym (all_but u.number (kind_at d i) (byte_of d i 4) 5 u.grand refl v.0 refl refl (omega (arith, m.rank, m.rise)) refl) ∙ v.2;
          deep = w.deep;
        }

-- sound records of which the first may be moved
record MovesFirst (u : Parent) (e : ℕ) (d : List ℕ) (i left : ℕ) : Type 0 where
  parent : among 1 2 u.number ≡ true
  most : e ≤ 5
  follow : sound_at u 5 d i left ≡ true

moves_first : (u : Parent) (e : ℕ) (d : List ℕ) (i left : ℕ) → 0 < left → movable d i ≡ true → sound_at u e d i left ≡ true → MovesFirst u e d i left
moves_first u e d i left l h x =
    let w = first_of u e d i left l x in
    record {
      parent = parent_takes d i h u e w.child;
      most = omega (arith, child_rank u e d i w.child, rank_five d i h);
      follow = of_first u 5 d i left (record {
        fields = w.fields;
        some = w.some;
        within = w.within;
        child = may_follow d i h u e w.child;
        operands = w.operands;
        kids = w.kids;
        rest = w.rest;
      });
    }

-- records of d that begin with the part x
record Begins (x d : List ℕ) (i left : ℕ) : Type 0 where
  part : Part x
  same : SameRecords x 0 d i (span_of x 0)
  within : span_of x 0 ≤ left

module _ {x d : List ℕ} {i left : ℕ} (w : Begins x d i left) where
  head : SameRecord x 0 d i
  head = let s = w.part.some in same_first x 0 d i (span_of x 0) w.same (omega arith)

  head_moves : movable d i ≡ true
  head_moves = rw (← head 0 (omega arith)) w.part.moves

  head_span : (k : ℕ) → span_of x 0 ≤ k → span_of x 0 ≡ span_in d i k
  head_span k l =
      let s = w.part.some in
      let e = span_same x 0 d i head in
      e ∙ sym (span_stated d i k (omega arith) (omega arith))

  whole : forest d i left ≡ node i (forest d (i + 1) (span_of x 0 - 1)) (forest d (i + span_of x 0) (left - span_of x 0))
  whole = let s = w.part.some in let l = w.within in forest_more d i left (omega arith) (head_span left l)

  own : forest d i (span_of x 0) ≡ node i (forest d (i + 1) (span_of x 0 - 1)) none
  own =
      let s : ℕ = span_of x 0 in
      let l = w.part.some in
      rw (← forest_none d (i + s) (s - s) (omega arith)) (forest_more d i s (omega arith) (head_span s (omega arith)))

  alike : ReadAlike x (forest x 0 (span_of x 0)) d (forest d i (span_of x 0))
  alike = same_is_read_alike x 0 d i (span_of x 0) w.same

  no_target : target_in d (forest d i left) ≡ []
  unfolding target_in
  no_target = rw (whole, no_section d i head_moves) refl

-- what is read of records that begin with a part is what is read of the part, by itself, with what is read of the others
abbrev Joins : {A : Type 0} → (List ℕ → ℕ → ℕ → A) → (A → A → A) → Type 0
Joins f with = (x d : List ℕ) (i left : ℕ) → Begins x d i left → f d i left ≡ with (f x 0 (span_of x 0)) (f d (i + span_of x 0) (left - span_of x 0))

abbrev rules_at : List ℕ → ℕ → ℕ → List Rule
rules_at d i left = rules_in d (forest d i left)

abbrev trees_at : List ℕ → ℕ → ℕ → List Tree
trees_at d i left = listed (trees_in d (forest d i left))

abbrev obligations_at : List ℕ → ℕ → ℕ → List Obligation
obligations_at d i left = obligations_in d (forest d i left)

if_rule : (t : Bool) (r : Rule) (rs : List Rule) → if t (r ∷ rs) rs ≡ if t (r ∷ []) [] ++ rs
if_rule true r rs = refl
if_rule false r rs = refl

if_tree : (t : Bool) (n : Tree) (ns : Trees) → listed (if t (tree n ns) ns) ≡ listed (if t (tree n no_tree) no_tree) ++ listed ns
unfolding listed
if_tree true n ns = refl
if_tree false n ns = refl

rules_join : Joins rules_at ◌++◌
unfolding rules_in
rules_join x d i left w = rw ((alike w).rules, own w, whole w) (if_rule (is_kind d i 3) _ _)

trees_join : Joins trees_at ◌++◌
unfolding trees_in
trees_join x d i left w = rw ((alike w).policies, own w, whole w) (if_tree (is_party d i) _ _)

obligations_join : Joins obligations_at (λ p r. r)
unfolding obligations_in
obligations_join x d i left w = rw (whole w, no_obligation d i (head_moves w)) refl

sound_join : (u : Parent) → Joins (sound_at u 5) both
unfolding sound_at subtrees_of subtrees_in joined rank_after
sound_join u x d i left w =
    let s : ℕ = span_of x 0 in
    let r : List ℕ = record_at d i in
    let f : rank_at r 0 ≡ 5 = rank_is d i ∙ rank_five d i (head_moves w) in
    rw (by_own_bytes u 5 x 0 d i s w.same, own w, whole w)
    (rw f at (sound_joined u 5 (subtree r (subtrees_of d (i + 1) (s - 1)) no_subtree) (subtrees_of d (i + s) (left - s))))

standing_end : {d : List ℕ} {i e : ℕ} {xs : List (List ℕ)} → Standing d i e xs → i ≤ e
standing_end end = omega arith
standing_end (next p h s) = omega (arith, standing_end s)

begins : {d : List ℕ} {i e : ℕ} {x : List ℕ} {xs : List (List ℕ)} (left : ℕ) → Part x → SameRecords x 0 d i (span_of x 0) → Standing d (i + span_of x 0) e xs
    → e ≤ i + left → Begins x d i left
begins left p h s l = record { part = p; same = h; within = omega (arith, standing_end s) }

row_begins : {d : List ℕ} {i e : ℕ} {xs : List (List ℕ)} (left : ℕ) → Standing d i e xs → i < e → e ≤ i + left → (x : List ℕ) × Begins x d i left
row_begins left end some l = absurd (omega arith)
row_begins left (next {x = x} p h s) some l = (x, begins left p h s l)

-- what is read of each part of a row, with what is read of the others
abbrev joined_to : {A : Type 0} → (List ℕ → ℕ → ℕ → A) → (A → A → A) → List (List ℕ) → A → A
joined_to f with [] r = r
joined_to f with (x ∷ xs) r = with (f x 0 (span_of x 0)) (joined_to f with xs r)

module _ {A : Type 0} (f : List ℕ → ℕ → ℕ → A) (with : A → A → A) where
  row_joins : Joins f with → {d : List ℕ} {i e : ℕ} {xs : List (List ℕ)} (left : ℕ) → Standing d i e xs → e ≤ i + left
      → f d i left ≡ joined_to f with xs (f d e (i + left - e))
  row_joins join {d} {i} left end l = let q : i + left - i ≡ left = omega arith in rw q refl
  row_joins join {d} {i} {e} left (next {x = x} {xs = xs} p h s) l =
      let w = begins left p h s l in
      let k : ℕ = span_of x 0 in
      let q : i + k + (left - k) - e ≡ i + left - e = omega (arith, w.within) in
      join x d i left w ∙ ap (with (f x 0 k)) (rw q at (row_joins join (left - k) s (omega (arith, w.within))))

  joins_reordered : ((p q r : A) → with p (with q r) ≡ with q (with p r)) → {xs ys : List (List ℕ)} → Reordered (List ℕ) xs ys → (r : A)
      → joined_to f with xs r ≡ joined_to f with ys r
  joins_reordered swaps no_part r = refl
  joins_reordered swaps (keep {x} o) r = ap (with (f x 0 (span_of x 0))) (joins_reordered swaps o r)
  joins_reordered swaps (swap {x} {y} {xs}) r = swaps (f x 0 (span_of x 0)) (f y 0 (span_of y 0)) (joined_to f with xs r)
  joins_reordered swaps (then o v) r = joins_reordered swaps o r ∙ joins_reordered swaps v r

joins_gathered : {B : Type 0} (f : List ℕ → ℕ → ℕ → List B) (xs : List (List ℕ)) (r : List B)
    → joined_to f ◌++◌ xs r ≡ gather (λ x. f x 0 (span_of x 0)) xs ++ r
joins_gathered f [] r = refl
joins_gathered f (x ∷ xs) r = rw (joins_gathered f xs r, append_assoc) refl

both_swap : (p q r : Bool) → both p (both q r) ≡ both q (both p r)
both_swap true q r = refl
both_swap false true r = refl
both_swap false false r = refl

-- a row of b, and in c a reordering of it at the same records
record TwoRows (b c : List ℕ) (i last left : ℕ) (before after : List (List ℕ)) : Type 0 where
  within : last ≤ i + left
  old : Standing b i last before
  new : Standing c i last after
  order : Reordered (List ℕ) before after

module _ {b c : List ℕ} {i last left : ℕ} {before after : List (List ℕ)} (t : TwoRows b c i last left before after) where
  same_turned : {A : Type 0} (f : List ℕ → ℕ → ℕ → A) (with : A → A → A) → Joins f with → ((p q r : A) → with p (with q r) ≡ with q (with p r))
      → f b last (i + left - last) ≡ f c last (i + left - last) → f b i left ≡ f c i left
  same_turned f with join swaps q =
      row_joins f with join left t.old t.within
      ∙ ap (joined_to f with before) q
      ∙ joins_reordered f with swaps t.order (f c last (i + left - last))
      ∙ sym (row_joins f with join left t.new t.within)

  list_turned : {B : Type 0} (f : List ℕ → ℕ → ℕ → List B) → Joins f ◌++◌ → f b last (i + left - last) ≡ f c last (i + left - last)
      → Reordered B (f b i left) (f c i left)
  list_turned f join q =
      rw (row_joins f ◌++◌ join left t.old t.within, row_joins f ◌++◌ join left t.new t.within, q, joins_gathered f before, joins_gathered f after)
      (behind (f c last (i + left - last)) (gather_reordered (λ x. f x 0 (span_of x 0)) t.order))

pub row_turned : (u : Parent) (e : ℕ) (b c : List ℕ) (i last left : ℕ) (before after : List (List ℕ)) → i < last → last ≤ i + left → sound_at u e b i left ≡ true
    → Standing b i last before → Standing c i last after → Reordered (List ℕ) before after → SameRecords b last c last (i + left - last)
    → RowTurned u e b c i left
unfolding sound_at
row_turned u e b c i last left before after some within x old new order tail =
    let k : ℕ = i + left - last in
    let t : TwoRows b c i last left before after = record { within = within; old = old; new = new; order = order } in
    let v = (row_begins left old some within).1 in
    let w = (row_begins left new some within).1 in
    let m = moves_first u e b i left (omega arith) (head_moves v) x in
    let same = same_is_read_alike b last c last k tail in
    let follow = same_turned t (sound_at u 5) both (sound_join u) both_swap (by_own_bytes u 5 b last c last k tail) in
    record {
      sound = sound_lower u 5 e (subtrees_of c i left) m.most (sym follow ∙ m.follow);
      parent = m.parent;
      target = no_target v ∙ sym (no_target w);
      rules = list_turned t rules_at rules_join same.rules;
      obligations = same_turned t obligations_at (λ p r. r) obligations_join (λ p q r. refl) same.obligations;
      trees = list_turned t trees_at trees_join (ap listed same.policies);
    }
