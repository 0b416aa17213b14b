-- A row of neighbouring parts is reordered, at any depth: the book keeps the rules then too, and its tree is rearranged. Assumes nothing.
use Prim.Native.Nat.{ℕ, zero, suc, ◌+◌, ◌-◌, ◌/◌, ◌≤◌, ◌<◌}
use mathlib.Core.Path.{◌≡◌, refl, sym, ap, ◌∙◌}
use mathlib.Core.Bool.{Bool, true, false}
use mathlib.Core.List.{List}
use mathlib.Core.Logic.{⊎_elim}
use native.Mathlib.Nat.{eq-or-lt_of_le}
use native.Mathlib.Omega.{arith}
use lib.Dec.{eqb, ltb}
use lib.ListN.{length}
use borrow.Author.Tests.{lt-ltb, ltb-true, ltb-false, eqb-true}
use Rattle.record.specs.Choose.{if, among}
use Rattle.record.specs.Bytes.{size, byte_of, span_of}
use Rattle.record.specs.Forest.{node, forest}
use Rattle.record.proofs.Choose.{no_false}
use Rattle.record.proofs.Forests.{span_stated, forest_more}
use Rattle.fields.specs.Fields.{kind_of, kind_at}
use Rattle.fields.specs.declared.Kind.{Kind}
use Rattle.fields.specs.declared.Kind.TheVariants.{PolicySet, Policy, Rule as RuleKind, Section as SectionKind, Nothing}
use Rattle.fields.proofs.First.{by}
use Rattle.operands.specs.Parent.{end_of, parent_of}
use Rattle.operands.proofs.Parent.{span_end, parent_ge, parent_of_lem, parent_is_innermost}
use Rattle.meaning.specs.Policy.{Tree}
use Rattle.meaning.specs.Reading.{is_kind, tree_at, trees_in, book_of}
use Rattle.placement.specs.Place.{kind_number, takes_of, rank_at}
use Rattle.placement.specs.Keeps.{Sized, Keeps}
use Rattle.placement.proofs.Laws.{stands_parts, top_ok_lem}
use Rattle.judge.proofs.Sound.{top_kept}
use Rattle.structure.specs.Subtrees.{record_at, subtrees_of, SameRecord, SameRecords, SameButSpan}
use Rattle.structure.specs.Sound.{Parent, as_parent, line_one, operands_in, sound_at}
use Rattle.structure.proofs.Records.{policy_kind, kind_same, rank_same, parent_same, line_same, but_span, span_same, field_same, record_bytes, record_length, record_but_span, stand_same}
use Rattle.structure.proofs.Subtrees.{same_first, record_is, subtrees_same}
use Rattle.structure.proofs.Sound.{FirstChild, first_of, of_first, ends_f}
use Rattle.structure.proofs.Accepted.{kept_below, below_kept}
use Rattle.structure.proofs.Parts.{by_own_bytes}
use Rattle.structure.proofs.Books.{policy_operands}
use Rattle.structure.proofs.ReadAlike.{AlikeForests, subtrees_alike, same_is_read_alike}
use Rattle.order.specs.Books.{party_at}
use Rattle.order.specs.Rearranged.{Rearranged}
use Rattle.order.proofs.Rows.{RowMoved}
use Rattle.order.proofs.Turned.{row_turned}
use Rattle.order.proofs.Nodes.{here, ReadTurned, read_after, read_inside, tree_turned}

-- a policy or set is no rule and no section
no_party : (t : Bool) → (among 1 2 (kind_number (if t RuleKind Nothing)) ≡ false) × (among 1 2 (kind_number (if t SectionKind Nothing)) ≡ false)
no_party true = (refl, refl)
no_party false = (refl, refl)

party_byte : (k c : ℕ) → among 1 2 (kind_number (kind_of k c)) ≡ true → (eqb k 3 ≡ false) × (eqb k 4 ≡ false)
unfolding kind_of
party_byte k c e = (
  by (eqb k 3) (λ t. no_false (sym (no_party (among 1 2 c)).0 ∙ (rw (eqb-true k 3 t) at e))) (λ t. t),
  by (eqb k 4) (λ t. no_false (sym (no_party (among 0 0 c)).1 ∙ (rw (eqb-true k 4 t) at e))) (λ t. t),
)

party_only : (b : List ℕ) (i : ℕ) → among 1 2 (kind_number (kind_at b i)) ≡ true → (is_kind b i 3 ≡ false) × (is_kind b i 4 ≡ false)
unfolding kind_at
party_only b i e = party_byte (byte_of b i 0) (byte_of b i 1) e

-- and its parent is a set
takes_party : (n : ℕ) (k : Kind) → among 1 2 (kind_number k) ≡ true → takes_of n k ≡ true → among 1 2 n ≡ true
takes_party n k e t =
    let set : n ≡ 1 = eqb-true n 1 (⊎_elim (λ (q : k ≡ PolicySet). rw q at t) (λ (q : k ≡ Policy). rw q at t) (policy_kind k e)) in
    rw set refl

-- what becomes of `left` records from i on, children of u, which is record q
record LevelTurned (may : Tree → Bool) (p q : ℕ) (u : Parent) (e : ℕ) (b c : List ℕ) (i left : ℕ) : Type 0 where
  pub sound : sound_at u e c i left ≡ true
  pub parent : among 1 2 u.number ≡ true
  pub read : ReadTurned may p q b (forest b i left) c (forest c i left)

node_of : (b : List ℕ) (i left s : ℕ) → s ≡ span_of b i → 1 ≤ s → s ≤ left
    → forest b i left ≡ node i (forest b (i + 1) (s - 1)) (forest b (i + s) (left - s))
node_of b i left s e h l = forest_more b i left (omega arith) (e ∙ sym (span_stated b i left (omega arith) (omega arith)))

alike : (b c : List ℕ) (i s : ℕ) → SameRecords b i c i s → AlikeForests b c (forest b i s) (forest c i s)
unfolding subtrees_of
alike b c i s h = subtrees_alike b c (forest b i s) (forest c i s) (subtrees_same b i c i s h)

-- the first of some sound records stays
module _ (u : Parent) (e : ℕ) (b c : List ℕ) (i left : ℕ) (w : FirstChild u e b i left) (h : SameRecord b i c i) where
  but : SameButSpan b i c i
  but = but_span b i c i h

  first_stays : operands_in (record_at c i) (subtrees_of c (i + 1) (span_of b i - 1)) ≡ true → sound_at (as_parent u b i) 0 c (i + 1) (span_of b i - 1) ≡ true
      → sound_at u (rank_at b i) c (i + span_of b i) (left - span_of b i) ≡ true → sound_at u e c i left ≡ true
  first_stays operands kids rest =
      let span : span_of b i ≡ span_of c i = span_same b i c i h in
      of_first u e c i left (record {
        fields = sym (field_same b i c i h) ∙ w.fields;
        some = rw span at w.some;
        within = rw span at w.within;
        child = stand_same b i c i h u e w.child;
        operands = rw span at operands;
        kids = rw (span, parent_same b i c i but u) at kids;
        rest = rw (span, rank_same b i c i but) at rest;
      })

  -- so does what is below it, and the row is after it
  module _ (may : Tree → Bool) (p q : ℕ) where
    level_after : SameRecords b (i + 1) c (i + 1) (span_of b i - 1) → LevelTurned may p q u (rank_at b i) b c (i + span_of b i) (left - span_of b i)
        → LevelTurned may p q u e b c i left
    level_after kept t =
        let s : ℕ = span_of b i in
        let own : record_at b i ≡ record_at c i = record_is b i (record_at c i) (record_length c i) (λ m o. h m o ∙ sym (record_bytes c i m o)) in
        record {
          sound = first_stays
              (rw (← own, ← subtrees_same b (i + 1) c (i + 1) (s - 1) kept) w.operands)
              (sym (by_own_bytes (as_parent u b i) 0 b (i + 1) c (i + 1) (s - 1) kept) ∙ w.kids)
              t.sound;
          parent = t.parent;
          read = rw (node_of b i left s refl w.some w.within, node_of c i left s (span_same b i c i h) w.some w.within)
              (read_after b c i _ _ _ _ but (alike b c (i + 1) (s - 1) kept) t.read);
        }

    -- the row is below it
    level_inside : may (party_at b p) ≡ true → SameRecords b (i + span_of b i) c (i + span_of b i) (left - span_of b i)
        → LevelTurned may p i (as_parent u b i) 0 b c (i + 1) (span_of b i - 1) → LevelTurned may p q u e b c i left
    level_inside lets after t =
        let s : ℕ = span_of b i in
        let kind : among 1 2 (kind_number (kind_at b i)) ≡ true = t.parent in
        let only = party_only b i kind in
        let own : kind_at b i ≡ kind_at (record_at c i) 0 = kind_same b i c i but ∙ sym (kind_same (record_at c i) 0 c i (record_but_span c i)) in
        record {
          sound = first_stays (policy_operands (record_at c i) _ (rw own at kind)) t.sound
              (sym (by_own_bytes u (rank_at b i) b (i + s) c (i + s) (left - s) after) ∙ w.rest);
          parent = takes_party u.number (kind_at b i) kind (stands_parts u.number (kind_at b i) (byte_of b i 4) e u.grand w.child.stands).0;
          read = rw (node_of b i left s refl w.some w.within, node_of c i left s (span_same b i c i h) w.some w.within)
              (read_inside b c i _ _ _ _ but only.0 only.1 (tree_turned may p b c i _ _ but (λ e. rw e lets) t.read)
              (same_is_read_alike b (i + s) c (i + s) (left - s) after));
        }

-- record q has `left` records below it from i on, and what it has before them ends before them
record Level (b : List ℕ) (q i left : ℕ) : Type 0 where
  pub after : q < i
  pub ends : end_of b q ≡ i + left
  pub inner : (j : ℕ) → q < j → j < i → end_of b j ≤ i

module _ (u : Parent) (e : ℕ) (b : List ℕ) (i left : ℕ) (w : FirstChild u e b i left) where
  kids_end : (j : ℕ) → i ≤ j → j < i + span_of b i → end_of b j ≤ i + span_of b i
  kids_end j a z =
      let some = w.some in
      let s : ℕ = span_of b i in
      ⊎_elim (λ (t : i ≡ j). omega (arith, span_end b i s refl, ap (end_of b) t))
      (λ (t : i < j). omega (arith, ends_f s (as_parent u b i) 0 b (i + 1) (s - 1) (omega arith) w.kids j (omega arith) (omega arith)))
      (eq-or-lt_of_le a)

  level_kids : Level b i (i + 1) (span_of b i - 1)
  level_kids =
      let some = w.some in
      record { after = omega arith; ends = span_end b i (span_of b i) refl ∙ omega arith; inner = λ j a z. absurd (omega arith) }

  level_rest : (q : ℕ) → Level b q i left → Level b q (i + span_of b i) (left - span_of b i)
  level_rest q l =
      let within = w.within in
      let ends = l.ends in
      let after = l.after in
      record {
        after = omega arith;
        ends = omega arith;
        inner = λ j a z. by (ltb j i) (λ t. omega (arith, l.inner j a (ltb-true j i t))) (λ t. kids_end j (ltb-false j i t) z);
      }

-- the tree of a book of n records
book_is : (b : List ℕ) (n : ℕ) → Sized b n → book_of b ≡ tree_at b 0 (forest b 1 (n - 1)) (trees_in b (forest b 1 (n - 1)))
unfolding book_of
book_is b n z = let bytes = z.bytes in let e : length b / size ≡ n = omega arith in rw e refl

-- c is b with a row of children of record p reordered
module _ (may : Tree → Bool) (b c : List ℕ) {n p first last : ℕ} {before after : List (List ℕ)} (moved : RowMoved b c n p first last before after)
    (lets : may (party_at b p) ≡ true) where
  same_before : (i s : ℕ) → i + s ≤ first → SameRecords b i c i s
  same_before i s l m x = let e : 0 + (i + m) ≡ i + m = omega arith in rw e at (moved.head (i + m) (omega arith))

  same_after : (i s : ℕ) → last ≤ i → i + s ≤ n → SameRecords b i c i s
  same_after i s a l m x = let e : last + (i + m - last) ≡ i + m = omega arith in rw e at (moved.tail (i + m - last) (omega arith))

  level_here : (u : Parent) (e q i left : ℕ) → Level b q i left → first ≡ i → last ≤ i + left → i + left ≤ n → sound_at u e b i left ≡ true
      → LevelTurned may p q u e b c i left
  level_here u e q i left l begins z top x =
      let some = moved.some in
      let ends = l.ends in
      let q_is : parent_of b i ≡ q = parent_is_innermost b q i l.after (omega arith) l.inner in
      let p_is : parent_of b i ≡ p = rw begins at moved.parent in
      let t = row_turned u e b c i last left before after (omega arith) z x (rw begins at moved.old) (rw begins at moved.new) moved.order
      (same_after last (i + left - last) (omega arith) (omega arith)) in
      record {
        sound = t.sound;
        parent = t.parent;
        read = record { target = t.target; obligations = t.obligations; turned = here (sym q_is ∙ p_is) t.rules t.trees };
      }

  -- a row that begins below record i ends below it
  row_within : (u : Parent) (e i left : ℕ) → FirstChild u e b i left → i < first → first < i + span_of b i → last ≤ i + span_of b i
  row_within u e i left w l z =
      let parent = moved.parent in
      let cover = lt-ltb first (end_of b i) (omega (arith, span_end b i (span_of b i) refl)) in
      let above = parent_of_lem b first i l cover in
      let from = parent_ge b first i l cover in
      omega (arith, moved.within, kids_end u e b i left w p (omega arith) (omega arith))

  -- the row begins here, below the first record or after it
  level_f : (f : ℕ) (u : Parent) (e q i left : ℕ) → left ≤ f → Level b q i left → i ≤ first → last ≤ i + left → i + left ≤ n → sound_at u e b i left ≡ true
      → LevelTurned may p q u e b c i left
  level_f zero u e q i left f l a z top x = absurd (omega (arith, moved.some))
  level_f (suc g) u e q i left f l a z top x =
      ⊎_elim (λ (t : i ≡ first). level_here u e q i left l (sym t) z top x)
      (λ (t : i < first).
      let some = moved.some in
      let w = first_of u e b i left (omega arith) x in
      let own = w.some in
      let within = w.within in
      let s : ℕ = span_of b i in
      let h = same_first b i c i 1 (same_before i 1 (omega arith)) (omega arith) in
      by (ltb first (i + s))
      (λ d. let inside = row_within u e i left w t (ltb-true first (i + s) d) in
      level_inside u e b c i left w h may p q lets (same_after (i + s) (left - s) inside (omega arith))
      (level_f g (as_parent u b i) 0 i (i + 1) (s - 1) (omega arith) (level_kids u e b i left w) (omega arith) (omega arith) (omega arith) w.kids))
      (λ d. let behind = ltb-false first (i + s) d in
      level_after u e b c i left w h may p q (same_before (i + 1) (s - 1) (omega arith))
      (level_f g u (rank_at b i) q (i + s) (left - s) (omega arith) (level_rest u e b i left w q l) behind (omega arith) (omega arith) w.rest)))
      (eq-or-lt_of_le a)

  -- it keeps the rules, and its tree is the book's, rearranged
  pub book_turned : Keeps b n → Keeps c n × Rearranged may (book_of b) (book_of c)
  book_turned k =
      let a = kept_below b n k in
      let z = moved.below in
      let some = k.sized.some in
      let sized : Sized c n = record { bytes = moved.long ∙ k.sized.bytes; some = some; most = k.sized.most } in
      let top = top_kept b n k.sized a.place in
      let own = same_first b 0 c 0 first moved.head z in
      let but : SameButSpan b 0 c 0 = but_span b 0 c 0 own in
      let ends = span_end b 0 n (sym top.1) in
      let level : Level b 0 1 (n - 1) = record { after = omega arith; ends = omega arith; inner = λ j x y. absurd (omega arith) } in
      let kind = rw (kind_same b 0 c 0 but) at top.0 in
      let span = sym (span_same b 0 c 0 own) ∙ top.1 in
      let t = level_f (n - 1) (line_one b) 0 0 1 (n - 1) (omega arith) level z (omega (arith, moved.inside)) (omega arith) a.sound in (
        below_kept c n (record {
          sized = sized;
          fields = sym (field_same b 0 c 0 own) ∙ a.fields;
          place = top_ok_lem c {n = n} (omega arith) sized.bytes refl refl refl kind refl span;
          sound = rw (line_same b c but) at t.sound;
        }),
        rw (book_is b n k.sized, book_is c n sized) (tree_turned may p b c 0 _ _ but (λ e. rw (← e, top.1) at lets) t.read),
      )
