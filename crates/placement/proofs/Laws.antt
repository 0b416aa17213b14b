-- Laws of the place rules: what the walk knows says what the lines' own definitions say. Assumes nothing.
use mathlib.Core.Path.{◌≡◌, refl, sym, ap, ◌∙◌}
use mathlib.Core.Bool.{Bool, true, false}
use mathlib.Core.List.{List}
use mathlib.Core.Logic.{⊎_elim, ◌⊎◌, inl, inr}
use Prim.Native.Nat.{ℕ, zero, suc, ◌+◌, ◌-◌, ◌*◌, ◌/◌, ◌≤◌, ◌<◌}
use native.Mathlib.Nat.{eq-or-lt_of_le}
use native.Mathlib.Omega.{arith}
use lib.Dec.{ltb, leb, eqb}
use lib.ListN.{length}
use borrow.Author.Tests.{lt-ltb, le-ltb, ltb-true, ltb-false, eq-eqb, ne_eqb, eqb-true, leb-true, le-leb}
use Rattle.record.specs.Choose.{if, both, either, among}
use Rattle.record.specs.Bytes.{size, byte_of, span_of}
use Rattle.record.proofs.Choose.{both_parts}
use Rattle.fields.specs.First.{last_below, count_below, first_from}
use Rattle.fields.specs.Fields.{kind_at, field_ok}
use Rattle.fields.specs.declared.Kind.{Kind}
use Rattle.fields.proofs.First.{by, last_is, last_ge, count_skip, count_one, count_same, first_here, first_next, first_le, first_past, first_in, first_all}
use Rattle.fields.proofs.Spans.{span_pos}
use Rattle.operands.specs.Parent.{end_of, covers, parent_of}
use Rattle.operands.specs.Operands.{operands_at}
use Rattle.placement.specs.Place.{most_depth, elder_of, depth_of, kind_number, takes_of, rise_of, under_ok, rank_of, rank_at, elder_rank, stands_ok, stands_at, child_rule, child_broken, top_ok, broken_at, place_ok}
use Rattle.operands.proofs.Parent.{span_end, end_after, parent_ge, parent_of_lem, parent_is_innermost}
use Rattle.placement.specs.Walk.{Walk, Finds, FirstBroken}
use Rattle.placement.specs.declared.Broken.{Broken}
use Rattle.std.specs.Prelude.{Option, None, Some}

apart : (a c : ℕ) → (a ≡ c) ⊎ ((a < c) ⊎ (c < a))
apart a c = by (ltb a c) (λ t. inr (inl (ltb-true a c t)))
    (λ t. ⊎_elim (λ (q : c ≡ a). inl (sym q)) (λ (q : c < a). inr (inr q)) (eq-or-lt_of_le (ltb-false a c t)))

-- where p covers i, and no record between does, i is one deeper where what covers p covers i
pub depth_under : (b : List ℕ) (p i : ℕ) → p < i → i < end_of b p → ((j : ℕ) → p < j → j < i → end_of b j ≤ i)
    → ((j : ℕ) → j < p → p < end_of b j → i < end_of b j) → depth_of b i ≡ depth_of b p + 1
unfolding depth_of
depth_under b p i h c g o =
    let skip : count_below (covers b i) i ≡ count_below (covers b i) (p + 1) =
    count_skip (covers b i) i (p + 1) (omega arith) (λ j a z. le-ltb i (end_of b j) (g j (omega arith) z)) in
    let one : count_below (covers b i) (p + 1) ≡ count_below (covers b i) p + 1 = count_one (covers b i) p (lt-ltb i (end_of b p) c) in
    let same : count_below (covers b i) p ≡ count_below (covers b p) p =
    count_same (covers b i) (covers b p) p (λ j z. by (ltb p (end_of b j))
    (λ t. lt-ltb i (end_of b j) (o j z (ltb-true p (end_of b j) t)) ∙ sym t)
    (λ t. le-ltb i (end_of b j) (omega (arith, ltb-false p (end_of b j) t)) ∙ sym t)) in
    omega arith

-- of a child that runs past its parent's end, nothing else is asked
rule_past : (end top d : ℕ) {u v : Bool} → (end ≤ top → u ≡ v) → child_rule end top d u ≡ child_rule end top d v
unfolding child_rule
rule_past end top d h = by (leb end top) (λ t. rw (h (leb-true end top t))) (λ t. rw t)

module _ (b : List ℕ) {p i e d pn gc pc er : ℕ} (w : Walk b p i e d pn gc pc er) (l : i < e) where
  parent_is : parent_of b i ≡ p
  parent_is = parent_is_innermost b p i w.after (omega (arith, w.ends)) w.inner

  depth_is : depth_of b i ≡ d + 1
  depth_is =
      depth_under b p i w.after (omega (arith, w.ends)) w.inner (λ j z c. omega (arith, w.outer j z c))
      ∙ omega (arith, w.depth)

  elder_is : elder_of b p i ≡ w.elder
  unfolding elder_of parent_of
  elder_is =
      let q : ℕ = w.elder in
      last_is (λ (j : ℕ). either (eqb j p) (eqb (parent_of b j) p)) i q w.elder_to
      (⊎_elim (λ (t : p ≡ q). simp (eq-eqb q p (sym t)))
      (λ (t : p < q). rw (ne_eqb q p (λ x. omega arith)) (eq-eqb (parent_of b q) p (w.elder_of_lem t)))
      (eq-or-lt_of_le w.elder_from))
      (λ j a z.
      let n : q ≡ p → ⊥ = λ x. omega (arith, w.elder_first x) in
      let g : p < q = omega (arith, w.elder_from) in
      let c : q ≤ parent_of b j = last_ge (covers b j) j q a (lt-ltb j (end_of b q) (omega (arith, w.elder_end g))) in
      rw (ne_eqb j p (λ x. omega arith)) (ne_eqb (parent_of b j) p (λ x. omega arith)))

  -- what the walk tests is the record's own rule
  pub rule_is : {k : Kind} {c end r : ℕ} {t u : Bool} → k ≡ kind_at b i → c ≡ byte_of b i 4 → end ≡ end_of b i
      → t ≡ stands_ok pn k c er gc → (end ≤ e → u ≡ both t (operands_at b i)) → r ≡ child_rule end e (d + 1) u → r ≡ broken_at b i
  unfolding broken_at child_broken
  rule_is {k} {c} {end} ek ec ee et eu eb =
      rw (ne_eqb i 0 (λ x. omega (arith, w.after)), parent_is, elder_is, depth_is, ← w.ends, ← w.number, ← w.grand, ← w.rank, ← ek, ← ec, ← ee, ← et)
      (eb ∙ rule_past end e (d + 1) eu)

-- a child that its parent takes, and that comes after the child before it
module _ (p : ℕ) (k : Kind) (c e g : ℕ) {t : Bool} (et : t ≡ takes_of p k) (q : t ≡ true) {r s : ℕ} (er : r ≡ rank_of k c) (es : s ≡ rise_of p k) where
  pub all_but : e + s ≤ r → {u : Bool} → u ≡ under_ok k g c → u ≡ stands_ok p k c e g
  unfolding stands_ok
  all_but x eu = rw (← et, q, ← er, ← es, le-leb (e + s) r x) eu

tests : (s t u : Bool) → ◌≡◌ {A = ℕ} (if s (if t (if u 0 12) 11) 10) 0 → (s ≡ true) × (t ≡ true) × (u ≡ true)
tests true true true e = (refl, refl, refl)
tests true true false e = absurd (omega arith)
tests true false u e = absurd (omega arith)
tests false t u e = absurd (omega arith)

-- a child that breaks no rule
pub rule_none : (end top d : ℕ) (t : Bool) → child_rule end top d t ≡ 0 → (end ≤ top) × (t ≡ true) × (d ≤ most_depth)
unfolding child_rule
rule_none end top d t e = let w = tests (leb end top) t (leb d most_depth) e in (leb-true end top w.0, w.1, leb-true d most_depth w.2)

-- a child that may stand there: its parent takes it, it comes after the child before, and a match has its section's category
pub stands_parts : (p : ℕ) (k : Kind) (c e g : ℕ) → stands_ok p k c e g ≡ true → (takes_of p k ≡ true) × (e + rise_of p k ≤ rank_of k c) × (under_ok k g c ≡ true)
unfolding stands_ok
stands_parts p k c e g x =
    let a : Bool = leb (e + rise_of p k) (rank_of k c) in
    let w = both_parts (takes_of p k) (both a (under_ok k g c)) x in
    let v = both_parts a (under_ok k g c) w.1 in
    (w.0, leb-true (e + rise_of p k) (rank_of k c) v.0, v.1)

pub rule_zero : (end top d : ℕ) (t : Bool) → end ≤ top → t ≡ true → d ≤ most_depth → child_rule end top d t ≡ 0
unfolding child_rule
rule_zero end top d t h e g = rw (le-leb end top h, e, le-leb d most_depth g)

-- what a record that keeps the rules says of its parent
pub kept_at : (b : List ℕ) (j : ℕ) → 0 < j → place_ok b j ≡ true
    → (end_of b j ≤ end_of b (parent_of b j))
    × (stands_at b (parent_of b j) j ≡ true)
    × (depth_of b j ≤ most_depth)
    × (operands_at b j ≡ true)
unfolding place_ok broken_at child_broken
kept_at b j h e =
    let s : Bool = stands_at b (parent_of b j) j in
    let t : child_broken b (parent_of b j) j ≡ 0 = rw (ne_eqb j 0 (λ x. omega arith)) at (eqb-true (broken_at b j) 0 e) in
    let w = rule_none (end_of b j) (end_of b (parent_of b j)) (depth_of b j) (both s (operands_at b j)) t in
    let v = both_parts s (operands_at b j) w.1 in
    (w.0, v.0, w.2, v.1)

-- a record that keeps the rules ends within its parent
pub ends_within : (b : List ℕ) (j : ℕ) → 0 < j → place_ok b j ≡ true → end_of b j ≤ end_of b (parent_of b j)
ends_within b j h e = (kept_at b j h e).0

-- where all records among the children of p keep the rules, all end where p does or before
module _ (b : List ℕ) {p i e d pn gc pc er : ℕ} (w : Walk b p i e d pn gc pc er) (ok : (j : ℕ) → i ≤ j → j < e → place_ok b j ≡ true) where
  inside_f : (f j : ℕ) → j < f → i ≤ j → j < e → end_of b j ≤ e
  inside_f zero j h a z = absurd (omega arith)
  inside_f (suc f) j h a z =
      let cov : covers b j p ≡ true = lt-ltb j (end_of b p) (omega (arith, w.ends)) in
      let g : p ≤ parent_of b j = parent_ge b j p (omega (arith, w.after)) cov in
      let o = parent_of_lem b j p (omega (arith, w.after)) cov in
      let x = ends_within b j (omega (arith, w.after)) (ok j a z) in
      ⊎_elim (λ (t : p ≡ parent_of b j). omega (arith, w.ends, ap (end_of b) t))
      (λ (t : p < parent_of b j). by (ltb (parent_of b j) i)
      (λ u. omega (arith, w.inner (parent_of b j) t (ltb-true _ _ u)))
      (λ u. let v = ltb-false (parent_of b j) i u in omega (arith, inside_f f (parent_of b j) (omega arith) v (omega arith))))
      (eq-or-lt_of_le g)

  pub inside : (j : ℕ) → i ≤ j → j < e → end_of b j ≤ e
  inside j a z = inside_f (suc j) j (omega arith) a z

-- a child of p that breaks no rule
pub record Passed (b : List ℕ) (p i e d pn gc pc er : ℕ) (k : Kind) (c end : ℕ) : Type 0 where
  pub walk : Walk b p i e d pn gc pc er
  pub inside : i < e
  pub kind : k ≡ kind_at b i
  pub category : c ≡ byte_of b i 4
  pub ends : end ≡ end_of b i
  pub ok : place_ok b i ≡ true

-- the test of a child, and that there is something to look into
module _ (b : List ℕ) {p i e d pn gc pc er : ℕ} (w : Walk b p i e d pn gc pc er) (l : i < e) {k : Kind} {c s : ℕ} (ek : k ≡ kind_at b i)
    (ec : c ≡ byte_of b i 4) (es : s ≡ span_of b i) where
  pub ends_after : (i < i + s) × (i + s ≡ end_of b i)
  ends_after = (omega (arith, w.spans i l), sym (span_end b i s es))

  module _ {t u : Bool} {r : ℕ} (et : t ≡ stands_ok pn k c er gc) (eu : i + s ≤ e → u ≡ both t (operands_at b i)) (eb : r ≡ child_rule (i + s) e (d + 1) u) where
    its_rule : r ≡ broken_at b i
    its_rule = rule_is b w l ek ec ends_after.1 et eu eb

    pub stop_here : 0 < r → Finds b i (e - i) i r
    unfolding place_ok
    stop_here n =
        record { place = sym (first_here (place_ok b) i (e - i) (omega arith) (ne_eqb (broken_at b i) 0 (λ y. omega (arith, its_rule, n)))); which = λ z. its_rule; none = λ z. absurd (omega arith) }

    pub passed : r ≡ 0 → Passed b p i e d pn gc pc er k c (i + s)
    unfolding place_ok
    passed z = record { walk = w; inside = l; kind = ek; category = ec; ends = ends_after.1; ok = eq-eqb (broken_at b i) 0 (sym its_rule ∙ z) }

-- from a child to its children, and to the child behind it
module _ (b : List ℕ) {p i e d pn gc pc er : ℕ} {k : Kind} {c end : ℕ} (h : Passed b p i e d pn gc pc er k c end) where
  w : Walk b p i e d pn gc pc er
  w = h.walk

  pub bounds : (i < end) × (end ≤ e) × (d < most_depth)
  bounds =
      let y = kept_at b i (omega (arith, w.after)) h.ok in
      let x = ap (end_of b) (parent_is b w h.inside) in (
        omega (arith, h.ends, end_after b i (w.spans i h.inside)),
        omega (arith, h.ends, y.0, x, w.ends),
        omega (arith, y.2, depth_is b w h.inside),
      )

  pub kids : {n : ℕ} → n ≡ kind_number k → Walk b i (i + 1) end (d + 1) n pc c 0
  unfolding elder_rank
  kids en =
      let o = bounds in
      record {
        after = omega arith;
        upto = omega arith;
        ends = h.ends;
        spans = λ j z. w.spans j (omega arith);
        outer = λ j z x. ⊎_elim (λ (t : j ≡ p). omega (arith, w.ends, ap (end_of b) t))
            (λ (t : j < p ⊎ p < j). ⊎_elim
            (λ (t : j < p). omega (arith, w.outer j t (omega (arith, w.after))))
            (λ (t : p < j). absurd (omega (arith, w.inner j t z))) t) (apart j p);
        inner = λ j a z. absurd (omega arith);
        depth = depth_is b w h.inside;
        elder = i;
        elder_from = omega arith;
        elder_to = omega arith;
        elder_of_lem = λ x. absurd (omega arith);
        elder_first = λ x. refl;
        elder_end = λ x. absurd (omega arith);
        number = en ∙ ap kind_number h.kind;
        grand = w.own ∙ ap (λ (n : ℕ). byte_of b n 4) (sym (parent_is b w h.inside));
        own = h.category;
        rank = rw (eq-eqb i i refl);
      }

  module _ {r x : ℕ} (f : Finds b (i + 1) (end - (i + 1)) r x) where
    pub stop_in : r < end → Finds b i (e - i) r x
    stop_in z =
        let y = bounds in
        let g = f.place in
        let s = first_in (place_ok b) (i + 1) (end - (i + 1)) (e - (i + 1)) (omega arith) (omega arith) in
        record {
          place = g ∙ sym s ∙ sym (first_next (place_ok b) i (e - i) (e - (i + 1)) (omega arith) h.ok);
          which = λ v. f.which (omega arith);
          none = λ v. absurd (omega (arith, h.inside));
        }

    module _ (z : end ≤ r) where
      through : first_from (place_ok b) (i + 1) (end - (i + 1)) ≡ i + 1 + (end - (i + 1))
      through = let y = bounds in omega (arith, f.place, first_le (place_ok b) (i + 1) (end - (i + 1)))

      pub rest : {x : ℕ} → x ≡ rank_of k c → Walk b p end e d pn gc pc x
      unfolding elder_rank rank_at
      rest er =
          let o = bounds in
          record {
            after = omega (arith, w.after);
            upto = omega arith;
            ends = w.ends;
            spans = w.spans;
            outer = w.outer;
            inner = λ j a v. ⊎_elim (λ (t : j ≡ i). omega (arith, h.ends, ap (end_of b) t))
                (λ (t : j < i ⊎ i < j). ⊎_elim
                (λ (t : j < i). omega (arith, w.inner j a t))
                (λ (t : i < j). inside b (kids refl) (λ m q s. first_all (place_ok b) (i + 1) (end - (i + 1)) through m q (omega arith)) j (omega arith) v) t)
                (apart j i);
            depth = w.depth;
            elder = i;
            elder_from = omega (arith, w.after);
            elder_to = omega arith;
            elder_of_lem = λ x. parent_is b w h.inside;
            elder_first = λ x. absurd (omega (arith, w.after));
            elder_end = λ x. omega (arith, h.ends);
            number = w.number;
            grand = w.grand;
            own = w.own;
            rank = rw (ne_eqb i p (λ x. omega (arith, w.after)), ← h.kind, ← h.category) er;
          }

      pub go_on : {v : ℕ} → v ≡ first_from (place_ok b) i (e - i) → v ≡ first_from (place_ok b) end (e - end)
      go_on ev =
          let y = bounds in
          let s = first_past (place_ok b) (i + 1) (end - (i + 1)) (e - (i + 1)) (omega arith) through in
          let m : i + 1 + (end - (i + 1)) ≡ end = omega arith in
          let n : e - (i + 1) - (end - (i + 1)) ≡ e - end = omega arith in
          ev ∙ first_next (place_ok b) i (e - i) (e - (i + 1)) (omega arith) h.ok ∙ (rw (m, n) at s)

      -- what is known before the child behind it, which begins at `next`
      pub behind : {next x v : ℕ} → next ≡ end → x ≡ rank_of k c → v ≡ first_from (place_ok b) i (e - i)
          → (next ≤ e) × (p < next) × Walk b p next e d pn gc pc x × (v ≡ first_from (place_ok b) next (e - next))
      behind n er ev = let y = bounds in (omega (arith, n, y), omega (arith, n, y, w.after), rw n (rest er), rw n (go_on ev))

-- line 1
pub top_broken : (b : List ℕ) {n : ℕ} → 0 < n → false ≡ top_ok b → FirstBroken b 0 n (Some (record { at = 0; rule = 9 }))
unfolding place_ok broken_at
top_broken b {n} h x =
    (record { place = sym (first_here (place_ok b) 0 n h (rw (← x))); which = λ z. rw (← x); none = λ z. absurd (omega arith) }, omega arith)

pub top_parts : (b : List ℕ) {n : ℕ} → length b ≡ n * size → true ≡ top_ok b → (among 1 2 (kind_number (kind_at b 0)) ≡ true) × (span_of b 0 ≡ n)
unfolding top_ok
top_parts b el x =
    let w = both_parts (among 1 2 (kind_number (kind_at b 0))) (eqb (span_of b 0) (length b / size)) (sym x) in
    (w.0, eqb-true (span_of b 0) (length b / size) w.1 ∙ omega arith)

module _ (b : List ℕ) {n m : ℕ} {k : Kind} {u : Bool} (h : 0 < n) (el : length b ≡ n * size) (ek : k ≡ kind_at b 0) (em : m ≡ kind_number k) (eu : u ≡ among 1 2 m) where
  module _ (t : u ≡ true) {s : ℕ} (es : s ≡ span_of b 0) where
    module _ (x : s ≡ n) where
      pub top_ok_lem : place_ok b 0 ≡ true
      unfolding place_ok broken_at top_ok
      top_ok_lem = rw (← ek, ← em, ← eu, t, ← es, eq-eqb s (length b / size) (omega arith))

      pub top_walk : {c : ℕ} → first_from (field_ok b) 0 n ≡ n → c ≡ byte_of b 0 4 → Walk b 0 1 n 1 m c c 0
      unfolding elder_rank depth_of count_below parent_of last_below end_of
      top_walk ef ec = record {
        after = omega arith;
        upto = omega arith;
        ends = omega arith;
        spans = λ j z. span_pos b j (first_all (field_ok b) 0 n (ef ∙ omega arith) j (omega arith) (omega arith));
        outer = λ j z y. absurd (omega arith);
        inner = λ j a z. absurd (omega arith);
        depth = refl;
        elder = 0;
        elder_from = omega arith;
        elder_to = omega arith;
        elder_of_lem = λ y. absurd (omega arith);
        elder_first = λ y. refl;
        elder_end = λ y. absurd (omega arith);
        number = em ∙ ap kind_number ek;
        grand = ec;
        own = ec;
        rank = refl;
      }

-- where it breaks none, the first is the first below it
pub top_rest : (b : List ℕ) {n : ℕ} → 0 < n → true ≡ top_ok b → (r : Option Broken) → FirstBroken b 1 (n - 1) r → FirstBroken b 0 n r
unfolding place_ok broken_at
top_rest b {n} h t r f = go r f
  where
    next : first_from (place_ok b) 0 n ≡ first_from (place_ok b) 1 (n - 1)
    next = first_next (place_ok b) 0 n (n - 1) (omega arith) (rw (← t))

    go : (r : Option Broken) → FirstBroken b 1 (n - 1) r → FirstBroken b 0 n r
    go None f = record { place = omega (arith, f.place, next); which = λ z. absurd (omega arith); none = λ z. refl }
    go (Some x) f = (record { place = f.0.place ∙ sym next; which = λ z. f.0.which (omega (arith, f.1)); none = λ z. absurd (omega (arith, f.1)) }, omega (arith, f.1))

-- the search of a row is that of its rest
pub found : (b : List ℕ) {i k j m at rule : ℕ} → Finds b j m at rule → first_from (place_ok b) i k ≡ first_from (place_ok b) j m → i + k ≡ j + m → Finds b i k at rule
found b f e l = record { place = f.place ∙ sym e; which = λ z. f.which (omega arith); none = λ z. f.none (omega arith) }

pub found_none : (b : List ℕ) {i k j : ℕ} → first_from (place_ok b) i k ≡ j → j ≡ i + k → Finds b i k j 0
found_none b e l = record { place = sym e; which = λ z. absurd (omega arith); none = λ z. refl }
