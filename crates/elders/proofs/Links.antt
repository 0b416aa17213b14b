-- A row of siblings, walked from its last to its first by the table of `specs/Links.antt`. Assumes nothing.
use Prim.{tt}
use Prim.Native.Nat.{ℕ, zero, suc, ◌+◌, ◌-◌, ◌≤◌, ◌<◌}
use mathlib.Core.Path.{◌≡◌, refl, sym, ◌∙◌}
use mathlib.Core.List.{List}
use lib.ListN.{length, get_or, set, length-set}
use mathlib.Core.Logic.{∥∥₁_elim, ∥∥₁_map}
use native.Mathlib.Nat.{ℕ_set}
use native.Mathlib.Bridge.{le_prop}
use lib.Seq.{get_or-set_same, get_or-set_other}
use native.Mathlib.Omega.{arith}
use Rattle.record.specs.Forest.{Forest, none, node, span_in, forest}
use Rattle.record.proofs.Forests.{span_pos, span_le, forest_none, forest_more, forest_step}
use Rattle.elders.specs.Links.{last_of, LinkedFrom, Linked, Linked-prop, Kept, Below, Piece, Before, begun, ended}

pub linked_at : {b t : List ℕ} {i stop next at : ℕ} → Piece b t i stop next at → Linked t (forest b (at + 1) (next - (at + 1)))
linked_at {b} {t} {i} {stop} {next} {at} p = let e : next - at - 1 ≡ next - (at + 1) = omega arith in rw e at p.below

-- one turn of a loop
pub piece_of : {b t : List ℕ} {i stop next at : ℕ} → Before b t i stop next at → i < next → Piece b t i stop next at
piece_of (begun at) h = absurd (omega (arith, h))
piece_of (ended next at p q) h = p

pub turn : {b t : List ℕ} {i stop next at : ℕ} → Before b t i stop next at → i < next → Before b t i stop at (get_or t at 0)
turn (begun at) h = absurd (omega (arith, h))
turn (ended next at p q) h = q

pub first_le : {b t : List ℕ} {i stop next at : ℕ} → Before b t i stop next at → i ≤ next
first_le (begun at) = omega arith
first_le (ended next at p q) = omega (arith, p.from, p.upto)

-- the same of a row that is known to be walked
module _ {b t : List ℕ} {i stop next at : ℕ} (w : ∥ Before b t i stop next at ∥₁) (h : i < next) where
  pub piece_in : Piece b t i stop next at
  piece_in = record {
    from = ∥∥₁_elim w le_prop (λ q. (piece_of q h).from);
    upto = ∥∥₁_elim w le_prop (λ q. (piece_of q h).upto);
    inside = ∥∥₁_elim w le_prop (λ q. (piece_of q h).inside);
    spans = ∥∥₁_elim w (ℕ_set _ _) (λ q. (piece_of q h).spans);
    below = ∥∥₁_elim w (Linked-prop _ _) (λ q. (piece_of q h).below);
  }

  pub turned : {a : ℕ} → a ≡ get_or t at 0 → ∥ Before b t i stop at a ∥₁
  turned e = rw e (∥∥₁_map w (λ q. turn q h))

pub first_in : {b t : List ℕ} {i stop next at : ℕ} → ∥ Before b t i stop next at ∥₁ → i ≤ next
first_in w = ∥∥₁_elim w le_prop (λ q. first_le q)

-- a forest by its first record and where that ends
pub forest_next : (b : List ℕ) (at next stop : ℕ) → at < next → next ≤ stop → next - at ≡ span_in b at (stop - at)
    → forest b at (stop - at) ≡ node at (forest b (at + 1) (next - at - 1)) (forest b next (stop - next))
forest_next b at next stop h k e =
    let f : at + (next - at) ≡ next = omega (arith, h) in
    let g : stop - at - (next - at) ≡ stop - next = omega (arith, h, k) in
    rw (f, g) at (forest_more b at (stop - at) (omega (arith, h, k)) e)

-- and by its span
pub forest_first : (b : List ℕ) (i stop : ℕ) {s : ℕ} → i < stop → s ≡ span_in b i (stop - i)
    → forest b i (stop - i) ≡ node i (forest b (i + 1) (i + s - i - 1)) (forest b (i + s) (stop - (i + s)))
forest_first b i stop {s} h e =
    let p : 0 < span_in b i (stop - i) = span_pos b i (stop - i) (omega (arith, h)) in
    let q = span_le b i (stop - i) in
    forest_next b i (i + s) stop (omega (arith, p, e)) (omega (arith, q, e, h)) (omega (arith, e))

row_none : (b t : List ℕ) (p i left : ℕ) → left ≤ 0 → LinkedFrom t p (forest b i left)
unfolding LinkedFrom
row_none b t p i left e = rw (forest_none b i left e) tt

-- from a linked forest to its row, walked
module _ (b t : List ℕ) (i stop : ℕ) where
  walk : (fuel left next at : ℕ) → left ≤ fuel → next + left ≡ stop → Before b t i stop next at → LinkedFrom t at (forest b next (stop - next))
      → Before b t i stop stop (last_of at (forest b next (stop - next)))
  unfolding LinkedFrom last_of Linked
  walk zero left next at f h q r =
      let e : next ≡ stop = omega (arith, f, h) in
      let q₁ : Before b t i stop stop at = rw e at q in
      rw (forest_none b next (stop - next) (omega (arith, e))) q₁
  walk (suc fuel) zero next at f h q r =
      let e : next ≡ stop = omega (arith, h) in
      let q₁ : Before b t i stop stop at = rw e at q in
      rw (forest_none b next (stop - next) (omega (arith, e))) q₁
  walk (suc fuel) (suc left) next at f h q r =
      let s : ℕ = span_in b next (stop - next) in
      let p : 0 < s = span_pos b next (stop - next) (omega (arith, h)) in
      let l : s ≤ stop - next = span_le b next (stop - next) in
      let w : forest b next (stop - next) ≡ node next (forest b (next + 1) (next + s - next - 1)) (forest b (next + s) (stop - (next + s)))
      = forest_first b next stop (omega (arith, h)) refl in
      let r₁ : LinkedFrom t at (node next (forest b (next + 1) (next + s - next - 1)) (forest b (next + s) (stop - (next + s)))) = rw w at r in
      let q₁ : Before b t i stop next (get_or t next 0) = rw r₁.0 q in
      let piece : Piece b t i stop (next + s) next
      = record { from = first_le q; upto = omega (arith, p); inside = omega (arith, l, h); spans = omega arith; below = r₁.1.0 } in
      rw w (walk fuel (suc left - s) (next + s) next (omega (arith, p, f)) (omega (arith, l, h)) (ended (next + s) next piece q₁) r₁.1.1)

  pub before_of : i < stop → Linked t (forest b i (stop - i)) → Before b t i stop stop (get_or t i 0)
  unfolding Linked LinkedFrom last_of
  before_of h r =
      let s : ℕ = span_in b i (stop - i) in
      let w : forest b i (stop - i) ≡ node i (forest b (i + 1) (i + s - i - 1)) (forest b (i + s) (stop - (i + s)))
      = forest_first b i stop h refl in
      let r₁ : LinkedFrom t (last_of i (forest b (i + s) (stop - (i + s)))) (node i (forest b (i + 1) (i + s - i - 1)) (forest b (i + s) (stop - (i + s)))) = rw w at r in
      let q = walk (stop - i) (stop - i) i (last_of 0 (forest b i (stop - i))) (omega arith) (omega (arith, h)) (begun _) r in
      let q₁ : Before b t i stop stop (last_of i (forest b (i + s) (stop - (i + s)))) = rw w at q in
      rw r₁.0 q₁

-- what is linked is so in every table that is the same there
row_same : (b t u : List ℕ) (fuel p i left : ℕ) → left ≤ fuel → ((k : ℕ) → i ≤ k → k < i + left → get_or u k 0 ≡ get_or t k 0) → LinkedFrom t p (forest b i left) → LinkedFrom u p (forest b i left)
unfolding LinkedFrom
row_same b t u zero p i left f h r = row_none b u p i left (omega (arith, f))
row_same b t u (suc fuel) p i zero f h r = row_none b u p i 0 (omega arith)
row_same b t u (suc fuel) p i (suc l) f h r =
    let s : ℕ = span_in b i (suc l) in
    let q : 0 < s = span_pos b i (suc l) (omega arith) in
    let m : s ≤ suc l = span_le b i (suc l) in
    let w : forest b i (suc l) ≡ node i (forest b (i + 1) (s - 1)) (forest b (i + s) (suc l - s)) = forest_step b i (suc l) (omega arith) in
    let r₁ : LinkedFrom t p (node i (forest b (i + 1) (s - 1)) (forest b (i + s) (suc l - s))) = rw w at r in
    rw w (
      h i (omega arith) (omega arith) ∙ r₁.0,
      (
        row_same b t u fuel (last_of 0 (forest b (i + 1) (s - 1))) (i + 1) (s - 1) (omega (arith, f, m, q)) (λ k g j. h k (omega (arith, g)) (omega (arith, j, m, q))) r₁.1.0,
        row_same b t u fuel i (i + s) (suc l - s) (omega (arith, f, m, q)) (λ k g j. h k (omega (arith, g)) (omega (arith, j, m, q))) r₁.1.1,
      ),
    )

linked_same : (b t u : List ℕ) (i left : ℕ) → ((k : ℕ) → i ≤ k → k < i + left → get_or u k 0 ≡ get_or t k 0) → Linked t (forest b i left) → Linked u (forest b i left)
unfolding Linked
linked_same b t u i left h r = row_same b t u left (last_of 0 (forest b i left)) i left (omega arith) h r

piece_same : {b t : List ℕ} {i stop next at : ℕ} (u : List ℕ) → ((k : ℕ) → i < k → k < next → get_or u k 0 ≡ get_or t k 0) → Piece b t i stop next at → Piece b u i stop next at
piece_same {b} {t} {i} {stop} {next} {at} u h p =
    record {
      from = p.from;
      upto = p.upto;
      inside = p.inside;
      spans = p.spans;
      below = linked_same b t u (at + 1) (next - at - 1) (λ k g j. h k (omega (arith, g, p.from)) (omega (arith, j, g, p.upto))) p.below;
    }

before_same : {b t : List ℕ} {i stop next at : ℕ} (u : List ℕ) → ((k : ℕ) → i < k → k < next → get_or u k 0 ≡ get_or t k 0) → Before b t i stop next at → Before b u i stop next at
before_same u h (begun at) = begun at
before_same {b} {t} {i} {stop} u h (ended next at p (begun a)) = ended next at (piece_same u h p) (begun _)
before_same {b} {t} {i} {stop} u h (ended next at p (ended n a q r)) =
    let e : get_or u at 0 ≡ get_or t at 0 = h at (omega (arith, q.from, q.upto)) p.upto in
    ended next at (piece_same u h p) (rw e (before_same u (λ k g j. h k g (omega (arith, j, p.upto))) (ended n a q r)))

-- from a walked row back to a linked forest
module _ (b t : List ℕ) (i stop : ℕ) where
  unwalk : (next at : ℕ) → Before b t i stop next at → i < next → LinkedFrom t at (forest b next (stop - next)) → last_of at (forest b next (stop - next)) ≡ get_or t i 0
      → Linked t (forest b i (stop - i))
  unfolding LinkedFrom last_of Linked
  unwalk next at (begun a) h r e = absurd (omega (arith, h))
  unwalk next at (ended n a p (begun c)) h r e =
      let w = forest_next b at next stop p.upto p.inside p.spans in
      rw w (sym e, (p.below, r))
  unwalk next at (ended n a p (ended m c q s)) h r e =
      let w = forest_next b at next stop p.upto p.inside p.spans in
      let r₁ : LinkedFrom t (get_or t at 0) (forest b at (stop - at)) = rw w (refl, (p.below, r)) in
      let e₁ : last_of (get_or t at 0) (forest b at (stop - at)) ≡ get_or t i 0 = rw w e in
      unwalk at (get_or t at 0) (ended m c q s) (omega (arith, q.from, q.upto)) r₁ e₁

  pub linked_of : (at : ℕ) → Before b t i stop stop at → i < stop → get_or t i 0 ≡ at → Linked t (forest b i (stop - i))
  unfolding last_of
  linked_of at q h e = unwalk stop at q h (row_none b t at stop (stop - stop) (omega arith)) (rw (forest_none b stop (stop - stop) (omega arith)) (sym e))

-- the loop that links: whole records from `from` to i are linked, and `last` is the last of them
pub record Linking (b : List ℕ) (from stop : ℕ) (old t : List ℕ) (i last : ℕ) : Type 0 where
  pub row : Before b t from stop i last
  pub kept : Kept from i old t
  pub low : i ≤ stop
  pub late : last ≤ i

pub linking_begin : (b : List ℕ) (from stop : ℕ) (t : List ℕ) → from < stop → Linking b from stop t t from from
linking_begin b from stop t h =
    record { row = begun from; kept = record { long = refl; before = λ k g. refl; behind = λ k g. refl }; low = omega (arith, h); late = omega arith }

module _ {b : List ℕ} {from stop : ℕ} {old t : List ℕ} {i last s : ℕ} (g : Linking b from stop old t i last) (h : i < stop) (e : s ≡ span_in b i (stop - i)) where
  pub next_le : i + s ≤ stop
  next_le = let l = span_le b i (stop - i) in omega (arith, l, e, h)

  pub next_lt : i < i + s
  next_lt = let l = span_pos b i (stop - i) (omega (arith, h)) in omega (arith, l, e)

  -- a turn that leaves the table u
  linking_turn : (u : List ℕ) → length u ≡ length t → ((k : ℕ) → k < i → get_or u k 0 ≡ get_or t k 0) → get_or u i 0 ≡ last → ((k : ℕ) → i + s ≤ k → get_or u k 0 ≡ get_or t k 0)
      → Linked u (forest b (i + 1) (i + s - i - 1)) → Linking b from stop old u (i + s) i
  linking_turn u l p q r w =
      let k = first_le g.row in
      let a = next_lt in
      let z = next_le in
      let row₁ : Before b u from stop i (get_or u i 0) = rw q (before_same u (λ j x y. p j y) g.row) in
      record {
        row = ended (i + s) i (record { from = k; upto = a; inside = z; spans = omega (arith, e); below = w }) row₁;
        kept = record {
          long = l ∙ g.kept.long;
          before = λ j x. p j (omega (arith, x, k)) ∙ g.kept.before j x;
          behind = λ j x. r j x ∙ g.kept.behind j (omega (arith, x));
        };
        low = z;
        late = omega (arith, a);
      }

  -- what is below it was linked then
  pub linking_more : {v : ℕ} {u : List ℕ} → v ≡ last → i < length t → Linked u (forest b (i + 1) (i + s - (i + 1))) → Kept (i + 1) (i + s) (set t i v) u → Linking b from stop old u (i + s) i
  linking_more {v} {u} d m w y =
      let a = next_lt in
      let f : i + s - (i + 1) ≡ i + s - i - 1 = omega arith in
      linking_turn u (y.long ∙ length-set t i v) (λ k x. y.before k (omega (arith, x)) ∙ get_or-set_other t i k v 0 (λ z. omega (arith, x, z)))
      (y.before i (omega arith) ∙ get_or-set_same t i v 0 m ∙ d) (λ k x. y.behind k x ∙ get_or-set_other t i k v 0 (λ z. omega (arith, x, z, a))) (rw f at w)

pub linking_end : {b : List ℕ} {from stop : ℕ} {old t : List ℕ} {i last v : ℕ} → Linking b from stop old t i last → stop ≤ i → from < stop → stop ≤ length t → v ≡ last
    → Linked (set t from v) (forest b from (stop - from)) × Kept from stop old (set t from v)
linking_end {b} {from} {stop} {old} {t} {i} {last} {v} g h f l d =
    let e : i ≡ stop = omega (arith, h, g.low) in
    let row₁ : Before b t from stop stop last = rw e at g.row in
    let u : List ℕ = set t from v in (
      linked_of b u from stop last (before_same u (λ k x y. get_or-set_other t from k v 0 (λ z. omega (arith, x, z))) row₁) f (get_or-set_same t from v 0 (omega (arith, f, l)) ∙ d),
      record {
        long = length-set t from v ∙ g.kept.long;
        before = λ k x. get_or-set_other t from k v 0 (λ z. omega (arith, x, z)) ∙ g.kept.before k x;
        behind = λ k x. get_or-set_other t from k v 0 (λ z. omega (arith, x, z, f)) ∙ g.kept.behind k (omega (arith, x, e));
      },
    )

-- nothing to link
pub linking_none : (b t : List ℕ) (from stop : ℕ) → from ≡ stop → Linked t (forest b from (stop - from)) × Kept from stop t t
unfolding Linked
linking_none b t from stop e = (row_none b t _ from (stop - from) (omega (arith, e)), record { long = refl; before = λ k g. refl; behind = λ k g. refl })

-- what is below the records of a row
row_below : (t : List ℕ) (p : ℕ) (f : Forest) → LinkedFrom t p f → Below t f
unfolding LinkedFrom Below Linked
row_below t p none r = tt
row_below t p (node i kids rest) r = (r.1.0, row_below t i rest r.1.1)

pub linked_below : (b t : List ℕ) (i stop : ℕ) → Linked t (forest b i (stop - i)) → Below t (forest b i (stop - i))
unfolding Linked
linked_below b t i stop r = row_below t _ (forest b i (stop - i)) r

module _ (b t : List ℕ) (i stop s : ℕ) (h : i < stop) (e : s ≡ span_in b i (stop - i)) where
  pub below_first : Below t (forest b i (stop - i)) → Linked t (forest b (i + 1) (i + s - (i + 1)))
  unfolding Below
  below_first r =
      let f : i + s - i - 1 ≡ i + s - (i + 1) = omega arith in
      let r₁ = rw (forest_first b i stop h e) at r in
      rw f at r₁.0

  pub below_rest : Below t (forest b i (stop - i)) → Below t (forest b (i + s) (stop - (i + s)))
  unfolding Below
  below_rest r = let r₁ = rw (forest_first b i stop h e) at r in r₁.1

-- a row that nothing was walked of yet
pub row_of : (b t : List ℕ) (i stop : ℕ) {at : ℕ} → i < stop → Linked t (forest b i (stop - i)) → at ≡ get_or t i 0 → ∥ Before b t i stop stop at ∥₁
row_of b t i stop {at} h r e = let before : Before b t i stop stop at = rw e (before_of b t i stop h r) in ∣ before ∣₁

pub row_empty : (b t : List ℕ) (i stop at : ℕ) → i ≡ stop → ∥ Before b t i stop stop at ∥₁
row_empty b t i stop at e = let none : Before b t i stop stop at = rw (← e) (begun at) in ∣ none ∣₁

-- where the first record of a row ends
module _ (b : List ℕ) (i stop : ℕ) {s : ℕ} (h : i < stop) (e : s ≡ span_in b i (stop - i)) where
  pub first_some : i < i + s
  first_some = let p = span_pos b i (stop - i) (omega (arith, h)) in omega (arith, p, e)

  pub first_upto : i + s ≤ stop
  first_upto = let p = span_le b i (stop - i) in omega (arith, p, e, h)
