-- A record is judged by its own bytes, wherever it stands. Assumes nothing.
use mathlib.Core.Path.{◌≡◌, refl, sym, ap, ◌∙◌}
use mathlib.Core.Bool.{true}
use mathlib.Core.List.{List}
use mathlib.Core.Logic.{◌⊎◌, inl, inr}
use Prim.Native.Nat.{ℕ, suc, ◌+◌, ◌-◌, ◌≤◌, ◌<◌, zero, ◌*◌}
use native.Mathlib.Nat.{zero-add}
use native.Mathlib.Omega.{arith}
use lib.Dec.{eqb, ltb}
use lib.ListN.{length}
use borrow.Author.Tests.{eq-eqb, eqb-true, lt-ltb, ltb-true}
use Rattle.record.specs.Choose.{both, among}
use Rattle.record.specs.Bytes.{size, byte_of, span_of, big_of}
use Rattle.record.proofs.Choose.{both_parts, no_false}
use Rattle.record.proofs.Below.{all_same}
use Rattle.record.proofs.Table.{length_tab, get_d_tab}
use Rattle.fields.specs.Fields.{kind_at, type_at, finite, zeros, plain_ok, section_ok, compares_ok, obligation_ok, literal_ok, attribute_ok, rules_of, field_ok}
use Rattle.fields.specs.declared.Kind.{Kind}
use Rattle.fields.specs.declared.Kind.TheVariants.{PolicySet, Policy, Rule, Section, Conjunction, Match, Logic, Not, Comparison, Weighing, Obligation, Literal, Attribute, Operator, Nothing}
use Rattle.operands.specs.Operands.{value_type}
use Rattle.placement.specs.Place.{most_depth, kind_number, rank_at, stands_ok}
use Rattle.structure.specs.Subtrees.{record_at, SameRecord, SameButSpan}
use Rattle.structure.specs.Sound.{Parent, as_parent, line_one, record_ok, child_ok}

-- line 1, and what may stand for it, is one of two kinds
pub policy_kind : (k : Kind) → among 1 2 (kind_number k) ≡ true → (k ≡ PolicySet) ⊎ (k ≡ Policy)
policy_kind PolicySet a = inl refl
policy_kind Policy a = inr refl
policy_kind Rule a = no_false a
policy_kind Section a = no_false a
policy_kind Conjunction a = no_false a
policy_kind Match a = no_false a
policy_kind Logic a = no_false a
policy_kind Not a = no_false a
policy_kind Comparison a = no_false a
policy_kind Weighing a = no_false a
policy_kind Obligation a = no_false a
policy_kind Literal a = no_false a
policy_kind Attribute a = no_false a
policy_kind Operator a = no_false a
policy_kind Nothing a = no_false a

-- records that differ in nothing but their spans
module _ (b : List ℕ) (i : ℕ) (c : List ℕ) (j : ℕ) (h : SameButSpan b i c j) where
  pub kind_byte : byte_of b i 0 ≡ byte_of c j 0
  kind_byte = h 0 (omega arith) (λ x. omega arith) (λ x. omega arith)

  pub choice_byte : byte_of b i 1 ≡ byte_of c j 1
  choice_byte = h 1 (omega arith) (λ x. omega arith) (λ x. omega arith)

  pub later_byte : (k : ℕ) → 4 ≤ k → k < size → byte_of b i k ≡ byte_of c j k
  later_byte k a l = h k l (λ x. omega arith) (λ x. omega arith)

  pub big_same : (a n : ℕ) → 4 ≤ a → a + n ≤ size → big_of b (i * size + a) n ≡ big_of c (j * size + a) n
  unfolding big_of
  big_same a zero m l = refl
  big_same a (suc n) m l =
      let x : i * size + a + n ≡ i * size + (a + n) = omega arith in
      let y : j * size + a + n ≡ j * size + (a + n) = omega arith in
      rw (x, y, later_byte (a + n) (omega arith) (omega arith), big_same a n m (omega arith)) refl

  pub kind_same : kind_at b i ≡ kind_at c j
  unfolding kind_at
  kind_same = rw (kind_byte, choice_byte) refl

  pub rank_same : rank_at b i ≡ rank_at c j
  unfolding rank_at
  rank_same = rw (kind_same, later_byte 4 (omega arith) (omega arith)) refl

  pub type_same : value_type b i ≡ value_type c j
  unfolding value_type
  type_same = rw (kind_same, choice_byte, later_byte 5 (omega arith) (omega arith)) refl

  pub parent_same : (u : Parent) → as_parent u b i ≡ as_parent u c j
  parent_same u = rw (kind_same, later_byte 4 (omega arith) (omega arith)) refl

  pub zeros_same : (a z : ℕ) → 4 ≤ a → z ≤ size → zeros b i a z ≡ zeros c j a z
  unfolding zeros
  zeros_same a z q l = all_same _ _ (z - a) (λ m o. ap (λ (x : ℕ). eqb x 0) (later_byte (a + m) (omega arith) (omega arith)))

pub line_same : (b c : List ℕ) → SameButSpan b 0 c 0 → line_one b ≡ line_one c
line_same b c h = rw (kind_same b 0 c 0 h, later_byte b 0 c 0 h 4 (omega arith) (omega arith)) refl

-- records with the same bytes
pub but_span : (b : List ℕ) (i : ℕ) (c : List ℕ) (j : ℕ) → SameRecord b i c j → SameButSpan b i c j
but_span b i c j h k l x y = h k l

module _ (b : List ℕ) (i : ℕ) (c : List ℕ) (j : ℕ) (h : SameRecord b i c j) where
  zeros_all : (a z : ℕ) → 4 ≤ a → z ≤ size → zeros b i a z ≡ zeros c j a z
  zeros_all = zeros_same b i c j (but_span b i c j h)

  pub span_same : span_of b i ≡ span_of c j
  unfolding span_of
  span_same = let x = h 2 (omega arith) in let y = h 3 (omega arith) in omega (arith, x, y)

  plain_same : (s : ℕ) → plain_ok b i s ≡ plain_ok c j s
  unfolding plain_ok
  plain_same s = rw (span_same, zeros_all 4 size (omega arith) (omega arith)) refl

  section_same : section_ok b i ≡ section_ok c j
  unfolding section_ok
  section_same = rw (span_same, h 4 (omega arith), zeros_all 5 size (omega arith) (omega arith)) refl

  compares_same : (f : ℕ) → compares_ok b i f ≡ compares_ok c j f
  unfolding compares_ok type_at finite
  compares_same f =
      rw (span_same, h 4 (omega arith), h 5 (omega arith), big_same b i c j (but_span b i c j h) 8 8 (omega arith) (omega arith), zeros_all 18 size (omega arith) (omega arith)) refl

  obligation_same : obligation_ok b i ≡ obligation_ok c j
  unfolding obligation_ok
  obligation_same = rw (span_same, zeros_all 4 6 (omega arith) (omega arith), zeros_all 8 size (omega arith) (omega arith)) refl

  literal_same : literal_ok b i ≡ literal_ok c j
  unfolding literal_ok finite
  literal_same =
      rw (
        span_same,
        h 5 (omega arith),
        zeros_all 4 5 (omega arith) (omega arith),
        zeros_all 6 8 (omega arith) (omega arith),
        zeros_all 16 size (omega arith) (omega arith),
        big_same b i c j (but_span b i c j h) 8 8 (omega arith) (omega arith),
      )
      refl

  attribute_same : attribute_ok b i ≡ attribute_ok c j
  unfolding attribute_ok type_at
  attribute_same = rw (span_same, h 4 (omega arith), h 5 (omega arith), zeros_all 8 16 (omega arith) (omega arith), zeros_all 18 size (omega arith) (omega arith)) refl

  rules_same : (k : Kind) → rules_of b i k ≡ rules_of c j k
  rules_same PolicySet = plain_same 1
  rules_same Policy = plain_same 1
  rules_same Rule = plain_same 1
  rules_same Section = section_same
  rules_same Conjunction = plain_same 2
  rules_same Match = ap (compares_ok b i) (h 1 (omega arith)) ∙ compares_same (byte_of c j 1)
  rules_same Logic = plain_same 1
  rules_same Not = plain_same 2
  rules_same Comparison = ap (λ (x : ℕ). compares_ok b i (x - 10)) (h 1 (omega arith)) ∙ compares_same (byte_of c j 1 - 10)
  rules_same Weighing = plain_same 1
  rules_same Obligation = obligation_same
  rules_same Literal = literal_same
  rules_same Attribute = attribute_same
  rules_same Operator = plain_same 1
  rules_same Nothing = refl

  pub field_same : field_ok b i ≡ field_ok c j
  unfolding field_ok
  field_same = ap (rules_of b i) (kind_same b i c j (but_span b i c j h)) ∙ rules_same (kind_at c j)

-- a record by itself has the bytes that it has in the book
pub record_bytes : (b : List ℕ) (i : ℕ) → SameRecord (record_at b i) 0 b i
unfolding record_at
record_bytes b i k l = rw (zero-add k) (get_d_tab (byte_of b i) size k l)

pub record_length : (b : List ℕ) (i : ℕ) → length (record_at b i) ≡ size
unfolding record_at
record_length b i = length_tab (byte_of b i) size

pub record_but_span : (b : List ℕ) (i : ℕ) → SameButSpan (record_at b i) 0 b i
record_but_span b i = but_span (record_at b i) 0 b i (record_bytes b i)

-- record i keeps its field rules and states that n records are below it
pub record Heads (b : List ℕ) (i n : ℕ) : Type 0 where
  pub fields : field_ok b i ≡ true
  pub span : span_of b i ≡ suc n

-- record i may stand as a child of u, after a child of rank e
pub record MayStand (u : Parent) (e : ℕ) (b : List ℕ) (i : ℕ) : Type 0 where
  pub stands : stands_ok u.number (kind_at b i) (byte_of b i 4) e u.grand ≡ true
  pub deep : u.above < most_depth

pub record_parts : (r : List ℕ) (n : ℕ) → record_ok r n ≡ true → (length r ≡ size) × Heads r 0 n
unfolding record_ok
record_parts r n e =
    let x = both_parts (eqb (length r) size) (both (field_ok r 0) (eqb (span_of r 0) (suc n))) e in
    let y = both_parts (field_ok r 0) (eqb (span_of r 0) (suc n)) x.1 in
    (eqb-true (length r) size x.0, record { fields = y.0; span = eqb-true (span_of r 0) (suc n) y.1 })

pub parts_record : (r : List ℕ) (n : ℕ) → length r ≡ size → Heads r 0 n → record_ok r n ≡ true
unfolding record_ok
parts_record r n l w = rw (eq-eqb (length r) size l, w.fields, eq-eqb (span_of r 0) (suc n) w.span) refl

pub child_parts : (u : Parent) (e : ℕ) (r : List ℕ) → child_ok u e r ≡ true → MayStand u e r 0
unfolding child_ok
child_parts u e r q =
    let x = both_parts (stands_ok u.number (kind_at r 0) (byte_of r 0 4) e u.grand) (ltb u.above most_depth) q in
    record { stands = x.0; deep = ltb-true u.above most_depth x.1 }

pub parts_child : (u : Parent) (e : ℕ) (r : List ℕ) → MayStand u e r 0 → child_ok u e r ≡ true
unfolding child_ok
parts_child u e r w = rw (w.stands, lt-ltb u.above most_depth w.deep) refl

-- wherever its bytes stand
module _ (b : List ℕ) (i : ℕ) (c : List ℕ) (j : ℕ) (h : SameRecord b i c j) where
  pub heads_same : (n : ℕ) → Heads b i n → Heads c j n
  heads_same n w = record { fields = sym (field_same b i c j h) ∙ w.fields; span = sym (span_same b i c j h) ∙ w.span }

  pub stand_same : (u : Parent) (e : ℕ) → MayStand u e b i → MayStand u e c j
  stand_same u e w = record { stands = rw (← kind_same b i c j (but_span b i c j h), ← h 4 (omega arith)) w.stands; deep = w.deep }
