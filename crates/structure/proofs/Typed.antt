-- The operands of a book that keeps the rules are read as two values of one type, and the tree of an accepted book is typed: the claims of
-- `specs/Typed.antt`. Assumes nothing.
use mathlib.Core.Path.{◌≡◌, refl, sym, ap, ◌∙◌}
use mathlib.Core.Bool.{Bool, true, false}
use mathlib.Core.List.{List, [], ◌∷◌}
use Prim.Native.Nat.{ℕ, zero, suc, ◌+◌, ◌-◌, ◌*◌, ◌/◌, ◌%◌, ◌≤◌, ◌<◌}
use native.Mathlib.Omega.{arith}
use lib.Dec.{eqb, ltb}
use lib.ListN.{length}
use borrow.Author.Tests.{eqb-true, ne_eqb, ltb-true, ltb-false}
use Rattle.record.specs.Choose.{if, among}
use Rattle.record.specs.Bytes.{size, Bytes, byte_of, span_of}
use Rattle.record.specs.Below.{all_below}
use Rattle.record.specs.Forest.{Forest, none, node, forest}
use Rattle.record.proofs.Choose.{no_false, both_parts}
use Rattle.record.proofs.Below.{all_at}
use Rattle.fields.specs.Fields.{kind_at, field_ok}
use Rattle.fields.specs.declared.Kind.TheVariants.{Weighing, Operator}
use Rattle.fields.proofs.First.{by}
use Rattle.sums.specs.Sums.{kind_of}
use Rattle.meaning.specs.Policy.{Key, Expr, attribute, operate, Conditions, no_part, part, Trees}
use Rattle.meaning.specs.Numbers.{key_by}
use Rattle.meaning.specs.Meaning.{type_of}
use Rattle.meaning.specs.Reading.{is_kind, is_party, key_at, test_at, not_at, operator_of, literal_at, expr_at, exprs_in, weighs_at, condition_at, conditions_in, condition_from, when_in, rule_at, rules_in, tree_at, trees_in, book_of}
use Rattle.meaning.specs.Typed.{Typed, TypedCondition, TypedConditions, TypedWhen, TypedRules, TypedTree, TypedTrees}
use Rattle.meaning.proofs.Keys.{key_of_record}
use Rattle.meaning.proofs.Typed.{eight}
use Rattle.operands.specs.Operands.{value_type, operator_type, comparable_by, operands_ok}
use Rattle.placement.specs.Place.{kind_number, rank_at}
use Rattle.judge.proofs.Sound.{top_kept}
use Rattle.judge.proofs.Exactly.{accepted_keeps}
use Rattle.structure.specs.Subtrees.{record_at, subtrees_in, subtrees_of}
use Rattle.structure.specs.Sound.{Parent, as_parent, line_one, first_type, two_of, operands_in, sound, sound_at}
use Rattle.structure.specs.Typed.{TwoValues, TwoCompared, below, ReadAsTwo, AcceptedIsTyped}
use Rattle.structure.proofs.Records.{record_bytes, record_but_span, record_parts, heads_same, kind_same, choice_byte, type_same}
use Rattle.structure.proofs.Sound.{sound_parts, first_of}
use Rattle.structure.proofs.Accepted.{kept_below}
use Rattle.structure.proofs.Choices.{ReadAs, is_literal, is_attribute, is_operator, is_weighing, is_other, read_as, literal_type_lem}

-- record i, with the records below it, keeps the field rules and has the operands that it wants; and so do all records of a forest
record Whole (b : List ℕ) (i : ℕ) (kids : Forest) : Type 0 where
  pub fields : field_ok b i ≡ true
  pub operands : operands_in (record_at b i) (subtrees_in b kids) ≡ true

AllWhole : List ℕ → Forest → Type 0
AllWhole b none = Unit
AllWhole b (node i kids rest) = Whole b i kids × AllWhole b kids × AllWhole b rest

sound_whole : (u : Parent) (e : ℕ) (b : List ℕ) (f : Forest) → sound u e (subtrees_in b f) ≡ true → AllWhole b f
unfolding subtrees_in AllWhole
sound_whole u e b none h = tt
sound_whole u e b (node i kids rest) h =
    let z = sound_parts u e (record_at b i) (subtrees_in b kids) (subtrees_in b rest) h in
    let w = heads_same (record_at b i) 0 b i (record_bytes b i) _ (record_parts (record_at b i) _ z.0).1 in
    (record { fields = w.fields; operands = z.2 }, sound_whole (as_parent u (record_at b i) 0) 0 b kids z.3, sound_whole u (rank_at (record_at b i) 0) b rest z.4)

-- the type of an operator, by its number
operators : all_below (λ (k : ℕ). eqb (kind_of (operator_of (3 + k))) (operator_type (3 + k))) 6 ≡ true
unfolding all_below
operators = refl

operator_type_lem : (c : ℕ) → 3 ≤ c → c ≤ 8 → kind_of (operator_of c) ≡ operator_type c
operator_type_lem c l m =
    let q : 3 + (c - 3) ≡ c = omega arith in
    eqb-true (kind_of (operator_of c)) (operator_type c) (rw q at (all_at _ 6 operators (c - 3) (omega arith)))

operator_some : (c : ℕ) → 0 < operator_type c
operator_some c = by (eqb c 8) (λ t. rw t (omega arith)) (λ t. rw t (omega arith))

comparable_some : (t c : ℕ) → comparable_by t c ≡ true → 0 < t
unfolding comparable_by
comparable_some t c e = by (eqb t 2) (λ q. omega (arith, eqb-true t 2 q)) (λ q. ltb-true 0 t (rw q at e))

-- what both of two choices have, the chosen one has
chosen : {A : Type 0} (P : A → Type 0) (t : Bool) {x y : A} → (t ≡ true → P x) → P y → P (if t x y)
chosen P true f g = f refl
chosen P false f g = g

not_typed : (b : List ℕ) (i : ℕ) (cs : Conditions) → TypedConditions cs → TypedCondition (not_at b i cs)
unfolding TypedCondition
not_typed b i no_part h = tt
not_typed b i (part c cs) h = h.0

module _ (b : List ℕ) (h : Bytes b) where
  -- how a value is read, by its choice
  expr_literal : (i : ℕ) (es : List Expr) → byte_of b i 1 ≡ 1 → expr_at b i es ≡ literal_at b i
  unfolding expr_at
  expr_literal i es e = rw e refl

  expr_attribute : (i : ℕ) (es : List Expr) → byte_of b i 1 ≡ 2 → expr_at b i es ≡ attribute (key_at b i)
  unfolding expr_at
  expr_attribute i es e = rw e refl

  expr_operator : (i : ℕ) (x y : Expr) → 3 ≤ byte_of b i 1 → expr_at b i (x ∷ y ∷ []) ≡ operate (operator_of (byte_of b i 1)) x y
  unfolding expr_at
  expr_operator i x y l = rw (ne_eqb (byte_of b i 1) 1 (λ z. omega arith), ne_eqb (byte_of b i 1) 2 (λ z. omega arith)) refl

  key_type : (i : ℕ) → (key_by (key_at b i)).type ≡ byte_of b i 5 % 128
  unfolding test_at
  key_type i = ap (λ (x : Key). x.type) (key_of_record b i 0 h)

  -- what a record wants, by its kind
  module _ (i : ℕ) (kids : Forest) (w : Whole b i kids) where
    wants : operands_ok (kind_at b i) (byte_of b i 1) (first_type (subtrees_in b kids)) (two_of (subtrees_in b kids)) ≡ true
    unfolding operands_in
    wants = rw (kind_same (record_at b i) 0 b i (record_but_span b i), choice_byte (record_at b i) 0 b i (record_but_span b i)) at w.operands

    operator_wants : kind_at b i ≡ Operator → two_of (subtrees_in b kids) (operator_type (byte_of b i 1)) ≡ true
    operator_wants q = rw q at wants

    weighing_wants : kind_at b i ≡ Weighing
        → (comparable_by (first_type (subtrees_in b kids)) (byte_of b i 1) ≡ true) × (two_of (subtrees_in b kids) (first_type (subtrees_in b kids)) ≡ true)
    weighing_wants q = both_parts (comparable_by (first_type (subtrees_in b kids)) (byte_of b i 1)) _ (rw q at wants)

    -- a value is read as one of its type, where two values below it are
    module _ (two : (t : ℕ) → 0 < t → two_of (subtrees_in b kids) t ≡ true → TwoValues b kids t) where
      value_by : ReadAs b i → 0 < value_type b i → (type_of (expr_at b i (exprs_in b kids)) ≡ value_type b i) × Typed (expr_at b i (exprs_in b kids))
      unfolding value_type Typed
      value_by (is_literal q c) l = rw (expr_literal i (exprs_in b kids) c) (sym (literal_type_lem b i w.fields q), eight b (i * size + 8) h)
      value_by (is_attribute q c) l = rw (expr_attribute i (exprs_in b kids) c, q) (key_type i, tt)
      value_by (is_operator q c d) l =
          let v = two (operator_type (byte_of b i 1)) (operator_some (byte_of b i 1)) (operator_wants q) in
          let o = operator_type_lem (byte_of b i 1) c d in
          rw (v.only, expr_operator i v.first v.second c, q)
          (o, (v.first_type_lem ∙ sym o, v.second_type ∙ sym o, v.first_typed, v.second_typed))
      value_by (is_weighing q) l = absurd (omega (arith, (rw q at l)))
      value_by (is_other q c) l = absurd (omega arith)

      value_is : (t : ℕ) → 0 < t → eqb (value_type (record_at b i) 0) t ≡ true → (type_of (expr_at b i (exprs_in b kids)) ≡ t) × Typed (expr_at b i (exprs_in b kids))
      value_is t l e =
          let q : value_type b i ≡ t = sym (type_same (record_at b i) 0 b i (record_but_span b i)) ∙ eqb-true (value_type (record_at b i) 0) t e in
          rw q at (value_by (read_as b i w.fields) (omega arith))

  two_values_lem : (f : Forest) → AllWhole b f → (t : ℕ) → 0 < t → two_of (subtrees_in b f) t ≡ true → TwoValues b f t
  unfolding AllWhole subtrees_in two_of exprs_in
  two_values_lem none w t l e = no_false e
  two_values_lem (node i x none) w t l e = no_false e
  two_values_lem (node i x (node j y none)) w t l e =
      let s = both_parts (eqb (value_type (record_at b i) 0) t) (eqb (value_type (record_at b j) 0) t) e in
      let p = value_is i x w.0 (two_values_lem x w.1) t l s.0 in
      let q = value_is j y w.2.0 (two_values_lem y w.2.1) t l s.1 in
      record {
        first = expr_at b i (exprs_in b x);
        second = expr_at b j (exprs_in b y);
        only = refl;
        first_type_lem = p.0;
        second_type = q.0;
        first_typed = p.1;
        second_typed = q.1;
      }
  two_values_lem (node i x (node j y (node m z rest))) w t l e = no_false e

  -- so are the operands of an operator, and of a comparison of values
  module _ (i : ℕ) (kids : Forest) (w : Whole b i kids) (all : AllWhole b kids) where
    operator_two : kind_at b i ≡ Operator → TwoValues b kids (operator_type (byte_of b i 1))
    operator_two q = two_values_lem kids all (operator_type (byte_of b i 1)) (operator_some (byte_of b i 1)) (operator_wants i kids w q)

    weighing_two : kind_at b i ≡ Weighing → TwoCompared b kids (byte_of b i 1)
    weighing_two q =
        let t : ℕ = first_type (subtrees_in b kids) in
        let v = weighing_wants i kids w q in
        record { type = t; comparable = v.0; values = two_values_lem kids all t (comparable_some t (byte_of b i 1) v.0) v.1 }

    -- a condition at that record, where those below it are typed
    weighs_typed : ReadAs b i → 20 < byte_of b i 1 → TypedCondition (weighs_at b i (exprs_in b kids))
    unfolding TypedCondition
    weighs_typed (is_literal q c) l = absurd (omega arith)
    weighs_typed (is_attribute q c) l = absurd (omega arith)
    weighs_typed (is_operator q c d) l = absurd (omega arith)
    weighs_typed (is_weighing q) l = let v = (weighing_two q).values in rw v.only (v.first_type_lem ∙ sym v.second_type, v.first_typed, v.second_typed)
    weighs_typed (is_other q c) l = absurd (omega arith)

    condition_typed : TypedConditions (conditions_in b kids) → TypedCondition (condition_from b i kids)
    unfolding condition_at TypedCondition
    condition_typed cs =
        chosen TypedCondition (eqb (byte_of b i 1) 1) (λ t. cs)
        (chosen TypedCondition (eqb (byte_of b i 1) 2) (λ t. cs)
        (chosen TypedCondition (eqb (byte_of b i 1) 3) (λ t. not_typed b i (conditions_in b kids) cs)
        (chosen TypedCondition (ltb 20 (byte_of b i 1)) (λ t. weighs_typed (read_as b i w.fields) (ltb-true 20 (byte_of b i 1) t)) tt)))

  -- forests, as they are read
  conditions_typed : (f : Forest) → AllWhole b f → TypedConditions (conditions_in b f)
  unfolding AllWhole conditions_in TypedConditions
  conditions_typed none w = tt
  conditions_typed (node i kids rest) w = (condition_typed i kids w.0 w.1 (conditions_typed kids w.1), conditions_typed rest w.2)

  when_typed : (f : Forest) → AllWhole b f → TypedWhen (when_in b f)
  unfolding AllWhole when_in TypedWhen
  when_typed none w = tt
  when_typed (node i kids rest) w =
      chosen TypedWhen (is_kind b i 7) (λ t. condition_typed i kids w.0 w.1 (conditions_typed kids w.1)) (when_typed rest w.2)

  rules_typed : (f : Forest) → AllWhole b f → TypedRules (rules_in b f)
  unfolding AllWhole rules_in rule_at TypedRules
  rules_typed none w = tt
  rules_typed (node i kids rest) w =
      chosen TypedRules (is_kind b i 3) (λ t. (when_typed kids w.1, rules_typed rest w.2)) (rules_typed rest w.2)

  tree_typed : (i : ℕ) (kids : Forest) (ns : Trees) → AllWhole b kids → TypedTrees ns → TypedTree (tree_at b i kids ns)
  unfolding tree_at TypedTree
  tree_typed i kids ns w v = chosen TypedTree (is_kind b i 1) (λ t. v) (rules_typed kids w)

  trees_typed : (f : Forest) → AllWhole b f → TypedTrees (trees_in b f)
  unfolding AllWhole trees_in TypedTrees
  trees_typed none w = tt
  trees_typed (node i kids rest) w =
      chosen TypedTrees (is_party b i) (λ t. (tree_typed i kids _ w.1 (trees_typed kids w.1), trees_typed rest w.2)) (trees_typed rest w.2)

pub accepted_is_typed : AcceptedIsTyped
unfolding book_of sound_at subtrees_of
accepted_is_typed b n m h e =
    let k = (accepted_keeps b n m e).0 in
    let q : length b / size ≡ n = omega (arith, k.sized.bytes) in
    let kids : Forest = forest b 1 (n - 1) in
    let w = sound_whole (line_one b) 0 b kids (kept_below b n k).sound in
    rw q (tree_typed b h 0 kids (trees_in b kids) w (trees_typed b h kids w))

-- record j, where it stands among sound records
record WholeAt (b : List ℕ) (j : ℕ) : Type 0 where
  pub here : Whole b j (below b j)
  pub under : AllWhole b (below b j)

whole_f : (f : ℕ) (u : Parent) (e : ℕ) (b : List ℕ) (i left : ℕ) → left ≤ f → sound_at u e b i left ≡ true → (j : ℕ) → i ≤ j → j < i + left → WholeAt b j
unfolding sound_at subtrees_of
whole_f zero u e b i left l x j a z = absurd (omega arith)
whole_f (suc f) u e b i zero l x j a z = absurd (omega arith)
whole_f (suc f) u e b i (suc k) l x j a z =
    let w = first_of u e b i (suc k) (omega arith) x in
    let some = w.some in
    let within = w.within in
    by (ltb i j)
    (λ t. let after = ltb-true i j t in
    by (ltb j (i + span_of b i))
    (λ d. whole_f f (as_parent u b i) 0 b (i + 1) (span_of b i - 1) (omega arith) w.kids j (omega arith) (omega (arith, ltb-true j (i + span_of b i) d)))
    (λ d. whole_f f u _ b (i + span_of b i) (suc k - span_of b i) (omega arith) w.rest j (ltb-false j (i + span_of b i) d) (omega arith)))
    (λ t. let q : j ≡ i = omega (arith, ltb-false i j t) in
    rw q (record { here = record { fields = w.fields; operands = w.operands }; under = sound_whole (as_parent u b i) 0 b (below b i) w.kids }))

pub read_as_two : ReadAsTwo
read_as_two b n i h k l =
    let w = kept_below b n k in
    by (ltb 0 i)
    (λ t. let v = whole_f (n - 1) (line_one b) 0 b 1 (n - 1) (omega arith) w.sound i (omega (arith, ltb-true 0 i t)) (omega arith) in
    (operator_two b h i (below b i) v.here v.under, weighing_two b h i (below b i) v.here v.under))
    (λ t. let q : i ≡ 0 = omega (arith, ltb-false 0 i t) in
    let top : among 1 2 (kind_number (kind_at b i)) ≡ true = rw q (top_kept b n k.sized w.place).0 in
    ((λ o. no_false (rw o at top)), (λ o. no_false (rw o at top))))
