-- The meaning of records is read off their own bytes, and their spans only say which are children of which. Assumes nothing.
use mathlib.Core.Path.{◌≡◌, refl, sym, ap, ◌∙◌}
use mathlib.Core.Bool.{Bool}
use mathlib.Core.List.{List}
use Prim.Native.Nat.{ℕ, ◌+◌, ◌-◌, ◌*◌, ◌≤◌, ◌<◌}
use native.Mathlib.Omega.{arith}
use lib.Dec.{eqb, ltb}
use Rattle.record.specs.Choose.{if, either}
use Rattle.record.specs.Bytes.{size, byte_of, big_of}
use Rattle.record.specs.Forest.{Forest, none, node, forest}
use Rattle.value.specs.Value.{function_of}
use Rattle.meaning.specs.Policy.{last, Expr, attribute, operate, Conditions, no_part, part, compares, weighs, all, any, whenever, Trees}
use Rattle.meaning.specs.Reading.{is_kind, key_at, test_at, match_at, comparison_at, row_of, children_at, conjunction_at, section_at, target_in, not_at, of_two, operator_of, expr_at, exprs_in, weighs_at, condition_at, conditions_in, when_in, rule_at, rules_in, obligation_at, obligations_in, tree_at, trees_in}
use Rattle.structure.specs.Subtrees.{Subtrees, no_subtree, subtree, record_at, subtrees_in, subtrees_of, SameButSpan}
use Rattle.structure.specs.ReadAlike.{ReadAlike, SameIsReadAlike}
use Rattle.structure.proofs.Records.{kind_byte, choice_byte, later_byte, big_same, record_bytes}
use Rattle.structure.proofs.Subtrees.{subtrees_same}

-- a choice by the same test between the same things
pub if_same : {A : Type 0} (p q : Bool) (x y v w : A) → p ≡ q → x ≡ v → y ≡ w → if p x y ≡ if q v w
if_same p q x y v w e f g = rw (e, f, g) refl

-- the same of the same two values
two_same : {A : Type 0} (f g : Expr → Expr → A) (x y : A) (es ds : List Expr) → f ≡ g → x ≡ y → es ≡ ds → of_two f x es ≡ of_two g y ds
two_same f g x y es ds p q e = rw (p, q, e) refl

module _ (b c : List ℕ) where
  -- two forests of one shape, whose records differ in nothing but their spans
  pub data AlikeForests : Forest → Forest → Type 0 where
    nones : AlikeForests none none
    nodes : {i j : ℕ} {below below' rest rest' : Forest} → SameButSpan b i c j → AlikeForests below below' → AlikeForests rest rest'
        → AlikeForests (node i below rest) (node j below' rest')

  module _ (i j : ℕ) (h : SameButSpan b i c j) where
    pub kind_is : (k : ℕ) → is_kind b i k ≡ is_kind c j k
    kind_is k = ap (λ (x : ℕ). eqb x k) (kind_byte b i c j h)

    choice_same : byte_of b i 1 ≡ byte_of c j 1
    choice_same = choice_byte b i c j h

    choice_is : (k : ℕ) → eqb (byte_of b i 1) k ≡ eqb (byte_of c j 1) k
    choice_is k = ap (λ (x : ℕ). eqb x k) choice_same

    type_byte : byte_of b i 5 ≡ byte_of c j 5
    type_byte = later_byte b i c j h 5 (omega arith) (omega arith)

    value_same : big_of b (i * size + 8) 8 ≡ big_of c (j * size + 8) 8
    value_same = big_same b i c j h 8 8 (omega arith) (omega arith)

    key_same : key_at b i ≡ key_at c j
    unfolding key_at
    key_same =
        let x : (k : ℕ) → 4 ≤ k → k < size → byte_of b i k ≡ byte_of c j k = later_byte b i c j h in
        rw (x 4 (omega arith) (omega arith), type_byte, x 6 (omega arith) (omega arith), x 7 (omega arith) (omega arith), big_same b i c j h 16 2 (omega arith) (omega arith)) refl

    test_same : (f : ℕ) → test_at b i f ≡ test_at c j f
    unfolding test_at
    test_same f = rw (type_byte, key_same, value_same) refl

    match_same : match_at b i ≡ match_at c j
    unfolding match_at
    match_same = ap (test_at b i) choice_same ∙ test_same (byte_of c j 1)

    comparison_same : comparison_at b i ≡ comparison_at c j
    unfolding comparison_at
    comparison_same = ap (λ (x : ℕ). test_at b i (x - 10)) choice_same ∙ test_same (byte_of c j 1 - 10)

    not_same : (cs : Conditions) → not_at b i cs ≡ not_at c j cs
    not_same no_part = ap compares comparison_same
    not_same (part x xs) = refl

    expr_same : (es ds : List Expr) → es ≡ ds → expr_at b i es ≡ expr_at c j ds
    unfolding expr_at
    expr_same es ds e =
        if_same _ _ _ _ _ _ (choice_is 1) (rw (type_byte, value_same) refl)
        (if_same _ _ _ _ _ _ (choice_is 2) (ap attribute key_same)
        (two_same _ _ _ _ es ds (ap (λ (x : ℕ). operate (operator_of x)) choice_same) (rw (choice_same, value_same) refl) e))

    weighs_same : (es ds : List Expr) → es ≡ ds → weighs_at b i es ≡ weighs_at c j ds
    weighs_same es ds e = two_same _ _ _ _ es ds (ap (λ (x : ℕ). weighs (function_of (x - 20))) choice_same) (ap compares comparison_same) e

    condition_same : (cs ds : Conditions) (es fs : List Expr) → cs ≡ ds → es ≡ fs → condition_at b i cs es ≡ condition_at c j ds fs
    unfolding condition_at
    condition_same cs ds es fs e v =
        if_same _ _ _ _ _ _ (choice_is 1) (ap all e)
        (if_same _ _ _ _ _ _ (choice_is 2) (ap any e)
        (if_same _ _ _ _ _ _ (choice_is 3) (ap (not_at b i) e ∙ not_same ds)
        (if_same _ _ _ _ _ _ (ap (λ (x : ℕ). ltb 20 x) choice_same) (weighs_same es fs v) (ap compares comparison_same))))

    pub obligation_same : obligation_at b i ≡ obligation_at c j
    obligation_same = rw (choice_same, big_same b i c j h 6 2 (omega arith) (omega arith)) refl

  -- children that are read by functions that agree
  module _ {A : Type 0} (f g : ℕ → Forest → A) (same : (i j : ℕ) (x y : Forest) → SameButSpan b i c j → AlikeForests x y → f i x ≡ g j y) where
    row_same : (i j : ℕ) (x y : Forest) {r s : Forest} → SameButSpan b i c j → AlikeForests x y → AlikeForests r s → row_of f i x r ≡ row_of g j y s
    unfolding row_of
    row_same i j x y h a nones = ap last (same i j x y h a)
    row_same i j x y h a (nodes {i = m} {j = n} {below = v} {below' = w} k p q) = rw (same i j x y h a, row_same m n v w k p q) refl

    children_same : (i j : ℕ) {x y : Forest} → SameButSpan b i c j → AlikeForests x y → children_at f i x ≡ children_at g j y
    unfolding children_at
    children_same i j h nones = ap last (same i j none none h nones)
    children_same i j h (nodes {i = m} {j = n} {below = v} {below' = w} k p q) = row_same m n v w k p q

  conjunction_same : (i j : ℕ) (x y : Forest) → SameButSpan b i c j → AlikeForests x y → conjunction_at b i x ≡ conjunction_at c j y
  unfolding conjunction_at
  conjunction_same i j x y h a =
      children_same (λ (k : ℕ) (z : Forest). match_at b k) (λ (k : ℕ) (z : Forest). match_at c k) (λ m n v w k p. match_same m n k) i j h a

  pub section_same : (i j : ℕ) (x y : Forest) → SameButSpan b i c j → AlikeForests x y → section_at b i x ≡ section_at c j y
  unfolding section_at
  section_same i j x y h a = children_same (conjunction_at b) (conjunction_at c) conjunction_same i j h a

  target_same : {x y : Forest} → AlikeForests x y → target_in b x ≡ target_in c y
  unfolding target_in
  target_same nones = refl
  target_same (nodes {i = i} {j = j} {below = v} {below' = w} h p q) =
      if_same _ _ _ _ _ _ (kind_is i j h 4) (rw (section_same i j v w h p, target_same q) refl) refl

  values_same : {x y : Forest} → AlikeForests x y → exprs_in b x ≡ exprs_in c y
  unfolding exprs_in
  values_same nones = refl
  values_same (nodes {i = i} {j = j} h p q) = rw (expr_same i j h _ _ (values_same p), values_same q) refl

  conditions_same : {x y : Forest} → AlikeForests x y → conditions_in b x ≡ conditions_in c y
  unfolding conditions_in
  conditions_same nones = refl
  conditions_same (nodes {i = i} {j = j} h p q) = rw (condition_same i j h _ _ _ _ (conditions_same p) (values_same p), conditions_same q) refl

  when_same : {x y : Forest} → AlikeForests x y → when_in b x ≡ when_in c y
  unfolding when_in
  when_same nones = refl
  when_same (nodes {i = i} {j = j} h p q) =
      if_same _ _ _ _ _ _ (kind_is i j h 7) (ap whenever (condition_same i j h _ _ _ _ (conditions_same p) (values_same p))) (when_same q)

  pub rule_same : (i j : ℕ) (x y : Forest) → SameButSpan b i c j → AlikeForests x y → rule_at b i x ≡ rule_at c j y
  unfolding rule_at
  rule_same i j x y h a = rw (choice_same i j h, target_same a, when_same a) refl

  rules_same : {x y : Forest} → AlikeForests x y → rules_in b x ≡ rules_in c y
  unfolding rules_in
  rules_same nones = refl
  rules_same (nodes {i = i} {j = j} {below = v} {below' = w} h p q) =
      if_same _ _ _ _ _ _ (kind_is i j h 3) (rw (rule_same i j v w h p, rules_same q) refl) (rules_same q)

  obligations_same : {x y : Forest} → AlikeForests x y → obligations_in b x ≡ obligations_in c y
  unfolding obligations_in
  obligations_same nones = refl
  obligations_same (nodes {i = i} {j = j} h p q) =
      if_same _ _ _ _ _ _ (kind_is i j h 8) (rw (obligation_same i j h, obligations_same q) refl) (obligations_same q)

  -- the policy or set at a record
  pub policy_same : (i j : ℕ) (x y : Forest) (ns ms : Trees) → SameButSpan b i c j → AlikeForests x y → ns ≡ ms → tree_at b i x ns ≡ tree_at c j y ms
  unfolding tree_at
  policy_same i j x y ns ms h a e =
      if_same _ _ _ _ _ _ (kind_is i j h 1)
      (rw (choice_same i j h, target_same a, e, obligations_same a) refl)
      (rw (choice_same i j h, target_same a, rules_same a, obligations_same a) refl)

  policies_same : {x y : Forest} → AlikeForests x y → trees_in b x ≡ trees_in c y
  unfolding trees_in
  policies_same nones = refl
  policies_same (nodes {i = i} {j = j} {below = v} {below' = w} h p q) =
      if_same _ _ _ _ _ _ (ap (λ (n : ℕ). either (eqb n 1) (eqb n 2)) (kind_byte b i c j h))
      (rw (policy_same i j v w _ _ h p (policies_same p), policies_same q) refl) (policies_same q)

pub alike_is_read_alike : (b c : List ℕ) {f g : Forest} → AlikeForests b c f g → ReadAlike b f c g
alike_is_read_alike b c a =
    record {
      target = target_same b c a;
      values = values_same b c a;
      conditions = conditions_same b c a;
      condition = when_same b c a;
      rules = rules_same b c a;
      obligations = obligations_same b c a;
      policies = policies_same b c a;
    }

-- forests that are the same subtrees are alike
no_path : {A : Type 0} (r : List ℕ) (x y : Subtrees) → no_subtree ≡ subtree r x y → A
no_path r x y e = let z : ◌≡◌ {A = ℕ} 0 1 = cc in absurd (omega arith)

nodes_alike : (b c : List ℕ) (i j : ℕ) (x y r s : Forest) → subtree (record_at b i) (subtrees_in b x) (subtrees_in b r) ≡ subtree (record_at c j) (subtrees_in c y) (subtrees_in c s)
    → (record_at b i ≡ record_at c j) × (subtrees_in b x ≡ subtrees_in c y) × (subtrees_in b r ≡ subtrees_in c s)
nodes_alike b c i j x y r s e = ((cc), (cc), (cc))

records_alike : (b c : List ℕ) (i j : ℕ) → record_at b i ≡ record_at c j → SameButSpan b i c j
records_alike b c i j e k l x y = sym (record_bytes b i k l) ∙ ap (λ (r : List ℕ). byte_of r 0 k) e ∙ record_bytes c j k l

pub subtrees_alike : (b c : List ℕ) (f g : Forest) → subtrees_in b f ≡ subtrees_in c g → AlikeForests b c f g
unfolding subtrees_in
subtrees_alike b c none none e = nones
subtrees_alike b c none (node j y s) e = no_path (record_at c j) (subtrees_in c y) (subtrees_in c s) e
subtrees_alike b c (node i x r) none e = no_path (record_at b i) (subtrees_in b x) (subtrees_in b r) (sym e)
subtrees_alike b c (node i x r) (node j y s) e =
    let z = nodes_alike b c i j x y r s e in
    nodes (records_alike b c i j z.0) (subtrees_alike b c x y z.1) (subtrees_alike b c r s z.2)

pub same_is_read_alike : SameIsReadAlike
unfolding subtrees_of
same_is_read_alike b i c j s h = alike_is_read_alike b c (subtrees_alike b c (forest b i s) (forest c j s) (subtrees_same b i c j s h))
