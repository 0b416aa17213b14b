-- How records are read of which a row was reordered, among them or below one. Assumes nothing.
use Prim.Native.Nat.{ℕ}
use mathlib.Core.Path.{◌≡◌, refl, sym}
use mathlib.Core.Bool.{Bool, true, false}
use mathlib.Core.List.{List, ◌∷◌}
use Rattle.record.specs.Choose.{if}
use Rattle.record.specs.Forest.{Forest, node}
use Rattle.meaning.specs.Policy.{Target, Rule, Obligation, Tree, policy, set, Trees, no_tree, tree}
use Rattle.meaning.specs.Reading.{is_kind, is_party, choice_at, target_in, rule_at, rules_in, obligations_in, rules_by, policies_by, tree_at, trees_in}
use Rattle.structure.specs.Subtrees.{SameButSpan}
use Rattle.structure.specs.ReadAlike.{ReadAlike}
use Rattle.structure.proofs.Records.{kind_byte, choice_byte}
use Rattle.structure.proofs.ReadAlike.{AlikeForests, if_same, kind_is, obligation_same, section_same, rule_same, policy_same, alike_is_read_alike}
use Rattle.order.specs.Reordered.{Reordered, keep}
use Rattle.order.specs.Rearranged.{listed, Rearranged, as_is, rules, children, inside, RearrangedEach, none as no-tree, each}

-- the rules, policies and sets among records f of b and g of c, children of record q, where a row of children of record p was reordered: the row is among these
-- records, or below one of them
pub data PartsTurned (may : Tree → Bool) (p q : ℕ) (b : List ℕ) (f : Forest) (c : List ℕ) (g : Forest) : Type 0 where
  here : q ≡ p → Reordered Rule (rules_in b f) (rules_in c g) → Reordered Tree (listed (trees_in b f)) (listed (trees_in c g)) → PartsTurned may p q b f c g
  below : rules_in b f ≡ rules_in c g → RearrangedEach may (trees_in b f) (trees_in c g) → PartsTurned may p q b f c g

-- all that is read of them
pub record ReadTurned (may : Tree → Bool) (p q : ℕ) (b : List ℕ) (f : Forest) (c : List ℕ) (g : Forest) : Type 0 where
  pub target : target_in b f ≡ target_in c g
  pub obligations : obligations_in b f ≡ obligations_in c g
  pub turned : PartsTurned may p q b f c g

-- the first of some stays, or is rearranged, and what follows it is reordered or rearranged
first_reordered : (t : Bool) {A : Type 0} (x : A) {xs ys : List A} → Reordered A xs ys → Reordered A (if t (x ∷ xs) xs) (if t (x ∷ ys) ys)
first_reordered true x r = keep r
first_reordered false x r = r

first_listed : (t : Bool) (n : Tree) (ns ms : Trees) → Reordered Tree (listed ns) (listed ms)
    → Reordered Tree (listed (if t (tree n ns) ns)) (listed (if t (tree n ms) ms))
unfolding listed
first_listed true n ns ms r = keep r
first_listed false n ns ms r = r

first_each : {may : Tree → Bool} (t : Bool) {n m : Tree} {ns ms : Trees} → Rearranged may n m → RearrangedEach may ns ms
    → RearrangedEach may (if t (tree n ns) ns) (if t (tree m ms) ms)
first_each true r rs = each r rs
first_each false r rs = rs

each_as_is : {may : Tree → Bool} (ns : Trees) → RearrangedEach may ns ns
each_as_is no_tree = no-tree
each_as_is (tree n ns) = each as_is (each_as_is ns)

-- how records that begin with record i are read
module _ (b : List ℕ) (i : ℕ) (x r : Forest) where
  rules_node : rules_in b (node i x r) ≡ if (is_kind b i 3) (rule_at b i x ∷ rules_in b r) (rules_in b r)
  unfolding rules_in
  rules_node = refl

  trees_node : trees_in b (node i x r) ≡ if (is_party b i) (tree (tree_at b i x (trees_in b x)) (trees_in b r)) (trees_in b r)
  unfolding trees_in
  trees_node = refl

-- record i stays in c, with y below it and s after it
module _ (b c : List ℕ) (i : ℕ) (x y r s : Forest) (h : SameButSpan b i c i) where
  party_same : is_party b i ≡ is_party c i
  party_same = rw (kind_byte b i c i h)

  obligations_after : obligations_in b r ≡ obligations_in c s → obligations_in b (node i x r) ≡ obligations_in c (node i y s)
  unfolding obligations_in
  obligations_after e = if_same _ _ _ _ _ _ (kind_is b c i i h 8) (rw (obligation_same b c i i h, e) refl) e

  -- and so does what is below it
  module _ (a : AlikeForests b c x y) where
    target_after : target_in b r ≡ target_in c s → target_in b (node i x r) ≡ target_in c (node i y s)
    unfolding target_in
    target_after e = if_same _ _ _ _ _ _ (kind_is b c i i h 4) (rw (section_same b c i i x y h a, e) refl) refl

    rules_after : rules_in c (node i y s) ≡ if (is_kind b i 3) (rule_at b i x ∷ rules_in c s) (rules_in c s)
    unfolding rules_in
    rules_after = if_same _ _ _ _ _ _ (sym (kind_is b c i i h 3)) (rw (rule_same b c i i x y h a) refl) refl

    trees_after : trees_in c (node i y s) ≡ if (is_party b i) (tree (tree_at b i x (trees_in b x)) (trees_in c s)) (trees_in c s)
    unfolding trees_in
    trees_after = if_same _ _ _ _ _ _ (sym party_same) (rw (policy_same b c i i x y _ _ h a (alike_is_read_alike b c a).policies) refl) refl

    turned_after : {may : Tree → Bool} {p q : ℕ} → PartsTurned may p q b r c s → PartsTurned may p q b (node i x r) c (node i y s)
    turned_after (here e rs ns) =
        here e
        (rw (rules_node b i x r, rules_after) (first_reordered (is_kind b i 3) (rule_at b i x) rs))
        (rw (trees_node b i x r, trees_after) (first_listed (is_party b i) (tree_at b i x (trees_in b x)) (trees_in b r) (trees_in c s) ns))
    turned_after (below e ns) =
        below (rw (rules_node b i x r, rules_after, e) refl) (rw (trees_node b i x r, trees_after) (first_each (is_party b i) as_is ns))

    pub read_after : {may : Tree → Bool} {p q : ℕ} → ReadTurned may p q b r c s → ReadTurned may p q b (node i x r) c (node i y s)
    read_after w =
        record { target = target_after w.target; obligations = obligations_after w.obligations; turned = turned_after w.turned }

  -- what is below it was rearranged, and what is after it is read alike
  module _ (no-rule : is_kind b i 3 ≡ false) (no_section : is_kind b i 4 ≡ false) where
    target_inside : target_in b (node i x r) ≡ target_in c (node i y s)
    unfolding target_in
    target_inside = rw (← kind_is b c i i h 4, no_section) refl

    rules_inside : rules_in b r ≡ rules_in c s → rules_in b (node i x r) ≡ rules_in c (node i y s)
    rules_inside e = rw (rules_node b i x r, rules_node c i y s, ← kind_is b c i i h 3, no-rule) e

    turned_inside : {may : Tree → Bool} {p q : ℕ} → Rearranged may (tree_at b i x (trees_in b x)) (tree_at c i y (trees_in c y)) → rules_in b r ≡ rules_in c s
        → trees_in b r ≡ trees_in c s → PartsTurned may p q b (node i x r) c (node i y s)
    turned_inside t e ns =
        below (rules_inside e) (rw (trees_node b i x r, trees_node c i y s, ← party_same, ← ns) (first_each (is_party b i) t (each_as_is (trees_in b r))))

    pub read_inside : {may : Tree → Bool} {p q : ℕ} → Rearranged may (tree_at b i x (trees_in b x)) (tree_at c i y (trees_in c y)) → ReadAlike b r c s
        → ReadTurned may p q b (node i x r) c (node i y s)
    read_inside t w =
        record { target = target_inside; obligations = obligations_after w.obligations; turned = turned_inside t w.rules w.policies }

-- a set or a policy, by its choice
party_of : Bool → ℕ → Target → Trees → List Rule → List Obligation → Tree
party_of z k t ns rs os = if z (set (policies_by k) t ns os) (policy (rules_by k) t rs os)

tree_is : (b : List ℕ) (i : ℕ) (f : Forest) (ns : Trees)
    → tree_at b i f ns ≡ party_of (is_kind b i 1) (choice_at b i) (target_in b f) ns (rules_in b f) (obligations_in b f)
unfolding tree_at party_of
tree_is b i f ns = refl

-- it has the row's parts, or one that was rearranged
module _ (may : Tree → Bool) (k : ℕ) (t : Target) (ns ms : Trees) {rs ss : List Rule} (os : List Obligation) where
  party_here : (z : Bool) → may (party_of z k t ns rs os) ≡ true → Reordered Rule rs ss → Reordered Tree (listed ns) (listed ms)
      → Rearranged may (party_of z k t ns rs os) (party_of z k t ms ss os)
  unfolding party_of
  party_here true l r s = children l s
  party_here false l r s = rules l r

  party_below : (z : Bool) → rs ≡ ss → RearrangedEach may ns ms → Rearranged may (party_of z k t ns rs os) (party_of z k t ms ss os)
  unfolding party_of
  party_below true e r = inside r
  party_below false e r = rw e as_is

module _ (may : Tree → Bool) (p : ℕ) (b c : List ℕ) (i : ℕ) (f g : Forest) where
  abbrev party : List ℕ → Forest → Tree
  party d h = party_of (is_kind b i 1) (choice_at b i) (target_in b f) (trees_in d h) (rules_in d h) (obligations_in b f)

  party_turned : (i ≡ p → may (party b f) ≡ true) → PartsTurned may p i b f c g → Rearranged may (party b f) (party c g)
  party_turned lets (here e rs ns) = party_here may (choice_at b i) (target_in b f) (trees_in b f) (trees_in c g) (obligations_in b f) (is_kind b i 1) (lets e) rs ns
  party_turned lets (below e ns) = party_below may (choice_at b i) (target_in b f) (trees_in b f) (trees_in c g) (obligations_in b f) (is_kind b i 1) e ns

  pub tree_turned : SameButSpan b i c i → (i ≡ p → may (tree_at b i f (trees_in b f)) ≡ true) → ReadTurned may p i b f c g
      → Rearranged may (tree_at b i f (trees_in b f)) (tree_at c i g (trees_in c g))
  tree_turned h lets w =
      rw (tree_is b i f (trees_in b f), tree_is c i g (trees_in c g), ← kind_is b c i i h 1, ← choice_byte b i c i h, ← w.target, ← w.obligations)
      (party_turned (λ e. rw (tree_is b i f (trees_in b f)) at (lets e)) w.turned)
