-- How record bytes encode a policy tree, and request bytes bags: document 01, "The book". Every forest of records is read, so that no claim waits
-- for an acceptance: what no accepted book has is read as said here. Assumes nothing.
use Rattle.std.specs.Prelude.{ℕ, zero, suc, ◌+◌, ◌-◌, ◌*◌, ◌/◌, ◌%◌, Bool, List, [], ◌∷◌, ◌++◌, eqb, ltb, length}
use Rattle.record.specs.Choose.{if, both, either}
use Rattle.record.specs.Bytes.{size, byte_of, big_of}
use Rattle.record.specs.Forest.{Forest, none, node, forest}
use Rattle.value.specs.Value.{function_of}
use Rattle.value.specs.declared.Value.{Value}
use Rattle.sums.specs.Sums.{kind_of}
use Rattle.sums.specs.declared.Operator.{Operator}
use Rattle.sums.specs.declared.Operator.TheVariants.{Add, Subtract, Multiply, Divide, Remainder, DoubleAdd}
use Rattle.meaning.specs.Numbers.{key_number, key_by, value_under}
use Rattle.meaning.specs.Policy.{Key, OneOrMore, last, more, Conjunction, Section, Target, Expr, literal, attribute, operate, Condition, compares, weighs, all, any, not, Conditions, no_part, part, When, always, whenever, Rule, Obligation, OverRules, rulesDeny, rulesPermit, rulesFirst, OverPolicies, policiesDeny, policiesPermit, policiesFirst, policiesOnlyOne, Tree, policy, set, Trees, no_tree, tree}
use Rattle.meaning.specs.Meaning.{Bags}
use Rattle.meaning.specs.declared.Test.{Test}
use Rattle.meaning.specs.declared.Effect.{Effect}
use Rattle.meaning.specs.declared.Effect.TheVariants.{Permits, Denies}

-- the kinds that a policy tree is read by
abbrev pub is_kind : List ℕ → ℕ → ℕ → Bool
is_kind b i k = eqb (byte_of b i 0) k

-- a policy or a set
abbrev pub is_party : List ℕ → ℕ → Bool
is_party b i = either (is_kind b i 1) (is_kind b i 2)

abbrev pub choice_at : List ℕ → ℕ → ℕ
choice_at b i = byte_of b i 1

-- the issuer that record or entry i names, bytes 16-17
abbrev pub issuer_at : List ℕ → ℕ → ℕ
issuer_at b i = big_of b (i * size + 16) 2

-- the key of record i: byte 4 category, 5 type (without must-be-present), 6-7 identifier, and its issuer
abbrev pub bare_at : List ℕ → ℕ → ℕ
bare_at b i = byte_of b i 4 * 16777216 + byte_of b i 5 % 128 * 65536 + byte_of b i 6 * 256 + byte_of b i 7

unfoldable pub key_at : List ℕ → ℕ → ℕ
key_at b i = key_number (bare_at b i) (issuer_at b i)

-- record i as a test by function f; add 128 to byte 5 for must-be-present
unfoldable pub test_at : List ℕ → ℕ → ℕ → Test
test_at b i f = record { function = function_of f; must = ltb 127 (byte_of b i 5); key = key_at b i; literal = big_of b (i * size + 8) 8 }

-- a match by function 1-5, a comparison with choice 11-15 by function 1-5
unfoldable pub match_at : List ℕ → ℕ → Test
match_at b i = test_at b i (choice_at b i)

unfoldable pub comparison_at : List ℕ → ℕ → Test
comparison_at b i = test_at b i (choice_at b i - 10)

-- record i with the children `kids`, and the records after it
unfoldable pub row_of : {A : Type 0} → (ℕ → Forest → A) → ℕ → Forest → Forest → OneOrMore A
row_of read i kids none = last (read i kids)
row_of read i kids (node j below rest) = more (read i kids) (row_of read j below rest)

-- the children of record i, at least one; where there is none it stands for its own child
unfoldable pub children_at : {A : Type 0} → (ℕ → Forest → A) → ℕ → Forest → OneOrMore A
children_at read i none = last (read i none)
children_at read i (node j kids rest) = row_of read j kids rest

unfoldable pub conjunction_at : List ℕ → ℕ → Forest → Conjunction
conjunction_at b i kids = children_at (λ (j : ℕ) (below : Forest). match_at b j) i kids

unfoldable pub section_at : List ℕ → ℕ → Forest → Section
section_at b i kids = children_at (conjunction_at b) i kids

-- the sections that children begin with
unfoldable pub target_in : List ℕ → Forest → Target
target_in b none = []
target_in b (node i kids rest) = if (is_kind b i 4) (section_at b i kids ∷ target_in b rest) []

-- 3 not: exactly one; without one it is read as a comparison
abbrev pub not_at : List ℕ → ℕ → Conditions → Condition
not_at b i no_part = compares (comparison_at b i)
not_at b i (part c cs) = not c

-- the first two of the values below a record, or else d
abbrev pub of_two : {A : Type 0} → (Expr → Expr → A) → A → List Expr → A
of_two f d [] = d
of_two f d (x ∷ []) = d
of_two f d (x ∷ y ∷ es) = f x y

-- 3 add, 4 subtract, 5 multiply, 6 divide, 7 remainder, 8 double add
abbrev pub operator_of : ℕ → Operator
operator_of c = if (eqb c 3) Add (if (eqb c 4) Subtract (if (eqb c 5) Multiply (if (eqb c 6) Divide (if (eqb c 7) Remainder DoubleAdd))))

-- byte 5 is a literal's type, bytes 8-15 its value
abbrev pub literal_at : List ℕ → ℕ → Expr
literal_at b i = literal (byte_of b i 5) (big_of b (i * size + 8) 8)

-- an operator without two operands, which no accepted book has, is read as a literal of its type
abbrev pub spare_at : List ℕ → ℕ → Expr
spare_at b i = literal (kind_of (operator_of (choice_at b i))) (big_of b (i * size + 8) 8)

-- a value: 1 a literal, 2 an attribute, else an operator
unfoldable pub expr_at : List ℕ → ℕ → List Expr → Expr
expr_at b i es =
    if (eqb (choice_at b i) 1) (literal_at b i)
    (if (eqb (choice_at b i) 2) (attribute (key_at b i))
    (of_two (operate (operator_of (choice_at b i))) (spare_at b i) es))

unfoldable pub exprs_in : List ℕ → Forest → List Expr
exprs_in b none = []
exprs_in b (node i kids rest) = expr_at b i (exprs_in b kids) ∷ exprs_in b rest

-- choice 21-25 compares two values by function 1-5; without two it is read as a comparison
abbrev pub weighs_at : List ℕ → ℕ → List Expr → Condition
weighs_at b i es = of_two (weighs (function_of (choice_at b i - 20))) (compares (comparison_at b i)) es

-- 1 and, 2 or, 3 not, 21 to 25 a comparison of two values, else a comparison
unfoldable pub condition_at : List ℕ → ℕ → Conditions → List Expr → Condition
condition_at b i cs es =
    if (eqb (choice_at b i) 1) (all cs)
    (if (eqb (choice_at b i) 2) (any cs)
    (if (eqb (choice_at b i) 3) (not_at b i cs)
    (if (ltb 20 (choice_at b i)) (weighs_at b i es)
    (compares (comparison_at b i)))))

unfoldable pub conditions_in : List ℕ → Forest → Conditions
conditions_in b none = no_part
conditions_in b (node i kids rest) = part (condition_at b i (conditions_in b kids) (exprs_in b kids)) (conditions_in b rest)

-- the condition at record i, with the records below it
abbrev pub condition_from : List ℕ → ℕ → Forest → Condition
condition_from b i kids = condition_at b i (conditions_in b kids) (exprs_in b kids)

-- the condition among a rule's children
unfoldable pub when_in : List ℕ → Forest → When
when_in b none = always
when_in b (node i kids rest) = if (is_kind b i 7) (whenever (condition_from b i kids)) (when_in b rest)

-- 1 Permit, 2 Deny
abbrev pub effect_of : ℕ → Effect
effect_of c = if (eqb c 1) Permits Denies

unfoldable pub rule_at : List ℕ → ℕ → Forest → Rule
rule_at b i kids = record { effect = effect_of (choice_at b i); target = target_in b kids; when = when_in b kids }

unfoldable pub rules_in : List ℕ → Forest → List Rule
rules_in b none = []
rules_in b (node i kids rest) = if (is_kind b i 3) (rule_at b i kids ∷ rules_in b rest) (rules_in b rest)

-- bytes 6-7 are an obligation's number
abbrev pub obligation_at : List ℕ → ℕ → Obligation
obligation_at b i = record { on = effect_of (choice_at b i); number = big_of b (i * size + 6) 2 }

unfoldable pub obligations_in : List ℕ → Forest → List Obligation
obligations_in b none = []
obligations_in b (node i kids rest) = if (is_kind b i 8) (obligation_at b i ∷ obligations_in b rest) (obligations_in b rest)

-- 1 deny-overrides, 2 permit-overrides, 3 first-applicable, 4 only-one-applicable
abbrev pub rules_by : ℕ → OverRules
rules_by c = if (eqb c 1) rulesDeny (if (eqb c 2) rulesPermit rulesFirst)

abbrev pub policies_by : ℕ → OverPolicies
policies_by c = if (eqb c 1) policiesDeny (if (eqb c 2) policiesPermit (if (eqb c 3) policiesFirst policiesOnlyOne))

-- the set or policy at record i, with its children and the policies and sets among them
unfoldable pub tree_at : List ℕ → ℕ → Forest → Trees → Tree
tree_at b i kids ns =
    if (is_kind b i 1)
    (set (policies_by (choice_at b i)) (target_in b kids) ns (obligations_in b kids))
    (policy (rules_by (choice_at b i)) (target_in b kids) (rules_in b kids) (obligations_in b kids))

unfoldable pub trees_in : List ℕ → Forest → Trees
trees_in b none = no_tree
trees_in b (node i kids rest) =
    if (is_party b i) (tree (tree_at b i kids (trees_in b kids)) (trees_in b rest)) (trees_in b rest)

-- the tree of a book: line 1, with all other records below it
unfoldable pub book_of : List ℕ → Tree
book_of b = let kids = forest b 1 (length b / size - 1) in tree_at b 0 kids (trees_in b kids)

-- the key of entry k: byte 0 category, 1 type, 2-3 identifier, and its issuer
abbrev pub key_in : List ℕ → ℕ → Key
key_in q k = key_by (key_number (big_of q (k * size) 4) (issuer_at q k))

-- issuer 0 takes any, otherwise issuers must be equal
abbrev pub takes_issuer : ℕ → ℕ → Bool
takes_issuer asked given = either (eqb asked 0) (eqb asked given)

-- what is asked for takes what an entry holds: category, identifier and type are the same, and it takes the issuer
abbrev pub takes : Key → Key → Bool
takes asked given =
    both (eqb asked.category given.category)
    (both (eqb asked.identifier given.identifier)
    (both (eqb asked.type given.type)
    (takes_issuer asked.issuer given.issuer)))

-- the values that the key takes among `left` entries from k on: bytes 8-15 are the value
unfoldable pub bag_from : List ℕ → Key → ℕ → ℕ → List Value
bag_from q key zero k = []
bag_from q key (suc left) k =
    if (takes key (key_in q k)) (value_under key (big_of q (k * size + 8) 8) ∷ []) [] ++ bag_from q key left (k + 1)

unfoldable pub bags_of : List ℕ → Bags
bags_of q key = bag_from q key (length q / size) 0
