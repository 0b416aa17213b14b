-- Writing from the last entry to the first: what is written behind and then before is written in one piece, and what the code of records is made
-- of. Assumes nothing.
use Prim.Native.Nat.{ℕ, zero, suc, ◌+◌, ◌-◌, ◌*◌, ◌/◌, ◌≤◌, ◌<◌}
use mathlib.Core.Path.{◌≡◌, refl, sym, ap, ◌∙◌}
use mathlib.Core.Bool.{Bool, true, false}
use mathlib.Core.List.{List, [], ◌∷◌, ◌++◌, append-nil, append_assoc}
use lib.Dec.{eqb, ltb}
use lib.ListN.{length, set as store, replicate, length-append, length-replicate}
use lib.Seq.{sets, set_comm}
use native.Mathlib.Omega.{arith}
use native.Mathlib.Nat.{add-zero}
use borrow.Author.Tests.{eq-eqb, ne_eqb, eqb-true, eqb-false, le-ltb}
use Rattle.record.specs.Choose.{if}
use Rattle.record.specs.Bytes.{size, byte_of}
use Rattle.record.specs.Forest.{Forest, span_in, forest}
use Rattle.record.proofs.Forests.{forest_none, forest_more}
use Rattle.meaning.specs.Policy.{last, more, Conjunction, Section, Target, compares, all, any}
use Rattle.meaning.specs.Meaning.{over_rules, over_policies, algorithm_of, same, is_only}
use Rattle.meaning.specs.Numbers.{bare_of, issuer_of}
use Rattle.meaning.specs.Reading.{is_kind, is_party, choice_at, comparison_at, section_at, target_in, not_at, exprs_in, weighs_at, condition_at, conditions_in, when_in, effect_of, rule_at, rules_in, obligations_in, rules_by, policies_by, tree_at, trees_in, book_of}
use Rattle.meaning.proofs.Cases.{tree_by}
use Rattle.meaning.specs.declared.Test.{Test}
use Rattle.meaning.specs.declared.Effect.{Effect}
use Rattle.meaning.specs.declared.Effect.TheVariants.{Permits, Denies}
use Rattle.meaning.specs.declared.Algorithm.{Algorithm}
use Rattle.meaning.specs.declared.Algorithm.TheVariants.{First}
use Rattle.layout.specs.Entry.{Entry, begin, match, further, opens, compare, close, rule, enter, applies, conclude, oblige, leave, finish, extra}
use Rattle.layout.specs.Layout.{bit_of, effect_code, op_code, algorithm_code, test_word, words_of}
use Rattle.layout.specs.declared.Op.{Op}
use Rattle.layout.specs.declared.Op.TheVariants.{All, Any, Not}
use Rattle.code.specs.Code.{code_section, code_target, code_condition, code_conditions, code_when, code_rule, code_rules, code_obligations, code_applies, code_body, code_within, code_shell, code_tree, code_trees, owns, obligations, obligations_all, code_top, programme, translated, in_numbers}
use Rattle.emission.specs.Emit.{Wrote, Emitted, below, section_code, target_code, condition_code, conditions_code, when_code, rule_code, rules_code, obligations_code, tree_code, trees_code, algorithm_at, body_code, within_code, due_in}
use Rattle.code.proofs.Size.{recs_m, recs_s, recs_target, l_target, short}
use Rattle.code.proofs.Counted.{book_records}

set_sets : (l : List ℕ) (k n : ℕ) (v : ℕ) (ys : List ℕ) → k < n → store (sets l n ys) k v ≡ sets (store l k v) n ys
set_sets l k n v [] h = refl
set_sets l k n v (y ∷ ys) h =
    set_sets (store l n y) k (suc n) v ys (omega arith) ∙ ap (λ (m : List ℕ). sets m (suc n) ys) (set_comm l n k y v (λ z. omega (arith, z, h)))

sets_before : (l : List ℕ) (k : ℕ) (xs ys : List ℕ) → sets (sets l (k + length xs) ys) k xs ≡ sets l k (xs ++ ys)
sets_before l k [] ys = rw add-zero refl
sets_before l k (x ∷ xs) ys =
    let e : k + suc (length xs) ≡ suc k + length xs = omega arith in
    rw (e, set_sets l k (suc k + length xs) x ys (omega arith)) (sets_before (store l k x) (suc k) xs ys)

pub wrote_both : {xs ys : List ℕ} {end mid start : ℕ} {o o₁ o₂ : List ℕ} → Wrote ys end o o₁ mid → Wrote xs mid o₁ o₂ start → Wrote (xs ++ ys) end o o₂ start
wrote_both {xs} {ys} {end} {mid} {start} {o} {o₁} {o₂} f g =
    let l = length-append xs ys in
    let e : mid ≡ start + length xs = omega (arith, g.starts) in
    let w : o₁ ≡ sets o (start + length xs) ys = rw e at f.wrote in
    record { starts = omega (arith, l, f.starts, g.starts); wrote = g.wrote ∙ rw w (sets_before o start xs ys) }

-- the same of entries
numbers_append : (xs ys : List Entry) → in_numbers (xs ++ ys) ≡ in_numbers xs ++ in_numbers ys
unfolding in_numbers
numbers_append [] ys = refl
numbers_append (x ∷ xs) ys = rw (numbers_append xs ys) (sym (append_assoc (words_of x) (in_numbers xs) (in_numbers ys)))

pub record Splits (code xs ys : List Entry) : Type 0 where
  pub joined : code ≡ xs ++ ys

pub follows : {code xs ys : List Entry} {end mid start : ℕ} {o o₁ o₂ : List ℕ} → Splits code xs ys
    → Emitted ys end o o₁ mid → Emitted xs mid o₁ o₂ start → Emitted code end o o₂ start
follows {code} {xs} {ys} {end} {mid} {start} {o} {o₁} {o₂} s f g =
    let l = length-append xs ys in
    let m = length-append (in_numbers xs) (in_numbers ys) in
    let n : length (in_numbers (xs ++ ys)) ≡ length (in_numbers xs ++ in_numbers ys) = ap (λ (ns : List ℕ). length ns) (numbers_append xs ys) in
    let e : mid ≡ start + length (in_numbers xs) = omega (arith, g.starts, g.wide) in
    let w : o₁ ≡ sets o (start + length (in_numbers xs)) (in_numbers ys) = rw e at f.wrote in
    rw s.joined (record {
      starts = omega (arith, l, f.starts, g.starts);
      wide = omega (arith, l, m, n, f.wide, g.wide);
      wrote = g.wrote ∙ rw (w, numbers_append xs ys) (sets_before o start (in_numbers xs) (in_numbers ys));
    })

-- room for what is behind, and then for what is before
pub behind_fits : {code xs ys : List Entry} (end : ℕ) → Splits code xs ys → length code ≤ end → length ys ≤ end
behind_fits {code} {xs} {ys} end s h =
    let l = length-append xs ys in
    let e : length code ≡ length (xs ++ ys) = ap (λ (es : List Entry). length es) s.joined in
    omega (arith, l, e, h)

pub before_fits : {code xs ys : List Entry} {end mid : ℕ} {o o₁ : List ℕ} → Splits code xs ys → length code ≤ end → Emitted ys end o o₁ mid → length xs ≤ mid
before_fits {code} {xs} {ys} s h f =
    let l = length-append xs ys in
    let e : length code ≡ length (xs ++ ys) = ap (λ (es : List Entry). length es) s.joined in
    omega (arith, l, e, h, f.starts)

-- the same of three parts
pub record Three (code xs ys zs : List Entry) : Type 0 where
  pub joined : code ≡ xs ++ (ys ++ zs)

length_three : {code xs ys zs : List Entry} → Three code xs ys zs → length code ≡ length xs + (length ys + length zs)
length_three {code} {xs} {ys} {zs} s = ap (λ (es : List Entry). length es) s.joined ∙ length-append xs (ys ++ zs) ∙ ap (λ (n : ℕ). length xs + n) (length-append ys zs)

module _ {code xs ys zs : List Entry} (s : Three code xs ys zs) where
  pub third_fits : (end : ℕ) → length code ≤ end → length zs ≤ end
  third_fits end h = let l = length_three s in omega (arith, l, h)

  module _ {end m : ℕ} {o o₁ : List ℕ} (h : length code ≤ end) (f : Emitted zs end o o₁ m) where
    pub second_fits : length ys ≤ m
    second_fits = let l = length_three s in omega (arith, l, h, f.starts)

    module _ {k : ℕ} {o₂ : List ℕ} (g : Emitted ys m o₁ o₂ k) where
      pub first_fits : length xs ≤ k
      first_fits = let l = length_three s in omega (arith, l, h, f.starts, g.starts)

  pub three : {end m k start : ℕ} {o o₁ o₂ o₃ : List ℕ} → Emitted zs end o o₁ m → Emitted ys m o₁ o₂ k → Emitted xs k o₂ o₃ start → Emitted code end o o₃ start
  three f g e = follows {xs = xs} {ys = ys ++ zs} (record { joined = s.joined }) (follows (record { joined = refl }) f g) e

-- the code that was written ends where it should
pub behind : {code : List Entry} {end start : ℕ} {o o₁ : List ℕ} → Emitted code end o o₁ start → end - start ≡ length code
behind f = omega (arith, f.starts)

-- how far it is from before a body, and from before what says that it applies, to behind it
pub past_body : {code : List Entry} {end start k : ℕ} {o o₁ : List ℕ} (n : ℕ) → Emitted code end o o₁ start → k ≡ end - start + suc n → k ≡ length code + suc n
past_body n f g = let e = behind f in omega (arith, e, g)

pub past_both : {xs ys : List Entry} {end mid start : ℕ} {o o₁ o₂ : List ℕ} → Emitted ys end o o₁ mid → Emitted xs mid o₁ o₂ start → end - start ≡ length xs + length ys
past_both f g = omega (arith, f.starts, g.starts)

pub nothing : {code : List Entry} {end : ℕ} {o : List ℕ} → code ≡ [] → Emitted code end o o end
unfolding in_numbers
nothing e = rw e (record { starts = omega arith; wide = refl; wrote = refl })

pub as_is : {code xs : List Entry} {end start : ℕ} {o o₁ : List ℕ} → code ≡ xs → Emitted xs end o o₁ start → Emitted code end o o₁ start
as_is e f = rw e f

pub fits_as : {code xs : List Entry} (end : ℕ) → code ≡ xs → length code ≤ end → length xs ≤ end
fits_as end e h = rw e at h

-- a number by another name
pub same_as : {k m n : ℕ} → k ≡ m → k ≡ n → m ≡ n
same_as e f = sym e ∙ f

pub differs : {k m : ℕ} (n : ℕ) → k ≡ m → (k ≡ n → ⊥) → m ≡ n → ⊥
differs n e h z = h (e ∙ z)

pub above : {k m : ℕ} (n : ℕ) → k ≡ m → n < k → n < m
above n e h = omega (arith, e, h)

pub no_more : {k m : ℕ} (n : ℕ) → k ≡ m → k ≤ n → m ≤ n
no_more n e h = omega (arith, e, h)

-- one entry, with its further ones
further_none : (k : ℕ) → in_numbers (replicate k further) ≡ []
unfolding in_numbers words_of
further_none zero = refl
further_none (suc k) = further_none k

pub entry : (e : Entry) {ws : List ℕ} {end start : ℕ} {o o₁ : List ℕ} → words_of e ≡ ws → length ws ≡ suc (extra e) → Wrote ws end o o₁ start
    → Emitted (e ∷ replicate (extra e) further) end o o₁ start
unfolding in_numbers
entry e {ws} {end} {start} {o} {o₁} w l f =
    let r : in_numbers (e ∷ replicate (extra e) further) ≡ ws = ap (λ (ns : List ℕ). words_of e ++ ns) (further_none (extra e)) ∙ append-nil (words_of e) ∙ w in
    let k = length-replicate (extra e) further in
    let n : length (in_numbers (e ∷ replicate (extra e) further)) ≡ length ws = ap (λ (ns : List ℕ). length ns) r in
    record {
      starts = omega (arith, f.starts, l, k);
      wide = omega (arith, n, l, k);
      wrote = f.wrote ∙ sym (ap (λ (ns : List ℕ). sets o start ns) r);
    }

-- a kind by its number
pub is_kind_lem : (b : List ℕ) (i k : ℕ) → byte_of b i 0 ≡ k → is_kind b i k ≡ true
is_kind_lem b i k e = eq-eqb (byte_of b i 0) k e

pub no_kind : (b : List ℕ) (i k : ℕ) → (byte_of b i 0 ≡ k → ⊥) → is_kind b i k ≡ false
no_kind b i k e = ne_eqb (byte_of b i 0) k e

conj_pos : (j : Conjunction) → 0 < recs_m j
unfolding recs_m
conj_pos (last k) = omega arith
conj_pos (more k j) = omega arith

section_pos : (s : Section) → 0 < recs_s s
unfolding recs_s
section_pos (last c) = conj_pos c
section_pos (more c s) = let h = conj_pos c in omega (arith, h)

target_pos : (s : Section) (ss : Target) → 0 < recs_target (s ∷ ss)
unfolding recs_target
target_pos s ss = let h = section_pos s in omega (arith, h)

-- every section but the last leads on to the next
first_of : (s : Section) (ts : Target) (x mid end : ℕ) → mid + length (code_target ts x) ≡ end
    → code_target (s ∷ ts) x ≡ code_section s (eqb mid end) (end - mid + x) ++ code_target ts x
unfolding code_target
first_of s [] x mid end f =
    let e : mid ≡ end = omega (arith, f) in
    let g : end - mid + x ≡ x = omega (arith, f) in
    rw (eq-eqb mid end e, g) (sym (append-nil (code_section s true x)))
first_of s (t ∷ ts) x mid end f =
    let g : end - mid ≡ length (code_target (t ∷ ts) x) = omega (arith, f) in
    let k = l_target (t ∷ ts) x in
    let p = target_pos t ts in
    rw (ne_eqb mid end (λ z. omega (arith, f, k, p, z)), g) refl

-- what opens a condition with parts
abbrev pub op_at : ℕ → Op
op_at c = if (eqb c 1) All Any

op_code_lem : (c : ℕ) → (c ≡ 0 → ⊥) → c ≤ 3 → (c ≡ 3 → ⊥) → op_code (op_at c) ≡ c - 1
op_code_lem c p q r = go (eqb c 1) refl
  where
    go : (x : Bool) → eqb c 1 ≡ x → op_code (if (eqb c 1) All Any) ≡ c - 1
    go true e = let f = eqb-true c 1 e in rw e (omega (arith, f))
    go false e = let f = eqb-false c 1 e in let g : c ≡ 2 = omega (arith, f, p, q, r) in rw (e, g) refl

pub op_at_lem : {c d : ℕ} → c ≡ d → (c ≡ 0 → ⊥) → c ≤ 3 → (c ≡ 3 → ⊥) → op_code (op_at d) ≡ c - 1
op_at_lem {c} e p q r = rw (← e) (op_code_lem c p q r)

module _ (b : List ℕ) where
  pub target_none : (i left x : ℕ) → left ≤ 0 → target_code b i left x ≡ []
  unfolding target_code target_in code_target
  target_none i left x e = rw (forest_none b i left e) refl

  pub target_other : (i left x : ℕ) → 0 < left → (byte_of b i 0 ≡ 4 → ⊥) → target_code b i left x ≡ []
  unfolding target_code target_in code_target
  target_other i left x h k = rw (forest_more b i left h refl, no_kind b i 4 k) refl

  pub target_more : (i left s x mid end : ℕ) → 0 < left → byte_of b i 0 ≡ 4 → s ≡ span_in b i left
      → mid + length (target_code b (i + s) (left - s) x) ≡ end
      → Splits (target_code b i left x) (section_code b i s (eqb mid end) (end - mid + x)) (target_code b (i + s) (left - s) x)
  unfolding target_code target_in section_code
  target_more i left s x mid end h k e f =
      record { joined = rw (forest_more b i left h e, is_kind_lem b i 4 k) (first_of (section_at b i (below b i s)) (target_in b (forest b (i + s) (left - s))) x mid end f) }

  -- conditions; choices between those that join parts and those that compare two operands are of a literal with an attribute
  condition_other : (i s n : ℕ) → (byte_of b i 1 ≡ 1 → ⊥) → (byte_of b i 1 ≡ 2 → ⊥) → (byte_of b i 1 ≡ 3 → ⊥) → byte_of b i 1 ≤ 20
      → condition_code b i s n ≡ compare (comparison_at b i) n ∷ further ∷ further ∷ []
  unfolding condition_code condition_at code_condition
  condition_other i s n p q r e = rw (ne_eqb (byte_of b i 1) 1 p, ne_eqb (byte_of b i 1) 2 q, ne_eqb (byte_of b i 1) 3 r, le-ltb 20 (byte_of b i 1) e) refl

  pub condition_zero : (i s n : ℕ) → byte_of b i 1 ≡ 0 → condition_code b i s n ≡ compare (comparison_at b i) n ∷ further ∷ further ∷ []
  condition_zero i s n e = condition_other i s n (λ z. omega (arith, e, z)) (λ z. omega (arith, e, z)) (λ z. omega (arith, e, z)) (omega (arith, e))

  pub condition_low : (i s n : ℕ) → 3 < byte_of b i 1 → byte_of b i 1 ≤ 20 → condition_code b i s n ≡ compare (comparison_at b i) n ∷ further ∷ further ∷ []
  condition_low i s n e f = condition_other i s n (λ z. omega (arith, e, z)) (λ z. omega (arith, e, z)) (λ z. omega (arith, e, z)) f

  pub condition_bare : (i s n : ℕ) → byte_of b i 1 ≡ 3 → s ≡ 1 → condition_code b i s n ≡ compare (comparison_at b i) n ∷ further ∷ further ∷ []
  unfolding condition_code condition_at code_condition conditions_in
  condition_bare i s n e f =
      rw (ne_eqb (byte_of b i 1) 1 (λ z. omega (arith, e, z)), ne_eqb (byte_of b i 1) 2 (λ z. omega (arith, e, z)), eq-eqb (byte_of b i 1) 3 e, forest_none b (i + 1) (s - 1) (omega (arith, f))) refl

  pub condition_not : (i s t n : ℕ) → 0 < s - 1 → byte_of b i 1 ≡ 3 → t ≡ span_in b (i + 1) (s - 1)
      → Three (condition_code b i s n) (opens Not ∷ []) (condition_code b (i + 1) t 0) (close n ∷ [])
  unfolding condition_code condition_at code_condition conditions_in
  condition_not i s t n p e g =
      record {
        joined = rw (
          ne_eqb (byte_of b i 1) 1 (λ z. omega (arith, e, z)),
          ne_eqb (byte_of b i 1) 2 (λ z. omega (arith, e, z)),
          eq-eqb (byte_of b i 1) 3 e,
          forest_more b (i + 1) (s - 1) p g,
        ) refl;
      }

  pub condition_parts : (i s n : ℕ) → (byte_of b i 1 ≡ 0 → ⊥) → byte_of b i 1 ≤ 3 → (byte_of b i 1 ≡ 3 → ⊥)
      → Three (condition_code b i s n) (opens (op_at (byte_of b i 1)) ∷ []) (conditions_code b (i + 1) (s - 1)) (close n ∷ [])
  unfolding condition_code condition_at code_condition conditions_code
  condition_parts i s n p q r = go (eqb (byte_of b i 1) 1) refl
    where
      go : (x : Bool) → eqb (byte_of b i 1) 1 ≡ x
          → Three (code_condition
          (if (eqb (byte_of b i 1) 1) (all (conditions_in b (below b i s)))
          (if (eqb (byte_of b i 1) 2) (any (conditions_in b (below b i s)))
          (if (eqb (byte_of b i 1) 3) (not_at b i (conditions_in b (below b i s)))
          (if (ltb 20 (byte_of b i 1)) (weighs_at b i (exprs_in b (below b i s))) (compares (comparison_at b i)))))) n)
          (opens (if (eqb (byte_of b i 1) 1) All Any) ∷ []) (code_conditions (conditions_in b (below b i s))) (close n ∷ [])
      go true e = record { joined = rw e refl }
      go false e = record { joined = rw (e, eq-eqb (byte_of b i 1) 2 (two e)) refl }
        where
          two : eqb (byte_of b i 1) 1 ≡ false → byte_of b i 1 ≡ 2
          two f = let g = eqb-false (byte_of b i 1) 1 f in omega (arith, p, q, r, g)

  pub conditions_none : (i left : ℕ) → left ≤ 0 → conditions_code b i left ≡ []
  unfolding conditions_code conditions_in code_condition
  conditions_none i left e = rw (forest_none b i left e) refl

  -- rules
  pub when_none : (i left : ℕ) → left ≤ 0 → when_code b i left ≡ []
  unfolding when_code when_in code_when
  when_none i left e = rw (forest_none b i left e) refl

  pub when_found : (i left s : ℕ) → 0 < left → s ≡ span_in b i left → byte_of b i 0 ≡ 7 → when_code b i left ≡ condition_code b i s 0
  unfolding when_code when_in code_when condition_code
  when_found i left s h e k = rw (forest_more b i left h e, is_kind_lem b i 7 k) refl

  pub when_other : (i left s : ℕ) → 0 < left → s ≡ span_in b i left → (byte_of b i 0 ≡ 7 → ⊥) → when_code b i left ≡ when_code b (i + s) (left - s)
  unfolding when_code when_in
  when_other i left s h e k = rw (forest_more b i left h e, no_kind b i 7 k) refl

  pub rule_parts : (i s n k : ℕ) → k ≡ length (when_code b (i + 1) (s - 1))
      → Three (rule_code b i s n) (target_code b (i + 1) (s - 1) k) (when_code b (i + 1) (s - 1)) (rule (effect_of (byte_of b i 1)) n ∷ [])
  unfolding rule_code code_rule rule_at when_code target_code
  rule_parts i s n k e = record { joined = rw e refl }

  pub rules_none : (i left : ℕ) → left ≤ 0 → rules_code b i left ≡ []
  unfolding rules_code rules_in code_rules
  rules_none i left e = rw (forest_none b i left e) refl

  -- obligations
  pub obligations_none : (i left : ℕ) → left ≤ 0 → obligations_code b i left ≡ []
  unfolding obligations_code obligations_in code_obligations
  obligations_none i left e = rw (forest_none b i left e) refl

  -- policies and sets
  pub body_parts : (i s k : ℕ) → k ≡ length (obligations_code b (i + 1) (s - 1))
      → Three (body_code b i s) (if (is_kind b i 1) (trees_code b (i + 1) (s - 1) (choice_at b i)) (rules_code b (i + 1) (s - 1))) (conclude k ∷ []) (obligations_code b (i + 1) (s - 1))
  unfolding body_code code_body obligations_code
  body_parts i s k e = record { joined = rw e refl }

  pub body_set : (i s k c : ℕ) → byte_of b i 0 ≡ 1 → c ≡ byte_of b i 1 → k ≡ length (obligations_code b (i + 1) (s - 1))
      → Three (body_code b i s) (trees_code b (i + 1) (s - 1) c) (conclude k ∷ []) (obligations_code b (i + 1) (s - 1))
  body_set i s k c m d e = record { joined = rw ((body_parts i s k e).joined, is_kind_lem b i 1 m, d) refl }

  pub body_policy : (i s k : ℕ) → (byte_of b i 0 ≡ 1 → ⊥) → k ≡ length (obligations_code b (i + 1) (s - 1))
      → Three (body_code b i s) (rules_code b (i + 1) (s - 1)) (conclude k ∷ []) (obligations_code b (i + 1) (s - 1))
  body_policy i s k m e = record { joined = rw ((body_parts i s k e).joined, no_kind b i 1 m) refl }

  pub within_parts : (i s up n k j : ℕ) → k ≡ length (body_code b i s) + suc n
      → j ≡ length (code_applies (is_only (over_policies (policies_by up))) k) + length (body_code b i s)
      → Three (within_code b i s up n) (target_code b (i + 1) (s - 1) j) (code_applies (is_only (over_policies (policies_by up))) k) (body_code b i s)
  unfolding within_code code_within target_code
  within_parts i s up n k j e f = record { joined = rw (f, e) refl }

  pub tree_parts : (i s up n : ℕ) → Three (tree_code b i s up n) (enter (algorithm_at b i) ∷ []) (within_code b i s up n) (leave n ∷ [])
  unfolding tree_code code_tree code_shell within_code body_code trees_code rules_code
  tree_parts i s up n = record {
    joined =
        tree_by (λ x t. code_tree (over_policies (policies_by up)) t n
        ≡ code_shell (over_policies (policies_by up)) (if x (over_policies (policies_by (choice_at b i))) (over_rules (rules_by (choice_at b i)))) (target_in b (below b i s))
        (if x (code_trees (over_policies (policies_by (choice_at b i))) (trees_in b (below b i s))) (code_rules (rules_in b (below b i s)))) (obligations_in b (below b i s)) n)
        b i (below b i s) (trees_in b (below b i s)) refl refl;
  }

  pub trees_none : (i left up : ℕ) → left ≤ 0 → trees_code b i left up ≡ []
  unfolding trees_code trees_in code_tree
  trees_none i left up e = rw (forest_none b i left e) refl

-- entries of one number, from the number that was written
module _ {end start : ℕ} {o o₁ : List ℕ} where
  pub closes : (n : ℕ) → Wrote ((4 + 16 * n) ∷ []) end o o₁ start → Emitted (close n ∷ []) end o o₁ start
  unfolding words_of
  closes n f = entry (close n) refl refl f

  pub opened : (op : Op) (n : ℕ) → op_code op ≡ n → Wrote ((3 + 16 * n) ∷ []) end o o₁ start → Emitted (opens op ∷ []) end o o₁ start
  unfolding words_of
  opened op n e f = entry (opens op) (rw e refl) refl f

  pub ruled : (e : Effect) (n : ℕ) {k : ℕ} → k ≡ effect_code e → Wrote ((5 + 16 * (k + 2 * n)) ∷ []) end o o₁ start → Emitted (rule e n ∷ []) end o o₁ start
  unfolding words_of
  ruled e n w f = entry (rule e n) (rw w refl) refl f

  pub obliged : (e : Effect) (n : ℕ) {k m : ℕ} → k ≡ effect_code e → m ≡ n → Wrote ((9 + 16 * (k + 2 * m)) ∷ []) end o o₁ start → Emitted (oblige e n ∷ []) end o o₁ start
  unfolding words_of
  obliged e n w v f = entry (oblige e n) (rw (w, v) refl) refl f

  pub applied : (n : ℕ) → Wrote ((7 + 16 * n) ∷ []) end o o₁ start → Emitted (applies n ∷ []) end o o₁ start
  unfolding words_of
  applied n f = entry (applies n) refl refl f

  pub concluded : (n : ℕ) → Wrote ((8 + 16 * n) ∷ []) end o o₁ start → Emitted (conclude n ∷ []) end o o₁ start
  unfolding words_of
  concluded n f = entry (conclude n) refl refl f

  pub left_by : (n : ℕ) → Wrote ((10 + 16 * n) ∷ []) end o o₁ start → Emitted (leave n ∷ []) end o o₁ start
  unfolding words_of
  left_by n f = entry (leave n) refl refl f

  pub entered : (a : Algorithm) {n : ℕ} → n ≡ algorithm_code a → Wrote ((6 + 16 * n) ∷ []) end o o₁ start → Emitted (enter a ∷ []) end o o₁ start
  unfolding words_of
  entered a e f = entry (enter a) (rw e refl) refl f

  pub finished : Wrote (11 ∷ []) end o o₁ start → Emitted (finish ∷ []) end o o₁ start
  unfolding words_of
  finished f = entry finish refl refl f

  pub begun : (a : Algorithm) (c : ℕ) {n : ℕ} → n ≡ algorithm_code a → Wrote ((0 + 16 * (n + 8 * c)) ∷ []) end o o₁ start → Emitted (begin a c ∷ []) end o o₁ start
  unfolding words_of
  begun a c {n} e f = let g : 16 * (algorithm_code a + 8 * c) ≡ 0 + 16 * (n + 8 * c) = omega (arith, e) in entry (begin a c) (ap (λ (k : ℕ). k ∷ []) g) refl f

-- a comparison and a match
pub compared : (n : ℕ) {t u : Test} {w end mid low start : ℕ} {o o₁ o₂ o₃ : List ℕ} → t ≡ u → w ≡ 13 + 16 * (test_word t + 16 * (bare_of t.key + 4294967296 * n))
    → Wrote (issuer_of t.key ∷ []) end o o₁ mid → Wrote (t.literal ∷ []) mid o₁ o₂ low → Wrote (w ∷ []) low o₂ o₃ start
    → Emitted (compare u n ∷ further ∷ further ∷ []) end o o₃ start
unfolding words_of
compared n {t} {u} e f g h k = rw (← e) (entry (compare t n) (rw f refl) refl (wrote_both (wrote_both g h) k))

pub matched : (m c l : Bool) (i j x : ℕ) {t u : Test} {w end mid low start : ℕ} {o o₁ o₂ o₃ : List ℕ} → t ≡ u
    → w ≡ 1 + 16 * (test_word t + 16 * (bit_of m + 2 * (bit_of c + 2 * (bit_of l + 2 * (bare_of t.key + 4294967296 * i)))))
    → Wrote ((j + 8192 * (x + 8192 * issuer_of t.key)) ∷ []) end o o₁ mid → Wrote (t.literal ∷ []) mid o₁ o₂ low → Wrote (w ∷ []) low o₂ o₃ start
    → Emitted (match u m c l i j x ∷ further ∷ further ∷ []) end o o₃ start
unfolding words_of
matched m c l i j x {t} {u} e f g h k = rw (← e) (entry (match t m c l i j x) (rw f refl) refl (wrote_both (wrote_both g h) k))

-- below an only-one set
module _ (up n : ℕ) {a : Algorithm} {x : Bool} (e : a ≡ over_policies (policies_by up)) (f : x ≡ is_only a) where
  pub applies_one : x ≡ true → code_applies (is_only (over_policies (policies_by up))) n ≡ applies n ∷ []
  applies_one h = rw (← e, ← f, h) refl

  pub applies_none : x ≡ false → code_applies (is_only (over_policies (policies_by up))) n ≡ []
  applies_none h = rw (← e, ← f, h) refl

-- the algorithm of a set, of a policy
module _ (b : List ℕ) (i : ℕ) {k c : ℕ} {a : Algorithm} (e : k ≡ byte_of b i 0) (f : c ≡ byte_of b i 1) where
  pub set_algorithm : k ≡ 1 → a ≡ over_policies (policies_by c) → a ≡ algorithm_at b i
  set_algorithm h g = rw (is_kind_lem b i 1 (same_as e h), ← f) g

  pub policy_algorithm : (k ≡ 1 → ⊥) → a ≡ over_rules (rules_by c) → a ≡ algorithm_at b i
  policy_algorithm h g = rw (no_kind b i 1 (differs 1 e h), ← f) g

-- its number
pub code_of : {a d : Algorithm} {n : ℕ} → n ≡ algorithm_code a → a ≡ d → n ≡ algorithm_code d
code_of e f = rw f at e

pub effect_at : {c d k : ℕ} → c ≡ d → k ≡ effect_code (effect_of c) → k ≡ effect_code (effect_of d)
effect_at e f = rw (← e) f

-- how many obligations are due
same_effect : (x y : Effect) → effect_code x ≡ effect_code y → same x y ≡ true
same_effect Permits Permits e = refl
same_effect Permits Denies e = absurd (omega (arith, e))
same_effect Denies Permits e = absurd (omega (arith, e))
same_effect Denies Denies e = refl

other_effect : (x y : Effect) → (effect_code x ≡ effect_code y → ⊥) → same x y ≡ false
other_effect Permits Permits e = absurd (e refl)
other_effect Permits Denies e = refl
other_effect Denies Permits e = refl
other_effect Denies Denies e = absurd (e refl)

-- what a policy or set has due: its own obligations, and, if it is a set, those of the policies and sets in it
tree_due : (b : List ℕ) (i : ℕ) (kids : Forest) (e : Effect)
    → obligations e (tree_at b i kids (trees_in b kids)) ≡ if (is_kind b i 1) (obligations_all e (trees_in b kids)) 0 + owns e (obligations_in b kids)
unfolding obligations
tree_due b i kids e =
    tree_by (λ x t. obligations e t ≡ if x (obligations_all e (trees_in b kids)) 0 + owns e (obligations_in b kids)) b i kids (trees_in b kids) refl (omega arith)

pub due_none : (b : List ℕ) (i left : ℕ) (e : Effect) (deep : Bool) → left ≤ 0 → 0 ≡ due_in b i left e deep
unfolding due_in trees_in obligations_in obligations_all owns
due_none b i left e true h = rw (forest_none b i left h) refl
due_none b i left e false h = rw (forest_none b i left h) refl

module _ (b : List ℕ) (i left : ℕ) (e : Effect) {s : ℕ} (h : 0 < left) (f : s ≡ span_in b i left) where
  abbrev rest : Bool → ℕ
  rest deep = due_in b (i + s) (left - s) e deep

  -- an obligation's record is no policy or set
  own : (deep : Bool) → byte_of b i 0 ≡ 8 → due_in b i left e deep ≡ if (same (effect_of (byte_of b i 1)) e) 1 0 + rest deep
  unfolding due_in trees_in obligations_in owns
  own true k =
      let n1 = no_kind b i 1 (λ z. omega (arith, k, z)) in
      let n2 = no_kind b i 2 (λ z. omega (arith, k, z)) in
      rw (forest_more b i left h f, n1, n2, is_kind_lem b i 8 k) (omega arith)
  own false k = rw (forest_more b i left h f, is_kind_lem b i 8 k) (omega arith)

  pub due_own : (deep : Bool) {r m n : ℕ} → byte_of b i 0 ≡ 8 → m ≡ effect_code (effect_of (byte_of b i 1)) → n ≡ effect_code e → m ≡ n
      → r ≡ rest deep → r + 1 ≡ due_in b i left e deep
  due_own deep k p q z g = rw (own deep k, same_effect (effect_of (byte_of b i 1)) e (sym p ∙ z ∙ q)) (omega (arith, g))

  pub due_else : (deep : Bool) {r m n : ℕ} → byte_of b i 0 ≡ 8 → m ≡ effect_code (effect_of (byte_of b i 1)) → n ≡ effect_code e → (m ≡ n → ⊥)
      → r ≡ rest deep → r ≡ due_in b i left e deep
  due_else deep k p q z g = rw (own deep k, other_effect (effect_of (byte_of b i 1)) e (λ y. z (p ∙ y ∙ sym q))) (omega (arith, g))

  pub due_flat : (deep : Bool) {r : ℕ} → (byte_of b i 0 ≡ 8 → ⊥) → deep ≡ false → r ≡ rest deep → r ≡ due_in b i left e deep
  unfolding due_in obligations_in
  due_flat deep k z g = rw (z, forest_more b i left h f, no_kind b i 8 k) (rw z at g)

  pub due_party : (deep : Bool) {r q : ℕ} → (byte_of b i 0 ≡ 8 → ⊥) → is_party b i ≡ true → deep ≡ true → q ≡ due_in b (i + 1) (s - 1) e (is_kind b i 1) → r ≡ rest deep
      → q + r ≡ due_in b i left e deep
  unfolding due_in trees_in obligations_all obligations_in
  due_party deep k m z p g =
      let t = tree_due b i (forest b (i + 1) (s - 1)) e in
      let g₁ = rw z at g in
      rw (z, forest_more b i left h f, m, no_kind b i 8 k) (omega (arith, p, g₁, t))

  pub due_other : (deep : Bool) {r : ℕ} → (byte_of b i 0 ≡ 8 → ⊥) → is_party b i ≡ false → r ≡ rest deep → r ≡ due_in b i left e deep
  unfolding due_in trees_in obligations_in
  due_other true k m g = rw (forest_more b i left h f, no_kind b i 8 k, m) g
  due_other false k m g = rw (forest_more b i left h f, no_kind b i 8 k) g

-- the programme
module _ (b : List ℕ) (n : ℕ) (l : length b ≡ n * size) where
  kids_of : length b / size - 1 ≡ n - 1
  kids_of = omega (arith, l)

  due_whole : (e : Effect) → obligations e (book_of b) ≡ due_in b 1 (n - 1) e (is_kind b 0 1)
  unfolding book_of due_in
  due_whole e = rw kids_of (tree_due b 0 (forest b 1 (n - 1)) e)

  book_is : book_of b ≡ tree_at b 0 (below b 0 n) (trees_in b (below b 0 n))
  unfolding book_of
  book_is = rw kids_of refl

  -- the top record stands at record 0
  top_is : (algorithm_of (book_of b) ≡ algorithm_at b 0) × (code_top (book_of b) ≡ within_code b 0 n 3 0)
  unfolding code_top within_code body_code trees_code rules_code
  top_is = rw book_is (
      tree_by (λ x t. (algorithm_of t ≡ if x (over_policies (policies_by (choice_at b 0))) (over_rules (rules_by (choice_at b 0))))
      × (code_top t ≡ code_within First (target_in b (below b 0 n))
      (code_body (if x (code_trees (over_policies (policies_by (choice_at b 0))) (trees_in b (below b 0 n))) (code_rules (rules_in b (below b 0 n)))) (obligations_in b (below b 0 n))) 0))
      b 0 (below b 0 n) (trees_in b (below b 0 n)) (refl, refl) (refl, refl))

  pub programme_parts : {k p d : ℕ} → k ≡ byte_of b 0 0 → p ≡ due_in b 1 (n - 1) Permits (eqb k 1) → d ≡ due_in b 1 (n - 1) Denies (eqb k 1)
      → Three (translated (book_of b)) (begin (algorithm_at b 0) p ∷ []) (within_code b 0 n 3 0) (replicate (suc ((d - 1) / 2)) finish)
  unfolding translated programme
  programme_parts {k} {p} {d} e f g =
      let f₁ : p ≡ due_in b 1 (n - 1) Permits (is_kind b 0 1) = rw e at f in
      let g₁ : d ≡ due_in b 1 (n - 1) Denies (is_kind b 0 1) = rw e at g in
      record { joined = rw (due_whole Permits, due_whole Denies, ← f₁, ← g₁, top_is.0, top_is.1) refl }

  pub programme_short : 0 < n → length (translated (book_of b)) ≤ 8 * n + 8
  programme_short h =
      let k = short (book_of b) in
      let m = book_records b (omega (arith, l, h)) in
      let e : length b / size ≡ n = omega (arith, l) in
      omega (arith, k, m, e)
