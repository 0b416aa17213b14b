-- What salvage makes of a book, and what is known of one that is mended. Assumes nothing.
use mathlib.Core.Path.{◌≡◌, refl}
use mathlib.Core.Bool.{Bool, true, false}
use mathlib.Core.List.{List}
use Prim.Native.Nat.{ℕ, ◌+◌, ◌-◌, ◌≤◌, ◌<◌}
use native.Mathlib.Omega.{arith}
use lib.Dec.{eqb, ltb}
use borrow.Author.Tests.{lt-ltb, le-ltb, eqb-true, ltb-false}
use Rattle.record.specs.Choose.{if, both}
use Rattle.record.specs.Bytes.{span_of}
use Rattle.record.proofs.Choose.{both_parts}
use Rattle.fields.specs.Fields.{kind_at, field_ok}
use Rattle.placement.specs.Place.{kind_number}
use Rattle.structure.specs.Subtrees.{Subtrees, record_count, record_at, subtrees_of}
use Rattle.structure.specs.Sound.{Parent, line_one}
use Rattle.structure.proofs.Subtrees.{count_subtrees}
use Rattle.spoilt.specs.Spoilt.{first_spoilt, is_set}
use Rattle.spoilt.proofs.Trees.{spoilt_le}
use Rattle.mending.specs.Mending.{mended, Replacement, replacements, Mended, Spoilt, headed, salvage_of}

-- line 1 is no set of all records; or a line below it is spoilt; or none is
module _ (b : List ℕ) (n : ℕ) where
  pub not_set : is_set b n ≡ false → salvage_of b n ≡ Spoilt 1
  unfolding salvage_of
  not_set e = rw e refl

  module _ (e : is_set b n ≡ true) where
    pub line_spoilt : {k : ℕ} → first_spoilt (line_one b) 0 (subtrees_of b 1 (n - 1)) ≡ k → k < n - 1 → salvage_of b n ≡ Spoilt (k + 2)
    unfolding salvage_of
    line_spoilt {k} q l = rw (e, q, lt-ltb k (n - 1) l) refl

    pub no_line_spoilt : n - 1 ≤ first_spoilt (line_one b) 0 (subtrees_of b 1 (n - 1))
        → salvage_of b n ≡ Mended (headed (record_at b 0) (mended (line_one b) (subtrees_of b 1 (n - 1)))) (replacements (line_one b) 2 (subtrees_of b 1 (n - 1)))
    unfolding salvage_of
    no_line_spoilt l = rw (e, le-ltb (first_spoilt (line_one b) 0 (subtrees_of b 1 (n - 1))) (n - 1) l) refl

-- an answer is one of the two
pub not_both : {A : Type 0} {l : ℕ} {x : Subtrees} {xs : List Replacement} → Spoilt l ≡ Mended x xs → A
not_both e = let z : ◌≡◌ {A = ℕ} 0 1 = cc in absurd (omega arith)

same_mended : (m x : Subtrees) (ms xs : List Replacement) → Mended m ms ≡ Mended x xs → (m ≡ x) × (ms ≡ xs)
same_mended m x ms xs e = ((cc), (cc))

mended_if : (t s : Bool) (l : ℕ) (m x : Subtrees) (ms xs : List Replacement) → if t (if s (Spoilt l) (Mended m ms)) (Spoilt 1) ≡ Mended x xs
    → (t ≡ true) × (s ≡ false) × (m ≡ x) × (ms ≡ xs)
mended_if true true l m x ms xs e = not_both e
mended_if true false l m x ms xs e = let z = same_mended m x ms xs e in (refl, refl, z.0, z.1)
mended_if false s l m x ms xs e = not_both e

-- line 1 is a set that keeps its field rules and states n
pub record WholeSet (b : List ℕ) (n : ℕ) : Type 0 where
  pub fields : field_ok b 0 ≡ true
  pub number : kind_number (kind_at b 0) ≡ 1
  pub span : span_of b 0 ≡ n

pub whole_set : (b : List ℕ) (n : ℕ) → is_set b n ≡ true → WholeSet b n
unfolding is_set
whole_set b n h =
    let k : Bool = eqb (kind_number (kind_at b 0)) 1 in
    let z = both_parts (field_ok b 0) (both k (eqb (span_of b 0) n)) h in
    let w = both_parts k (eqb (span_of b 0) n) z.1 in
    record { fields = z.0; number = eqb-true (kind_number (kind_at b 0)) 1 w.0; span = eqb-true (span_of b 0) n w.1 }

-- line 1 is one; no line below it is spoilt; x and xs are what mending makes of these
pub record Answer (b : List ℕ) (n : ℕ) (x : Subtrees) (xs : List Replacement) : Type 0 where
  pub set : WholeSet b n
  pub none_spoilt : first_spoilt (line_one b) 0 (subtrees_of b 1 (n - 1)) ≡ record_count (subtrees_of b 1 (n - 1))
  pub tree : headed (record_at b 0) (mended (line_one b) (subtrees_of b 1 (n - 1))) ≡ x
  pub list : replacements (line_one b) 2 (subtrees_of b 1 (n - 1)) ≡ xs

pub answer : (b : List ℕ) (n : ℕ) (x : Subtrees) (xs : List Replacement) → salvage_of b n ≡ Mended x xs → Answer b n x xs
unfolding salvage_of
answer b n x xs e =
    let u : Parent = line_one b in
    let kids : Subtrees = subtrees_of b 1 (n - 1) in
    let k : ℕ = first_spoilt u 0 kids in
    let z = mended_if (is_set b n) (ltb k (n - 1)) (k + 2) (headed (record_at b 0) (mended u kids)) x (replacements u 2 kids) xs e in
    let f = ltb-false k (n - 1) z.1 in
    let g = spoilt_le u 0 kids in
    let c : record_count kids ≡ n - 1 = count_subtrees b 1 (n - 1) in
    record { set = whole_set b n z.0; none_spoilt = omega (arith, f, g, c); tree = z.2; list = z.3 }
