-- The first bad line of subtrees, and the first spoilt one, subtree by subtree. Assumes nothing.
use mathlib.Core.Path.{◌≡◌, refl, sym, ◌∙◌}
use mathlib.Core.Bool.{Bool, true, false, not}
use mathlib.Core.List.{List}
use Prim.Native.Nat.{ℕ, zero, suc, ◌+◌, ◌-◌, ◌≤◌, ◌<◌}
use native.Mathlib.Omega.{arith}
use lib.Dec.{ltb}
use borrow.Author.Tests.{lt-ltb, le-ltb, ltb-true, ltb-false}
use Rattle.record.specs.Choose.{if, both, either}
use Rattle.record.proofs.Choose.{both_parts, no_false}
use Rattle.fields.specs.First.{first_from}
use Rattle.fields.proofs.First.{by, first_le, first_in, first_past, first_reach_all}
use Rattle.placement.specs.Place.{rank_at}
use Rattle.structure.specs.Subtrees.{Subtrees, no_subtree, subtree, record_count}
use Rattle.structure.specs.Sound.{Parent, as_parent, record_ok, child_ok, operands_in, sound}
use Rattle.structure.proofs.Subtrees.{count_none, count_subtree}
use Rattle.spoilt.specs.Claims.{SoundIsGood}
use Rattle.spoilt.specs.Spoilt.{line_ok, good_at, replaceable, inside_at, mendable_at, first_bad, first_spoilt}

-- the first that fails, of tests that are others moved by s
first_moved : (f g : ℕ → Bool) (s i k : ℕ) → ((j : ℕ) → i ≤ j → j < i + k → f (s + j) ≡ g j) → first_from f (s + i) k ≡ s + first_from g i k
unfolding first_from
first_moved f g s i zero h = refl
first_moved f g s i (suc k) h =
    let e : s + i + 1 ≡ s + (i + 1) = omega arith in
    let t = first_moved f g s (i + 1) k (λ j a l. h j (omega arith) (omega arith)) in
    rw (h i (omega arith) (omega arith), e, t) (go (g i) (first_from g (i + 1) k))
  where
    go : (t : Bool) (r : ℕ) → if t (s + r) (s + i) ≡ s + if t r i
    go true r = refl
    go false r = refl

-- the first that fails of m and then n
first_parts : (f : ℕ → Bool) (i m n : ℕ) → first_from f i (m + n) ≡ if (ltb (first_from f i m) (i + m)) (first_from f i m) (first_from f (i + m) n)
first_parts f i m n =
    let e : m + n - m ≡ n = omega arith in
    by (ltb (first_from f i m) (i + m))
    (λ t. rw t (first_in f i m (m + n) (omega arith) (ltb-true _ _ t)))
    (λ t. let z = first_le f i m in
    let w = ltb-false (first_from f i m) (i + m) t in
    rw t (rw e at (first_past f i m (m + n) (omega arith) (omega arith))))

less_same : (x m : ℕ) → ltb (suc x) (1 + m) ≡ ltb x m
less_same x m =
    by (ltb x m)
    (λ t. lt-ltb (suc x) (1 + m) (omega (arith, ltb-true x m t)) ∙ sym t)
    (λ t. le-ltb (suc x) (1 + m) (omega (arith, ltb-false x m t)) ∙ sym t)

-- a record, then m below it and n after these: k and r are the tests of these by themselves
module _ (f k r : ℕ → Bool) (m n : ℕ) (below : (j : ℕ) → j < m → f (suc j) ≡ k j) (after : (j : ℕ) → j < n → f (suc (m + j)) ≡ r j) where
  first_below : first_from f 1 m ≡ suc (first_from k 0 m)
  first_below =
      let z = first_moved f k 1 0 m (λ j a l. let e : 1 + j ≡ suc j = omega arith in rw e (below j (omega arith))) in
      let e : 1 + 0 ≡ 1 = omega arith in
      let g : 1 + first_from k 0 m ≡ suc (first_from k 0 m) = omega arith in
      rw (e, g) at z

  first_after_lem : first_from f (1 + m) n ≡ suc (m + first_from r 0 n)
  first_after_lem =
      let z = first_moved f r (1 + m) 0 n (λ j a l. let e : 1 + m + j ≡ suc (m + j) = omega arith in rw e (after j (omega arith))) in
      let e : 1 + m + 0 ≡ 1 + m = omega arith in
      let g : 1 + m + first_from r 0 n ≡ suc (m + first_from r 0 n) = omega arith in
      rw (e, g) at z

  first_tree : first_from f 0 (suc (m + n)) ≡ if (f 0) (suc (if (ltb (first_from k 0 m) m) (first_from k 0 m) (m + first_from r 0 n))) 0
  unfolding first_from
  first_tree = go (f 0) (ltb (suc (first_from k 0 m)) (1 + m)) (ltb (first_from k 0 m) m) (first_from f (0 + 1) (m + n)) (first_from k 0 m) (m + first_from r 0 n)
      (less_same (first_from k 0 m) m) whole
    where
      whole : first_from f (0 + 1) (m + n) ≡ if (ltb (suc (first_from k 0 m)) (1 + m)) (suc (first_from k 0 m)) (suc (m + first_from r 0 n))
      whole = let e : 0 + 1 ≡ 1 = omega arith in rw (e, first_parts f 1 m n, first_below, first_after_lem) refl

      go : (t a c : Bool) (x y z : ℕ) → a ≡ c → x ≡ if a (suc y) (suc z) → if t x 0 ≡ if t (suc (if c y z)) 0
      go true true c x y z q w = rw (← q) w
      go true false c x y z q w = rw (← q) w
      go false a c x y z q w = refl

-- line by line of a subtree
module _ (u : Parent) (e : ℕ) (r : List ℕ) (kids rest : Subtrees) where
  good_below : (j : ℕ) → j < record_count kids → good_at u e (subtree r kids rest) (suc j) ≡ good_at (as_parent u r 0) 0 kids j
  unfolding good_at
  good_below j l = rw (lt-ltb j (record_count kids) l) refl

  good_after : (j : ℕ) → good_at u e (subtree r kids rest) (suc (record_count kids + j)) ≡ good_at u (rank_at r 0) rest j
  unfolding good_at
  good_after j =
      let q : record_count kids + j - record_count kids ≡ j = omega arith in
      rw (le-ltb (record_count kids + j) (record_count kids) (omega arith), q) refl

  mendable_below : (j : ℕ) → j < record_count kids → mendable_at u e (subtree r kids rest) (suc j) ≡ either (replaceable u e r kids) (good_at (as_parent u r 0) 0 kids j)
  unfolding mendable_at inside_at
  mendable_below j l = rw (lt-ltb j (record_count kids) l, good_below j l) refl

  mendable_after : (j : ℕ) → mendable_at u e (subtree r kids rest) (suc (record_count kids + j)) ≡ mendable_at u (rank_at r 0) rest j
  unfolding mendable_at inside_at
  mendable_after j =
      let q : record_count kids + j - record_count kids ≡ j = omega arith in
      rw (good_after j, le-ltb (record_count kids + j) (record_count kids) (omega arith), q) refl

  bad_lines : first_bad u e (subtree r kids rest)
      ≡ if (line_ok u e r kids)
      (suc (if (ltb (first_bad (as_parent u r 0) 0 kids) (record_count kids)) (first_bad (as_parent u r 0) 0 kids) (record_count kids + first_bad u (rank_at r 0) rest)))
      0
  unfolding first_bad good_at
  bad_lines =
      rw (count_subtree r kids rest)
      (first_tree (good_at u e (subtree r kids rest)) (good_at (as_parent u r 0) 0 kids) (good_at u (rank_at r 0) rest) (record_count kids) (record_count rest) good_below (λ j l. good_after j))

  spoilt_lines : first_spoilt u e (subtree r kids rest)
      ≡ if (line_ok u e r kids)
      (suc (if (ltb (first_from (λ j. either (replaceable u e r kids) (good_at (as_parent u r 0) 0 kids j)) 0 (record_count kids)) (record_count kids))
      (first_from (λ j. either (replaceable u e r kids) (good_at (as_parent u r 0) 0 kids j)) 0 (record_count kids)) (record_count kids + first_spoilt u (rank_at r 0) rest)))
      0
  unfolding first_spoilt mendable_at inside_at good_at
  spoilt_lines =
      rw (count_subtree r kids rest)
      (first_tree (mendable_at u e (subtree r kids rest)) (λ j. either (replaceable u e r kids) (good_at (as_parent u r 0) 0 kids j)) (mendable_at u (rank_at r 0) rest)
      (record_count kids) (record_count rest) mendable_below (λ j l. mendable_after j))

-- what is sound, by its first line
sound_line : (u : Parent) (e : ℕ) (r : List ℕ) (kids rest : Subtrees)
    → sound u e (subtree r kids rest) ≡ both (line_ok u e r kids) (both (sound (as_parent u r 0) 0 kids) (sound u (rank_at r 0) rest))
unfolding sound line_ok
sound_line u e r kids rest = go (record_ok r (record_count kids)) (both (child_ok u e r) (operands_in r kids)) _
  where
    go : (a c d : Bool) → both a (both c d) ≡ both (both a c) d
    go true c d = refl
    go false c d = refl

pub sound_empty : (u : Parent) (e : ℕ) → sound u e no_subtree ≡ true
unfolding sound
sound_empty u e = refl

pub bad_empty : (u : Parent) (e : ℕ) → first_bad u e no_subtree ≡ 0
unfolding first_bad first_from record_count
bad_empty u e = refl

pub spoilt_empty : (u : Parent) (e : ℕ) → first_spoilt u e no_subtree ≡ 0
unfolding first_spoilt first_from record_count
spoilt_empty u e = refl

pub spoilt_le : (u : Parent) (e : ℕ) (x : Subtrees) → first_spoilt u e x ≤ record_count x
unfolding first_spoilt
spoilt_le u e x = let z = first_le (mendable_at u e x) 0 (record_count x) in omega (arith, z)

-- of unsound records a line is bad ..
bad_if : (o k t s : Bool) (nk nt bk bt : ℕ) → both o (both k t) ≡ false → (k ≡ false → bk < nk) → (t ≡ false → bt < nt) → ltb bk nk ≡ s
    → if o (suc (if s bk (nk + bt))) 0 < suc (nk + nt)
bad_if true k t true nk nt bk bt e p q d = let z = ltb-true bk nk d in omega arith
bad_if true true t false nk nt bk bt e p q d = let z = q e in omega arith
bad_if true false t false nk nt bk bt e p q d = let z = p refl in let w = ltb-false bk nk d in absurd (omega arith)
bad_if false k t s nk nt bk bt e p q d = omega arith

pub bad_inside : (u : Parent) (e : ℕ) (x : Subtrees) → sound u e x ≡ false → first_bad u e x < record_count x
bad_inside u e no_subtree h = no_false (sym h ∙ sound_empty u e)
bad_inside u e (subtree r kids rest) h =
    rw (bad_lines u e r kids rest, count_subtree r kids rest)
    (bad_if (line_ok u e r kids) (sound (as_parent u r 0) 0 kids) (sound u (rank_at r 0) rest) _ (record_count kids) (record_count rest)
    (first_bad (as_parent u r 0) 0 kids) (first_bad u (rank_at r 0) rest) (sym (sound_line u e r kids rest) ∙ h)
    (λ z. bad_inside (as_parent u r 0) 0 kids z) (λ z. bad_inside u (rank_at r 0) rest z) refl)

-- .. and of sound ones none
pub bad_none : (u : Parent) (e : ℕ) (x : Subtrees) → sound u e x ≡ true → first_bad u e x ≡ record_count x
bad_none u e no_subtree h = bad_empty u e ∙ sym count_none
bad_none u e (subtree r kids rest) h =
    let n : ℕ = record_count kids in
    let z = both_parts (line_ok u e r kids) (both (sound (as_parent u r 0) 0 kids) (sound u (rank_at r 0) rest)) (sym (sound_line u e r kids rest) ∙ h) in
    let w = both_parts (sound (as_parent u r 0) 0 kids) (sound u (rank_at r 0) rest) z.1 in
    rw (bad_lines u e r kids rest, count_subtree r kids rest, z.0, bad_none (as_parent u r 0) 0 kids w.0, bad_none u (rank_at r 0) rest w.1, le-ltb n n (omega arith)) refl

pub sound_is_good : SoundIsGood
sound_is_good u e x =
    by (sound u e x)
    (λ t. rw (t, bad_none u e x t) (le-ltb (record_count x) (record_count x) (omega arith)))
    (λ t. rw t (lt-ltb (first_bad u e x) (record_count x) (bad_inside u e x t)))

-- the first bad line, and the first spoilt one, of a subtree and what is after it
module _ (u : Parent) (e : ℕ) (r : List ℕ) (kids rest : Subtrees) where
  pub bad_step : first_bad u e (subtree r kids rest)
      ≡ if (line_ok u e r kids)
      (suc (if (sound (as_parent u r 0) 0 kids) (record_count kids + first_bad u (rank_at r 0) rest) (first_bad (as_parent u r 0) 0 kids)))
      0
  bad_step = rw (bad_lines u e r kids rest, sound_is_good (as_parent u r 0) 0 kids) (go (sound (as_parent u r 0) 0 kids))
    where
      go : (t : Bool) → if (line_ok u e r kids) (suc (if (not t) (first_bad (as_parent u r 0) 0 kids) (record_count kids + first_bad u (rank_at r 0) rest))) 0
          ≡ if (line_ok u e r kids) (suc (if t (record_count kids + first_bad u (rank_at r 0) rest) (first_bad (as_parent u r 0) 0 kids))) 0
      go true = refl
      go false = refl

  -- within what may be replaced no line is spoilt, else the first bad one is
  module _ (k : ℕ) where
    spoilt_below : (p : Bool) → first_from (λ j. either p (good_at (as_parent u r 0) 0 kids j)) 0 k ≡ if p k (first_from (good_at (as_parent u r 0) 0 kids) 0 k)
    spoilt_below true = let z = first_reach_all (λ _. true) 0 k (λ j a l. refl) in omega (arith, z)
    spoilt_below false = refl

  pub spoilt_step : first_spoilt u e (subtree r kids rest)
      ≡ if (line_ok u e r kids)
      (suc (if (either (replaceable u e r kids) (sound (as_parent u r 0) 0 kids)) (record_count kids + first_spoilt u (rank_at r 0) rest) (first_bad (as_parent u r 0) 0 kids)))
      0
  unfolding first_bad
  spoilt_step =
      rw (spoilt_lines u e r kids rest, spoilt_below (record_count kids) (replaceable u e r kids))
      (go (replaceable u e r kids) (sound (as_parent u r 0) 0 kids) (sound_is_good (as_parent u r 0) 0 kids))
    where
      go : (p t : Bool) → ltb (first_bad (as_parent u r 0) 0 kids) (record_count kids) ≡ not t
          → if (line_ok u e r kids) (suc (if (ltb (if p (record_count kids) (first_bad (as_parent u r 0) 0 kids)) (record_count kids))
          (if p (record_count kids) (first_bad (as_parent u r 0) 0 kids)) (record_count kids + first_spoilt u (rank_at r 0) rest))) 0
          ≡ if (line_ok u e r kids) (suc (if (either p t) (record_count kids + first_spoilt u (rank_at r 0) rest) (first_bad (as_parent u r 0) 0 kids))) 0
      go true t q = rw (le-ltb (record_count kids) (record_count kids) (omega arith)) refl
      go false true q = rw q refl
      go false false q = rw q refl

-- some children, of which no line is spoilt: the first is a sound line and is sound within or may be replaced, and of those after it none is spoilt
pub record Mendable (u : Parent) (e : ℕ) (r : List ℕ) (kids rest : Subtrees) : Type 0 where
  pub line : line_ok u e r kids ≡ true
  pub within : either (replaceable u e r kids) (sound (as_parent u r 0) 0 kids) ≡ true
  pub others : first_spoilt u (rank_at r 0) rest ≡ record_count rest

mendable_if : (o p k : Bool) (nk nt bk bt : ℕ) → (k ≡ false → bk < nk) → bt ≤ nt
    → suc (nk + nt) ≤ if o (suc (if (either p k) (nk + bt) bk)) 0 → (o ≡ true) × (either p k ≡ true) × (bt ≡ nt)
mendable_if true true k nk nt bk bt h l e = (refl, refl, omega arith)
mendable_if true false true nk nt bk bt h l e = (refl, refl, omega arith)
mendable_if true false false nk nt bk bt h l e = let z = h refl in absurd (omega arith)
mendable_if false p k nk nt bk bt h l e = absurd (omega arith)

pub mendable : (u : Parent) (e : ℕ) (r : List ℕ) (kids rest : Subtrees) → first_spoilt u e (subtree r kids rest) ≡ record_count (subtree r kids rest)
    → Mendable u e r kids rest
mendable u e r kids rest h =
    let z = mendable_if (line_ok u e r kids) (replaceable u e r kids) (sound (as_parent u r 0) 0 kids) (record_count kids) (record_count rest)
    (first_bad (as_parent u r 0) 0 kids) (first_spoilt u (rank_at r 0) rest)
    (bad_inside (as_parent u r 0) 0 kids) (spoilt_le u (rank_at r 0) rest)
    (omega (arith, rw (spoilt_step u e r kids rest, count_subtree r kids rest) at h)) in
    record { line = z.0; within = z.1; others = z.2 }

-- and of sound children none is spoilt
pub spoilt_none : (u : Parent) (e : ℕ) (x : Subtrees) → sound u e x ≡ true → first_spoilt u e x ≡ record_count x
spoilt_none u e no_subtree h = spoilt_empty u e ∙ sym count_none
spoilt_none u e (subtree r kids rest) h =
    let z = both_parts (line_ok u e r kids) (both (sound (as_parent u r 0) 0 kids) (sound u (rank_at r 0) rest)) (sym (sound_line u e r kids rest) ∙ h) in
    let w = both_parts (sound (as_parent u r 0) 0 kids) (sound u (rank_at r 0) rest) z.1 in
    rw (spoilt_step u e r kids rest, count_subtree r kids rest, z.0, w.0, spoilt_none u (rank_at r 0) rest w.1) (go (replaceable u e r kids))
  where
    go : (p : Bool) → suc (if (either p true) (record_count kids + record_count rest) (first_bad (as_parent u r 0) 0 kids)) ≡ suc (record_count kids + record_count rest)
    go true = refl
    go false = refl
