-- What is claimed of salvage. The proofs are in `proofs/`. Assumes nothing.
use Rattle.std.specs.Prelude.{ℕ, ◌+◌, ◌-◌, ◌≤◌, ◌<◌, ◌≡◌, true, false, List, [], ◌∷◌, ◌++◌}
use Rattle.record.specs.Choose.{among}
use Rattle.record.specs.Bytes.{Bytes, span_of}
use Rattle.record.specs.Forest.{forest}
use Rattle.fields.specs.Fields.{kind_at, field_ok, obligations_of}
use Rattle.meaning.specs.Policy.{always, rulesDeny, Tree, policy, no_tree, tree}
use Rattle.meaning.specs.Meaning.{Bags, decides, obliges}
use Rattle.meaning.specs.Reading.{trees_in}
use Rattle.meaning.specs.declared.Effect.TheVariants.{Denies}
use Rattle.meaning.specs.declared.Verdict.TheVariants.{Deny}
use Rattle.placement.specs.Place.{kind_number}
use Rattle.placement.specs.Keeps.{FirstToBreak, Sized, Keeps}
use Rattle.judge.specs.Judge.{judge_of, accepted_with}
use Rattle.structure.specs.Subtrees.{Subtrees, record_count, record_at, subtrees_of, bytes_of, with_span, slice_of, SameRecords}
use Rattle.structure.specs.Sound.{as_parent, line_one, sound_at}
use Rattle.spoilt.specs.Spoilt.{line_ok, good_at, mendable_at, is_set}
use Rattle.mending.specs.Mending.{deny_policy, deny_rule, Replacement, Mended, Spoilt, salvage_of}

-- the result keeps every rule, and is accepted; it is no longer than the book
abbrev pub MendedIsKept : Type 0
MendedIsKept =
    (b : List ℕ) (n : ℕ) → Sized b n → (x : Subtrees) (xs : List Replacement) → salvage_of b n ≡ Mended x xs
    → Keeps (bytes_of x) (record_count x)
    × (judge_of (bytes_of x) ≡ accepted_with (record_count x) (obligations_of (bytes_of x) (record_count x)))
    × (record_count x ≤ n)

-- a sound book with a root set comes back as it was, and nothing is replaced
abbrev pub SoundIsLeft : Type 0
SoundIsLeft =
    (b : List ℕ) (n : ℕ) → Bytes b → Keeps b n → kind_number (kind_at b 0) ≡ 1
    → (salvage_of b n ≡ Mended (subtrees_of b 0 n) []) × (bytes_of (subtrees_of b 0 n) ≡ b)

-- mending twice changes nothing more
abbrev pub MendedOnce : Type 0
MendedOnce =
    (b : List ℕ) (n : ℕ) → Sized b n → (x : Subtrees) (xs : List Replacement) → salvage_of b n ≡ Mended x xs
    → salvage_of (bytes_of x) (record_count x) ≡ Mended x []

-- what is replaced is a policy or set below line 1 with a sound head line, as a child of line 1 after one of some rank, and a bad line inside; so it is not
-- sound, whatever stands before it
pub record Replaceable (b : List ℕ) (n line lines : ℕ) : Type 0 where
  pub below : 2 ≤ line
  pub inside : line + lines ≤ n + 1
  pub span : span_of b (line - 1) ≡ lines
  pub fields : field_ok b (line - 1) ≡ true
  pub kind : among 1 2 (kind_number (kind_at b (line - 1))) ≡ true
  pub rank : ℕ
  pub head : line_ok (line_one b) rank (record_at b (line - 1)) (subtrees_of b line (lines - 1)) ≡ true
  pub bad : ℕ
  pub bad_inside : bad < lines - 1
  pub is_bad : good_at (as_parent (line_one b) b (line - 1)) 0 (subtrees_of b line (lines - 1)) bad ≡ false
  pub unsound : (e : ℕ) → sound_at (line_one b) e (slice_of b (line - 1) lines) 0 lines ≡ false

-- so each of them, in the order of their lines, from this line on
pub data AllReplaceable (b : List ℕ) (n : ℕ) : ℕ → List Replacement → Type 0 where
  none : {from : ℕ} → AllReplaceable b n from []
  more : {from : ℕ} {x : Replacement} {xs : List Replacement} → from ≤ x.line → Replaceable b n x.line x.lines → AllReplaceable b n (x.line + x.lines) xs
      → AllReplaceable b n from (x ∷ xs)

abbrev pub NoSoundReplaced : Type 0
NoSoundReplaced = (b : List ℕ) (n : ℕ) (x : Subtrees) (xs : List Replacement) → salvage_of b n ≡ Mended x xs → AllReplaceable b n 2 xs

-- the n records of b from i on, two records in the place of each replacement, and all others as they were
unfoldable pub exchanged : List ℕ → ℕ → ℕ → List Replacement → List ℕ
exchanged b n i [] = slice_of b i (n - i)
exchanged b n i (x ∷ xs) = slice_of b i (x.line - 1 - i) ++ ((deny_policy ++ deny_rule) ++ exchanged b n (x.line - 1 + x.lines) xs)

-- every other record keeps its bytes, but line 1 its span
abbrev pub OthersKeep : Type 0
OthersKeep =
    (b : List ℕ) (n : ℕ) → Sized b n → (x : Subtrees) (xs : List Replacement) → salvage_of b n ≡ Mended x xs
    → bytes_of x ≡ with_span (slice_of b 0 1) (record_count x) ++ exchanged b n 1 xs

-- a line that makes salvage refuse: line 1, where it is no sound set of all records; else the first bad line outside what may be replaced
pub data Spoils (b : List ℕ) (n line : ℕ) : Type 0 where
  line_one_spoils : line ≡ 1 → is_set b n ≡ false → Spoils b n line
  later_spoils : (k : ℕ) → line ≡ k + 2 → is_set b n ≡ true → FirstToBreak (mendable_at (line_one b) 0 (subtrees_of b 1 (n - 1))) (n - 1) k → Spoils b n line

-- 13 is given exactly when one does, with that line
abbrev pub SpoiltSpoils : Type 0
SpoiltSpoils = (b : List ℕ) (n line : ℕ) → salvage_of b n ≡ Spoilt line → Spoils b n line

abbrev pub SpoilsIsSpoilt : Type 0
SpoilsIsSpoilt = (b : List ℕ) (n line : ℕ) → Spoils b n line → salvage_of b n ≡ Spoilt line

-- the tree of a replacement: deny-overrides over one rule, Deny, without target, condition or obligations
abbrev pub deny_tree : Tree
deny_tree = policy rulesDeny [] (record { effect = Denies; target = []; when = always } ∷ []) []

-- wherever its two records stand they are read as that tree, which decides Deny for every request and hands up nothing
abbrev pub ReplacedDenies : Type 0
ReplacedDenies =
    (b : List ℕ) (i : ℕ) → SameRecords (deny_policy ++ deny_rule) 0 b i 2
    → (trees_in b (forest b i 2) ≡ tree deny_tree no_tree) × ((g : Bags) → (decides g deny_tree ≡ Deny) × (obliges g deny_tree ≡ []))
