-- A book whose lines were rearranged, by its bytes: neighbouring children of one record stand in another order, each with all its lines. What is claimed of such
-- a book; `proofs/Books.antt` proves it. Assumes nothing.
use Rattle.std.specs.Prelude.{ℕ, ◌+◌, ◌-◌, ◌*◌, ◌≡◌, Bool, true, List, [], ◌∷◌, ◌++◌, eqb, take, drop}
use Rattle.record.specs.Choose.{either}
use Rattle.record.specs.Bytes.{size, byte_of, span_of}
use Rattle.record.specs.Forest.{forest}
use Rattle.operands.specs.Parent.{parent_of}
use Rattle.meaning.specs.Policy.{Tree}
use Rattle.meaning.specs.Meaning.{obliges}
use Rattle.meaning.specs.Reading.{tree_at, trees_in, book_of, bags_of}
use Rattle.judge.specs.Judge.{judge_of, accepted_with}
use Rattle.structure.specs.Subtrees.{slice_of}
use Rattle.order.specs.Reordered.{Reordered}
use Rattle.order.specs.Rearranged.{Rearranged}
use Rattle.order.specs.Stays.{decision, keeps_decision, keeps_answer, keeps_numbers}

-- the kinds whose records may be moved: a rule, a policy set, a policy
abbrev pub moves : ℕ → Bool
moves kind = either (eqb kind 3) (either (eqb kind 1) (eqb kind 2))

abbrev pub movable : List ℕ → ℕ → Bool
movable b i = moves (byte_of b i 0)

-- from record i to record e stand, one after another by their spans, children of record p: rules, or policies and sets; these are their bytes
pub data Row (b : List ℕ) (p : ℕ) : ℕ → ℕ → List (List ℕ) → Type 0 where
  end : {i : ℕ} → Row b p i i []
  next : {i e : ℕ} {xs : List (List ℕ)} → parent_of b i ≡ p → movable b i ≡ true → Row b p (i + span_of b i) e xs
      → Row b p i e (slice_of b i (span_of b i) ∷ xs)

-- the policy or set at record i
abbrev pub party_at : List ℕ → ℕ → Tree
party_at b i = let kids = forest b (i + 1) (span_of b i - 1) in tree_at b i kids (trees_in b kids)

-- one after another
abbrev pub together : List (List ℕ) → List ℕ
together [] = []
together (x ∷ xs) = x ++ together xs

-- in c neighbouring children of one record of b stand in another order; all else is as it was
pub record RowReordered (may : Tree → Bool) (b c : List ℕ) : Type 0 where
  pub parent : ℕ
  pub first : ℕ
  pub last : ℕ
  pub before : List (List ℕ)
  pub after : List (List ℕ)
  pub row : Row b parent first last before
  pub lets : may (party_at b parent) ≡ true
  pub reordered : Reordered (List ℕ) before after
  pub bytes : c ≡ take (first * size) b ++ (together after ++ drop (last * size) b)

-- any number of rows, one after another
pub data RearrangedBook (may : Tree → Bool) : List ℕ → List ℕ → Type 0 where
  as_is : {b : List ℕ} → RearrangedBook may b b
  reorders : {b c d : List ℕ} → RowReordered may b c → RearrangedBook may c d → RearrangedBook may b d

-- an accepted book, rearranged, is accepted, with as many records and obligations, whatever its algorithms
abbrev pub RearrangedIsAccepted : Type 0
RearrangedIsAccepted =
    (may : Tree → Bool) (b c : List ℕ) (n o : ℕ) → RearrangedBook may b c → judge_of b ≡ accepted_with n o → judge_of c ≡ accepted_with n o

-- and its tree is that of the book, rearranged
abbrev pub RearrangedIsRead : Type 0
RearrangedIsRead =
    (may : Tree → Bool) (b c : List ℕ) (n o : ℕ) → RearrangedBook may b c → judge_of b ≡ accepted_with n o → Rearranged may (book_of b) (book_of c)

-- So of two such books, for every request: the decision stays; the whole answer; the numbers of the obligations. What may be reordered for each is in
-- specs/Stays.antt.
abbrev pub BookKeepsDecision : Type 0
BookKeepsDecision =
    (b c q : List ℕ) (n o : ℕ) → judge_of b ≡ accepted_with n o → RearrangedBook keeps_decision b c
    → decision (bags_of q) (book_of b) ≡ decision (bags_of q) (book_of c)

abbrev pub BookKeepsAnswer : Type 0
BookKeepsAnswer =
    (b c q : List ℕ) (n o : ℕ) → judge_of b ≡ accepted_with n o → RearrangedBook keeps_answer b c
    → (decision (bags_of q) (book_of b) ≡ decision (bags_of q) (book_of c)) × (obliges (bags_of q) (book_of b) ≡ obliges (bags_of q) (book_of c))

abbrev pub BookKeepsNumbers : Type 0
BookKeepsNumbers =
    (b c q : List ℕ) (n o : ℕ) → judge_of b ≡ accepted_with n o → RearrangedBook (keeps_numbers (bags_of q) (decision (bags_of q) (book_of b))) b c
    → (decision (bags_of q) (book_of b) ≡ decision (bags_of q) (book_of c)) × Reordered ℕ (obliges (bags_of q) (book_of b)) (obliges (bags_of q) (book_of c))
