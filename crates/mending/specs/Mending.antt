-- What salvage makes of a half-copied book (document 02, 6). Assumes nothing.
use Rattle.std.specs.Prelude.{ℕ, suc, ◌+◌, ◌-◌, List, [], ◌∷◌, ltb, replicate}
use Rattle.record.specs.Choose.{if}
use Rattle.structure.specs.Subtrees.{Subtrees, no_subtree, subtree, record_count, record_at, subtrees_of, with_span}
use Rattle.structure.specs.Sound.{Parent, as_parent, line_one, sound}
use Rattle.spoilt.specs.Spoilt.{first_spoilt, is_set}

-- a deny-overrides policy of two records, itself and one Deny rule; neither has a target
abbrev pub deny_policy : List ℕ
deny_policy = 2 ∷ 1 ∷ 0 ∷ 2 ∷ replicate 16 0

abbrev pub deny_rule : List ℕ
deny_rule = 3 ∷ 2 ∷ 0 ∷ 1 ∷ replicate 16 0

-- line 1's children, those with a bad line inside replaced
unfoldable pub mended : Parent → Subtrees → Subtrees
mended u no_subtree = no_subtree
mended u (subtree r kids rest) =
    if (sound (as_parent u r 0) 0 kids)
    (subtree r kids (mended u rest))
    (subtree deny_policy (subtree deny_rule no_subtree no_subtree) (mended u rest))

-- a replacement: the child's first old line, and how many lines it had
pub record Replacement : Type 0 where
  pub line : ℕ
  pub lines : ℕ

-- those of the children that begin at this line
unfoldable pub replacements : Parent → ℕ → Subtrees → List Replacement
replacements u line no_subtree = []
replacements u line (subtree r kids rest) =
    if (sound (as_parent u r 0) 0 kids)
    (replacements u (line + suc (record_count kids)) rest)
    (record { line = line; lines = suc (record_count kids) } ∷ replacements u (line + suc (record_count kids)) rest)

-- a book mended, with its replacements; or the line of refusal 13
pub data Salvage : Type 0 where
  Mended : Subtrees → List Replacement → Salvage
  Spoilt : ℕ → Salvage

-- line 1 with its span corrected
unfoldable pub headed : List ℕ → Subtrees → Subtrees
headed r kids = subtree (with_span r (suc (record_count kids))) kids no_subtree

-- of n records; line 2 is the first below line 1
unfoldable pub salvage_of : List ℕ → ℕ → Salvage
salvage_of b n =
    let u = line_one b in
    let kids = subtrees_of b 1 (n - 1) in
    if (is_set b n)
    (if (ltb (first_spoilt u 0 kids) (n - 1))
    (Spoilt (first_spoilt u 0 kids + 2))
    (Mended (headed (record_at b 0) (mended u kids)) (replacements u 2 kids)))
    (Spoilt 1)
