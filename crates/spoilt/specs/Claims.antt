-- What is claimed of bad lines. The proofs are in `proofs/Trees.antt` and `proofs/Zeros.antt`. Assumes nothing.
use Rattle.std.specs.Prelude.{ℕ, ◌<◌, ◌≡◌, false, not, List, ltb, replicate}
use Rattle.record.specs.Bytes.{size}
use Rattle.record.specs.Forest.{span_in}
use Rattle.structure.specs.Subtrees.{Subtrees, record_count, record_at}
use Rattle.structure.specs.Sound.{Parent, sound}
use Rattle.spoilt.specs.Spoilt.{line_ok, first_bad}

-- records are sound exactly when no line of them is bad
abbrev pub SoundIsGood : Type 0
SoundIsGood = (u : Parent) (e : ℕ) (x : Subtrees) → ltb (first_bad u e x) (record_count x) ≡ not (sound u e x)

-- a record of zeros, which stands for a line with a wrong digit, is bad wherever it stands, and covers no other
abbrev pub ZerosAreBad : Type 0
ZerosAreBad =
    (b : List ℕ) (i : ℕ) → record_at b i ≡ replicate size 0
    → ((u : Parent) (e : ℕ) (kids : Subtrees) → line_ok u e (record_at b i) kids ≡ false) × ((left : ℕ) → 0 < left → span_in b i left ≡ 1)
