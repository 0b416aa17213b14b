-- Worked book A of document 01 and the request of its printed example, line by line, for what is computed of them. Assumes nothing.
use mathlib.Core.List.{List, [], ◌∷◌}
use Prim.Native.Nat.{ℕ, zero, suc, ◌/◌, ◌%◌}
use Rattle.record.specs.Bytes.{size}

-- the last n bytes of a number, before what follows; the bytes of lines, each given as one number
unfoldable pub bytes : ℕ → ℕ → List ℕ → List ℕ
bytes zero x rest = rest
bytes (suc n) x rest = bytes n (x / 256) (x % 256 ∷ rest)

unfoldable pub lines : List ℕ → List ℕ
lines [] = []
lines (x ∷ xs) = bytes size x (lines xs)

unfoldable pub book_a : List ℕ
book_a =
    0x0201000600000000000000000000000000000000
    ∷ 0x0301000100000000000000000000000000000000
    ∷ 0x0302000200000000000000000000000000000000
    ∷ 0x070C000104010007000000000000003200000000
    ∷ 0x0801000100000011000000000000000000000000
    ∷ 0x0802000100000012000000000000000000000000
    ∷ []

-- an integer in environment attribute 7
unfoldable pub is40 : ℕ
is40 = 0x0401000700000000000000000000002800000000
