-- Laws of ends and parents. Assumes nothing.
use mathlib.Core.Path.{◌≡◌}
use mathlib.Core.Bool.{true}
use mathlib.Core.List.{List}
use Prim.Native.Nat.{ℕ, ◌+◌, ◌≤◌, ◌<◌}
use native.Mathlib.Omega.{arith}
use borrow.Author.Tests.{lt-ltb, le-ltb, ltb-true}
use Rattle.record.specs.Bytes.{span_of}
use Rattle.fields.proofs.First.{last_is, last_ge, last_of}
use Rattle.operands.specs.Parent.{end_of, covers, parent_of, ParentIs}

pub span_end : (b : List ℕ) (i s : ℕ) → s ≡ span_of b i → end_of b i ≡ i + s
unfolding end_of
span_end b i s e = rw e

pub end_after : (b : List ℕ) (i : ℕ) → 1 ≤ span_of b i → i < end_of b i
unfolding end_of
end_after b i h = omega arith

pub parent_ge : (b : List ℕ) (j k : ℕ) → k < j → covers b j k ≡ true → k ≤ parent_of b j
unfolding parent_of
parent_ge b j k h e = last_ge (covers b j) j k h e

-- where some record covers j, its parent does
pub parent_of_lem : (b : List ℕ) (j k : ℕ) → k < j → covers b j k ≡ true → (j < end_of b (parent_of b j)) × (parent_of b j < j)
unfolding parent_of
parent_of_lem b j k h e = let w = last_of (covers b j) j k h e in (ltb-true j _ w.0, w.1)

-- where p covers i, and no record between does, p is the parent
pub parent_is_innermost : ParentIs
unfolding parent_of
parent_is_innermost b p i h c g = last_is (covers b i) i p h (lt-ltb i (end_of b p) c) (λ j a z. le-ltb i (end_of b j) (g j a z))
