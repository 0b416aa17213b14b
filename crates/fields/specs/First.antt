-- Tests of the numbers below n: how many pass, the last that passes; and the first that fails. Assumes nothing.
use Rattle.std.specs.Prelude.{ℕ, zero, suc, ◌+◌, Bool}
use Rattle.record.specs.Choose.{if}

-- at how many numbers below n f passes
unfoldable pub count_below : (ℕ → Bool) → ℕ → ℕ
count_below f zero = 0
count_below f (suc n) = count_below f n + if (f n) 1 0

-- the last number below n at which f passes; 0 where it passes at none
unfoldable pub last_below : (ℕ → Bool) → ℕ → ℕ
last_below f zero = 0
last_below f (suc n) = if (f n) n (last_below f n)

-- the first of the k numbers from i on at which f fails; i + k where it fails at none
unfoldable pub first_from : (ℕ → Bool) → ℕ → ℕ → ℕ
first_from f i zero = i
first_from f i (suc k) = if (f i) (first_from f (i + 1) k) i
