-- The two values below a record. Assumes nothing.
use Rattle.std.specs.Prelude.{ℕ, ◌+◌, ◌-◌, List}
use Rattle.record.specs.Forest.{span_in}

-- where the second record below record i begins; `stop`, where record i ends, if there are not two
unfoldable pub second_in : List ℕ → ℕ → ℕ → ℕ
second_in b i stop = i + 1 + span_in b (i + 1) (stop - (i + 1))
