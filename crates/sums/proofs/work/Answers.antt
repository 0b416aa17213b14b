use Rattle.value.specs.Value.{value_of}
use Rattle.sums.specs.Sums.{kind_of}
use Rattle.sums.proofs.Numbers.{result_number}
use Rattle.sums.proofs.work.Goals as goal

pub bytes_of-requires : goal.bytes_of-requires
bytes_of-requires c =
    let a = c.args in
    result_number a.op (value_of (kind_of a.op) a.first) (value_of (kind_of a.op) a.second) _ c.operate.ensures c.in_ok-operate.was
