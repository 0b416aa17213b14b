use Rattle.request.proofs.OneOnly.{one_number}
use Rattle.request.proofs.only.Goals as goal

pub bytes_of-requires : goal.bytes_of-requires
bytes_of-requires c = one_number _ _ c.lookup.ensures c.in_ok-lookup.was
