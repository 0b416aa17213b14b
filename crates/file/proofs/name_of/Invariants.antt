use Rattle.std.proofs.Common.{◌≡◌, ◌++◌, map, take, codes}
use Rattle.file.specs.Names.{units, digit_of}
use Rattle.file.proofs.name_of.Given as goal

abbrev pub invariant-loop-unit : goal.invariant-loop-unit
invariant-loop-unit l = l.name.bytes ≡ codes "MENDED.HEX." ++ map (digit_of l.number) (take l.unit-index units)
