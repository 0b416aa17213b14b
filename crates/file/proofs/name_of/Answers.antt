use Rattle.std.proofs.Common.{arith, ap, ◌∙◌, take_all, codes, map, ◌++◌}
use Rattle.file.specs.Names.{name_of, units, digit_of}
use Rattle.file.proofs.name_of.Goals as goal

pub returns : goal.returns
unfolding name_of
returns c = c.loop-unit.invariant ∙ ap (λ xs. codes "MENDED.HEX." ++ map (digit_of c.args.number) xs) (take_all c.loop-unit.unit-index units (omega arith))
