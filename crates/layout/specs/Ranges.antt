-- The ranges of the first number's fields: what fits its bits, and what the layout allows. Assumes nothing.
use Rattle.std.specs.Prelude.{◌+◌, ◌<◌, ◌≤◌}
use Rattle.layout.specs.declared.Head.{Head}
use Rattle.layout.specs.Room.{room_p}

-- every field of the first number fits its bits
pub record Held (h : Head) : Type 0 where
  pub at : h.at < 8192
  pub depth : h.depth < 32
  pub nest : h.nest < 16
  pub permits : h.permits < 1024
  pub denies : h.denies < 1024
  pub cut : h.cut < 1024

-- and lies in the range that the layout allows
pub record Ranged (h : Head) : Type 0 where
  pub at : h.at < 8192
  pub depth : h.depth ≤ 16
  pub nest : h.nest ≤ 14
  pub permits : h.permits ≤ room_p
  pub stacks : h.cut + h.denies ≤ room_p
