-- The room of a state. Assumes nothing.
use Rattle.std.specs.Prelude.{ℕ}

-- frames: one at the bottom, and sixteen; levels: one at the bottom, and fourteen; obligation places
abbrev pub room_f : ℕ
room_f = 17

abbrev pub room_l : ℕ
room_l = 15

abbrev pub room_p : ℕ
room_p = 1000
