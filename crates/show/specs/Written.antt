-- A line that is being written. Assumes nothing.
use Rattle.std.specs.Prelude.{ℕ, List}
use Rattle.outline.specs.Outline.{Says}
use Rattle.show.specs.declared.lines.Line.{Line}

-- the bytes that a line has room for
abbrev pub width : ℕ
width = 256

-- a line with xs said after what l says, as far as there is room
abbrev pub Adds : Line → List ℕ → Line → Type 0
Adds l xs r = Says l.bytes l.said xs r.bytes r.said
