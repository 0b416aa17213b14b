-- What an entry is found to do, or that it is outside its layout. Assumes nothing.
use Rattle.std.specs.Prelude.{ℕ, Bool, Option}
use Rattle.meaning.specs.Meaning.{Bags}
use Rattle.layout.specs.declared.Head.{Head}
use Rattle.moves.specs.declared.Move.{Move}
use Rattle.programme.specs.declared.Met.{Met}
use Rattle.std.specs.Bool.{then_some}
use Rattle.layout.specs.declared.Frame.{Frame}
use Rattle.layout.specs.Entry.{Entry, extra, lawful}
use Rattle.moves.specs.Core.{core}
use Rattle.moves.specs.Moves.{move_of}

-- what an entry is found to do, and how many further entries it has; or it is outside its layout
abbrev pub met_if : Bool → Move → ℕ → Option Met
met_if ok m k = then_some ok (record { does = m; further = k })

unfoldable pub meets : Bags → ℕ → Head → Entry → ℕ → ℕ → Frame → Frame → Option Met
meets g long h e l m f b = met_if (lawful long h.at e) (move_of (core g h e l m f b)) (extra e)
