use Prim.Native.Nat.{◌≤◌, ◌-◌}
use mathlib.Core.Path.{◌≡◌}
use Rattle.programme.specs.Step.{state_of}
use Rattle.layout.specs.Layout.{unpack_of}
use Rattle.layout.specs.Ranges.{Ranged}
use Rattle.meaning.specs.Reading.{bags_of}
use Rattle.run.specs.Run.{number_after}
use Rattle.run.proofs.Laws.{Along}
use Rattle.run.proofs.run.Given as goal

abbrev pub invariant-loop-steps : goal.invariant-loop-steps
invariant-loop-steps l =
    let s = l.initial.state in
    Ranged l.h × (l.h ≡ unpack_of (number_after l.steps s.head l.h)) × (l.steps ≤ l.budget) × (l.state.head ≡ s.head)
    × Along l.programme (bags_of l.request) l.budget s l.steps (state_of (number_after l.steps s.head l.h) l.state.frames l.state.levels l.state.places)

abbrev pub decreases-loop-steps : goal.decreases-loop-steps
decreases-loop-steps l = l.budget - l.steps
