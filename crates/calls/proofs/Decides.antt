-- The claim of specs/Decides.antt. Assumes nothing.
use Prim.Native.Nat.{◌*◌, ◌/◌, ◌≤◌}
use mathlib.Core.Path.{◌≡◌, refl}
use lib.ListN.{length}
use native.Mathlib.Omega.{arith}
use borrow.Author.Tests.{le-ltb}
use Rattle.decider.specs.Outcome.{duties_of, outcome_of}
use Rattle.host.specs.Host.{pairs_of, host_outcome, host_out}
use Rattle.host.proofs.Laws.{pairs_length}
use Rattle.calls.specs.Decides.{DecidesRight}

pub decides_right : DecidesRight
unfolding host_outcome host_out outcome_of duties_of
decides_right b q out n o m accepted asked room =
    let l : o ≤ length out / 2 = omega (arith, room) in
    let two : 2 * length (duties_of b q) ≡ length (pairs_of (duties_of b q)) = omega (arith, pairs_length (duties_of b q)) in
    (rw (accepted, asked, le-ltb (length out / 2) o l) refl, rw (accepted, asked, le-ltb (length out / 2) o l, two) refl)
