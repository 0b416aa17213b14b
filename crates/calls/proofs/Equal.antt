-- The claim of specs/Equal.antt. Assumes nothing.
use Rattle.std.specs.Prelude.{Err, Ok}
use Prim.Native.Nat.{ℕ, ◌/◌}
use mathlib.Core.Path.{◌≡◌, refl, ap}
use mathlib.Core.List.{List}
use lib.ListN.{length}
use Rattle.record.specs.Bytes.{Bytes}
use Rattle.meaning.specs.Reading.{book_of, bags_of}
use Rattle.meaning.specs.Alike.{FoundAlike}
use Rattle.meaning.proofs.Alike.{counts_by_tests}
use Rattle.judge.specs.Judge.{judge_of, Judged, accepted_with}
use Rattle.structure.proofs.Typed.{accepted_is_typed}
use Rattle.request.proofs.Same.{equal_found_alike}
use Rattle.decider.specs.Outcome.{outcome_of}
use Rattle.decider.proofs.Whole.{outcome_by_tests}
use Rattle.host.specs.Host.{host_number, host_outcome, host_out}
use Rattle.calls.specs.Equal.{EqualAnswers}
use Rattle.calls.proofs.Loop.{every_row}

pub equal_answers : EqualAnswers
unfolding host_outcome host_out outcome_of
equal_answers q r n m eq er entries = (
  λ b out bytes. decided b out bytes (judge_of b) refl,
  λ b k o bytes accepted buffer numbers places fits enough room.
      let e = counts_by_tests (bags_of q) (bags_of r) found (book_of b) (accepted_is_typed b k o bytes accepted) in
      rw (e.0, e.1) at (every_row b q k o n bytes accepted eq buffer numbers places fits enough room).1,
)
  where
    found : FoundAlike (bags_of q) (bags_of r)
    found = equal_found_alike q r entries

    -- a refused book asks no request; the operands of an accepted one are of their operators' types
    decided : (b out : List ℕ) → Bytes b → (j : Judged) → judge_of b ≡ j
        → (host_number (host_outcome b q out) ≡ host_number (host_outcome b r out)) × (host_out b q out ≡ host_out b r out)
    decided b out bytes (Err s) e = (rw e refl, rw e refl)
    decided b out bytes (Ok a) e =
        let z = outcome_by_tests b q r (length out / 2) n m eq er (accepted_is_typed b a.records a.obligations bytes e) found in
        (ap host_number z.0, rw (z.0, z.1) refl)
