-- Document 02, 2, as the C caller sees it: two requests of equal values, such as the two zeros, get the same answers. `proofs/Equal.antt` proves it. Assumes nothing.
use Rattle.std.specs.Prelude.{ℕ, ◌≤◌, ◌≡◌, List, length, Ok}
use Rattle.record.specs.Bytes.{Bytes}
use Rattle.meaning.specs.Meaning.{decides, obliges}
use Rattle.meaning.specs.Reading.{book_of, bags_of}
use Rattle.judge.specs.Judge.{judge_of, accepted_with}
use Rattle.judge.specs.Request.{judge_request_of}
use Rattle.request.specs.Same.{EqualEntries}
use Rattle.layout.specs.Room.{room_p}
use Rattle.translator.specs.Translate.{room_for}
use Rattle.host.specs.Host.{host_number, host_outcome, host_out}
use Rattle.rig.specs.Rig.{fresh_call}
use Rattle.calls.specs.Loop.{programme_in, Answers}

-- `bachumoi_decide`, of any book and output, gives the same number and leaves the same bytes
abbrev pub DecidedAlike : List ℕ → List ℕ → Type 0
DecidedAlike q r = (b out : List ℕ) → Bytes b → (host_number (host_outcome b q out) ≡ host_number (host_outcome b r out)) × (host_out b q out ≡ host_out b r out)

-- every row of calls of `bachumoi_tick` with the first request, of an accepted book's programme, answers with the decision, code and obligations of the second
abbrev pub TickedAlike : List ℕ → List ℕ → Type 0
TickedAlike q r =
    (b : List ℕ) (n o : ℕ) → Bytes b → judge_of b ≡ accepted_with n o
    → (buffer numbers places : List ℕ) → room_for n ≤ length buffer → 33 ≤ length numbers → room_p ≤ length places
    → Answers (programme_in b buffer) q (fresh_call numbers places) (decides (bags_of r) (book_of b)) (obliges (bags_of r) (book_of b))

abbrev pub EqualAnswers : Type 0
EqualAnswers =
    (q r : List ℕ) (n m : ℕ) → judge_request_of q ≡ Ok n → judge_request_of r ≡ Ok m → EqualEntries q r
    → DecidedAlike q r × TickedAlike q r
