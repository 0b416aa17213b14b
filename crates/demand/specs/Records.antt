-- The obligation places in a translated programme's own run. `proofs/Records.antt` proves it. Assumes nothing.
use Rattle.std.specs.Prelude.{ℕ, ◌+◌, ◌*◌, ◌≡◌, ◌⊎◌, true, List, get_or}
use Rattle.record.specs.Bytes.{size, Bytes, big_of}
use Rattle.meaning.specs.Meaning.{Bags}
use Rattle.meaning.specs.Reading.{is_kind}
use Rattle.judge.specs.Judge.{judge_of, accepted_with}
use Rattle.programme.specs.Step.{fresh_of}
use Rattle.run.specs.Run.{run_of, Ran}
use Rattle.translator.specs.Translate.{programme_of}
use Rattle.promises.specs.Steps.{Met}

-- v is the number, bytes 6-7, of a record of the book that is an obligation, kind 8
pub record Numbers (b : List ℕ) (v : ℕ) : Type 0 where
  pub place : ℕ
  pub kind : is_kind b place 8 ≡ true
  pub number : big_of b (place * size + 6) 2 ≡ v

-- after a run, an obligation place holds zero or the number of an obligation record that was met in one of its steps
abbrev pub HoldsMet : List ℕ → List ℕ → Bags → Ran → ℕ → Type 0
HoldsMet b p g r v = (v ≡ 0) ⊎ (Met p g fresh_of r.steps v × Numbers b v)

-- in a translated programme's own run the obligation places hold only zeros and the numbers of obligation records met so far
abbrev pub OnlyRecords : Type 0
OnlyRecords =
    (b : List ℕ) (n o : ℕ) → Bytes b → judge_of b ≡ accepted_with n o → (g : Bags) (budget k : ℕ)
    → let r = run_of (programme_of b) g budget fresh_of in
    HoldsMet b (programme_of b) g r (get_or r.state.places k 0)
