-- Laws of what is answered. Assumes nothing.
use Rattle.std.specs.Prelude.{None, Some, Err}
use mathlib.Core.Path.{◌≡◌}
use mathlib.Core.Bool.{true, false}
use mathlib.Core.List.{List}
use Prim.Native.Nat.{ℕ, ◌+◌, ◌≤◌}
use native.Mathlib.Omega.{arith}
use lib.Dec.{ltb}
use borrow.Author.Tests.{lt-ltb, le-ltb}
use Rattle.fields.specs.Fields.{obligations_of, field_ok}
use Rattle.fields.proofs.First.{first_le, first_reach}
use Rattle.record.specs.Refusals.{bad_place}
use Rattle.record.specs.declared.Refusal.{Refusal}
use Rattle.placement.specs.declared.Broken.{Broken}
use Rattle.placement.specs.Walk.{FirstBroken}
use Rattle.placement.specs.Place.{place_ok}
use Rattle.grammar.specs.Row.{Clean}
use Rattle.judge.specs.Judge.{first_field, first_place, judge_records, accepted_with}

pub some_ltb : (n : ℕ) → (n ≡ 0 → ⊥) → ltb 0 n ≡ true
some_ltb n h = lt-ltb 0 n (omega arith)

pub none_ltb : (n : ℕ) → n ≡ 0 → ltb 0 n ≡ false
none_ltb n h = le-ltb 0 n (omega arith)

-- of lines that keep the field rules: the first that breaks a place rule is refused; where none does, they are accepted
module _ (b : List ℕ) {n k : ℕ} (ek : k ≡ first_field b n) (l : n ≤ k) where
  pub place_refused : (x : Broken) → FirstBroken b 0 n (Some x) → {r : Refusal} → r ≡ bad_place x.rule (x.at + 1) → Err r ≡ judge_records b n
  unfolding judge_records
  place_refused x f er = rw (← ek, le-ltb k n l, ← f.0.place, lt-ltb x.at n (omega (arith, f.1)), er, f.0.which f.1)

  pub accepts : FirstBroken b 0 n None → {m : ℕ} → m ≡ obligations_of b k → accepted_with n m ≡ judge_records b n
  unfolding judge_records
  accepts f em =
      let s : k ≡ n = omega (arith, ek, l, first_le (field_ok b) 0 n) in
      let p : n ≡ first_place b n = omega (arith, f.place) in
      rw (← ek, le-ltb k n l, ← p, le-ltb n n (omega arith), em, s)

pub clean_accepted : (b : List ℕ) {n due : ℕ} → Clean b n due → accepted_with n due ≡ judge_records b n
unfolding judge_records
clean_accepted b {n} w =
    rw (le-ltb (first_field b n) n (first_reach (field_ok b) n w.fields), le-ltb (first_place b n) n (first_reach (place_ok b) n w.places), w.duties)
