-- The lines of ticks. Assumes nothing.
use mathlib.Core.Path.{◌≡◌, refl, sym, ap, ◌∙◌}
use mathlib.Core.List.{List, [], ◌∷◌, ◌++◌}
use Prim.Native.Nat.{ℕ, ◌/◌, ◌≤◌}
use native.Mathlib.Omega.{arith}
use borrow.Author.Tests.{le-leb}
use lib.ListN.{length, take, drop, length-append, length-take}
use Rattle.record.specs.Bytes.{most_records}
use Rattle.record.specs.declared.Refusal.{Refusal}
use Rattle.text.specs.Hex.{letter_of}
use Rattle.line.specs.Line.{hex_of, decision_line, refusal_line, places_of, put, longest}
use Rattle.line.proofs.Laws.{length_refusal, length_decision, places_fits}
use Rattle.meaning.specs.Meaning.{decision_in}
use Rattle.meaning.specs.Numbers.{number_of}
use Rattle.meaning.specs.declared.Verdict.{Verdict}
use Rattle.run.specs.declared.kinds.Answer.{Answer}
use Rattle.run.specs.declared.kinds.Answer.TheVariants.{Running, Finished, Refused}
use Rattle.ticks.specs.Lines.{steps_of, answer_line, Leads}

pub steps_are : (n : ℕ) → letter_of (n / 4096) ∷ letter_of (n / 256) ∷ letter_of (n / 16) ∷ letter_of n ∷ 32 ∷ [] ≡ steps_of n
unfolding steps_of hex_of
steps_are n =
    let e : n / 16 / 16 / 16 ≡ n / 4096 = omega arith in
    let f : n / 16 / 16 ≡ n / 256 = omega arith in
    rw (e, f)

-- the line of an answer stands first, whole
pub running_put : (l places : List ℕ) {a : Answer} {x : List ℕ} → x ≡ 48 ∷ 48 ∷ 10 ∷ [] → a ≡ Running → Leads (answer_line a places) l (x ++ drop 3 l) 3
unfolding answer_line hex_of letter_of
running_put l places p e = rw (e, p) (record { taken = refl; leaves = refl })

module _ (l places : List ℕ) {later : List ℕ} {n : ℕ} (room : longest ≤ length l) (few : length places ≤ most_records) where
  found : (line : List ℕ) → length line ≤ longest → n ≡ places_of line (length l) → later ≡ put line l → Leads line l later n
  unfolding put
  found line h p q =
      let e : n ≡ length line = p ∙ sym (places_fits line (length l) (omega arith)) in
      record { taken = e; leaves = q ∙ rw e (simp (le-leb (length line) (length l) (omega arith))) }

  pub finished_put : (d : Verdict) (count : ℕ) {a : Answer} {x : ℕ} → a ≡ Finished d count → x ≡ number_of (decision_in d)
      → n ≡ places_of (decision_line x (take count places)) (length l) → later ≡ put (decision_line x (take count places)) l → Leads (answer_line a places) l later n
  unfolding answer_line
  finished_put d count e number p q =
      rw e (found (decision_line (number_of (decision_in d)) (take count places))
      (omega (arith, length_decision (number_of (decision_in d)) (take count places), length-take count places)) (rw number at p) (rw number at q))

  pub refused_put : (r : Refusal) {a : Answer} → a ≡ Refused r → n ≡ places_of (refusal_line r) (length l) → later ≡ put (refusal_line r) l → Leads (answer_line a places) l later n
  unfolding answer_line
  refused_put r e p q = rw e (found (refusal_line r) (omega (arith, length_refusal r)) p q)

-- .. and is no longer than what it stands in
pub leads_within : {line before after : List ℕ} {n : ℕ} → Leads line before after n → n ≤ length after
leads_within {line} {before} {after} {n} p = omega (arith, ap length p.leaves, length-append line (drop n before))
