-- What is claimed of a book's judgement, "given exactly when": a refusal names the first line that breaks the rule, and what is accepted breaks none.
-- `proofs/Exactly.antt` proves it. Assumes nothing.
use Rattle.std.specs.Prelude.{ℕ, ◌+◌, ◌*◌, ◌%◌, ◌≤◌, ◌<◌, ◌≡◌, false, List, length, Err}
use Rattle.record.specs.Bytes.{size, most_records}
use Rattle.record.specs.Refusals.{book, no_record, cut_short, too_many, bad_field, bad_place}
use Rattle.record.specs.declared.Refusal.{Refusal}
use Rattle.fields.specs.Fields.{field_ok, obligations_of}
use Rattle.operands.specs.Parent.{end_of, parent_of}
use Rattle.placement.specs.Place.{most_depth, depth_of, top_ok, place_ok}
use Rattle.placement.specs.Keeps.{AllKeep, FirstToBreak, Sized, Keeps}
use Rattle.judge.specs.Judge.{judge_of, accepted_with}
use Rattle.judge.specs.Sound.{Allowed}

-- record i is one of n, all of which keep the field rules, and those before it the place rules
pub record KeptTo (b : List ℕ) (n i : ℕ) : Type 0 where
  pub sized : Sized b n
  pub fields : AllKeep (field_ok b) n
  pub inside : i < n
  pub before : AllKeep (place_ok b) i

-- bytes that break a rule, with the refusal for it; of the place rules that a line breaks, the lowest number: 11, which is also for wrong operands, only
-- where 10 is kept, 12 only where both are
pub data Breaks (b : List ℕ) (r : Refusal) : Type 0 where
  empty : r ≡ no_record book → length b ≡ 0 → Breaks b r
  cut : r ≡ cut_short book → (length b % size ≡ 0 → ⊥) → Breaks b r
  many : r ≡ too_many book → length b % size ≡ 0 → most_records * size < length b → Breaks b r
  field : (n i : ℕ) → r ≡ bad_field book (i + 1) → Sized b n → FirstToBreak (field_ok b) n i → Breaks b r
  top : (n : ℕ) → r ≡ bad_place 9 1 → KeptTo b n 0 → top_ok b ≡ false → Breaks b r
  past : (n i : ℕ) → r ≡ bad_place 10 (i + 1) → KeptTo b n i → 0 < i → end_of b (parent_of b i) < end_of b i → Breaks b r
  misplaced : (n i : ℕ) → r ≡ bad_place 11 (i + 1) → KeptTo b n i → 0 < i → end_of b i ≤ end_of b (parent_of b i) → (Allowed b i → ⊥) → Breaks b r
  deep : (n i : ℕ) → r ≡ bad_place 12 (i + 1) → KeptTo b n i → 0 < i → end_of b i ≤ end_of b (parent_of b i) → Allowed b i → most_depth < depth_of b i → Breaks b r

-- a book is accepted exactly when it keeps the rules
abbrev pub AcceptedKeeps : Type 0
AcceptedKeeps = (b : List ℕ) (n m : ℕ) → judge_of b ≡ accepted_with n m → Keeps b n × (m ≡ obligations_of b n)

abbrev pub KeptIsAccepted : Type 0
KeptIsAccepted = (b : List ℕ) (n : ℕ) → Keeps b n → judge_of b ≡ accepted_with n (obligations_of b n)

-- and refused exactly when it breaks one, at the first line that does
abbrev pub RefusedBreaks : Type 0
RefusedBreaks = (b : List ℕ) (r : Refusal) → judge_of b ≡ Err r → Breaks b r

abbrev pub BrokenIsRefused : Type 0
BrokenIsRefused = (b : List ℕ) (r : Refusal) → Breaks b r → judge_of b ≡ Err r
