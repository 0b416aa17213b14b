-- The claim of specs/Records.antt. Assumes nothing.
use Prim.Native.Nat.{ℕ, ◌-◌, ◌/◌, ◌≤◌, ◌<◌}
use mathlib.Core.Path.{◌≡◌, refl}
use mathlib.Core.Logic.{inl, inr, ⊎_elim}
use mathlib.Core.List.{List}
use lib.ListN.{get_or}
use native.Mathlib.Omega.{arith}
use Rattle.record.specs.Bytes.{Bytes}
use Rattle.meaning.specs.Meaning.{decides, obliges}
use Rattle.meaning.specs.Policy.{Tree}
use Rattle.meaning.specs.Reading.{book_of}
use Rattle.meaning.specs.declared.Test.{Test}
use Rattle.meaning.specs.declared.Verdict.{Verdict}
use Rattle.meaning.specs.declared.Effect.TheVariants.{Permits, Denies}
use Rattle.layout.specs.Entry.{Entry, begin, match, further, opens, compare, close, sum, rule, enter, applies, conclude, oblige, leave, finish}
use Rattle.moves.specs.Core.{at_once}
use Rattle.programme.specs.Step.{fresh_of}
use Rattle.layout.proofs.Spelling.{Holds}
use Rattle.run.specs.Run.{run_of}
use Rattle.promises.specs.Place.{head_of}
use Rattle.promises.specs.Sight.{Obliges}
use Rattle.promises.specs.Steps.{after_steps, entry_at, Met}
use Rattle.promises.proofs.Steps.{runs_are, only_met}
use Rattle.code.specs.Code.{translated, obligations}
use Rattle.code.specs.Flat.{flat_of, Codes}
use Rattle.translator.specs.Translate.{programme_of}
use Rattle.code.proofs.Holding.{InTree, book_has}
use Rattle.code.proofs.Words.{Padded, padded, spelled}
use Rattle.demand.specs.Records.{Numbers, OnlyRecords}
use Rattle.demand.proofs.Course.{course, on_the_way}
use Rattle.demand.proofs.Demand as demand
use Rattle.layout.specs.Room.{room_p}

abbrev Any : Test → Type 0
Any t = Unit

-- an obligation entry that holds what it should
number_of : (N : ℕ → Type 0) (e : Entry) (v : ℕ) → Obliges e v → Holds Any N e → N v
unfolding Obliges
number_of N (begin al c) v o h = absurd o
number_of N (match t m c l i j x) v o h = absurd o
number_of N further v o h = absurd o
number_of N (opens op) v o h = absurd o
number_of N (compare t n) v o h = absurd o
number_of N (close n) v o h = absurd o
number_of N (sum p) v o h = absurd o
number_of N (rule e n) v o h = absurd o
number_of N (enter al) v o h = absurd o
number_of N (applies n) v o h = absurd o
number_of N (conclude n) v o h = absurd o
number_of N (oblige e n) v o h = rw o h
number_of N (leave n) v o h = absurd o
number_of N finish v o h = absurd o

-- the entries of a book's programme hold only the numbers of its obligation records
numbered : (b : List ℕ) → Bytes b → obligations Permits (book_of b) ≤ room_p → Padded Any (Numbers b) (translated (book_of b))
unfolding translated
numbered b bytes fits =
    let x : Tree = book_of b in
    let has : InTree Any (Numbers b) x = book_has b Any (Numbers b) (λ i. (tt, tt)) (λ i e. record { place = i; kind = e; number = refl }) (demand.key_small b bytes) in
    padded Any (Numbers b) x has (obligations Permits x) ((obligations Denies x - 1) / at_once) fits

pub only_records : OnlyRecords
unfolding flat_of Codes
only_records b n o bytes accepted g budget k =
    let p : List ℕ = programme_of b in
    let es : List Entry = translated (book_of b) in
    let d : Verdict = decides g (book_of b) in
    let os : List ℕ = obliges g (book_of b) in
    let s = demand.spelled b n o bytes accepted in
    let w = course p es g s.same s.long s.reads s.laws d os (s.answers g) in
    let few : (run_of p g budget fresh_of).steps ≤ w.steps = rw (runs_are p g budget fresh_of w.steps w.left) (omega arith) in
    let v : ℕ = get_or (run_of p g budget fresh_of).state.places k 0 in
    ⊎_elim (λ (z : v ≡ 0). inl z)
    (λ (z : Met p g fresh_of (run_of p g budget fresh_of).steps v).
    let l : z.step < w.steps = omega (arith, z.before, few) in
    let h = on_the_way p es g s.same s.long s.reads s.laws d os (s.answers g) z.step l in
    let at : ℕ = (head_of (after_steps p g z.step fresh_of)).at in
    let e : entry_at p (after_steps p g z.step fresh_of) ≡ get_or es at further = s.reads at h.inside h.starts in
    inr (z, number_of (Numbers b) (get_or es at further) v (rw e at z.obliges) (spelled (numbered b bytes s.permitted) at h.inside h.starts).holds))
    (only_met p g budget k)
