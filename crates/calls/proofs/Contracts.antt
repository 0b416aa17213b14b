-- What the contract of each function that `host_c` and `rig_c` export says of a call is what the claims speak of: an export repeats the clauses of the function
-- that it calls. `Post` is what Rattle reads off the source's `ensures`: `a` are the arguments of a call, x its number, and s the lent slices after it. Assumes
-- nothing.
use Prim.Native.Nat.{◌*◌, ◌/◌, ◌%◌}
use mathlib.Core.Path.{◌≡◌, refl}
use lib.ListN.{length, take}
use contract.Lifetimes.{Lfts}
use borrow.Fn.Kinds.{Dens, res_t, ended_of}
use denote.Triple.Clauses.{AtExit}
use Rattle.record.specs.Bytes.{size}
use Rattle.demand.specs.Demand.{Turn}
use Rattle.host.specs.Host.{host_number, host_outcome, host_out}
use Rattle.host.proofs.bachumoi_decide.Kinds as decide-kinds
use Rattle.host.proofs.bachumoi_decide.Reads as decide-reads
use Rattle.mending.specs.Salvaged.{answer_of, mended_out, replaced_out}
use Rattle.mender.specs.Mender.{salvaged_number}
use Rattle.mender.proofs.bachumoi_salvage.Kinds as salvage-kinds
use Rattle.mender.proofs.bachumoi_salvage.Reads as salvage-reads
use Rattle.translator.specs.Translate.{translate_of, leaves}
use Rattle.rig.specs.Rig.{Call, call, fresh_call, translated_number}
use Rattle.rig.proofs.bachumoi_translate.Kinds as translate-kinds
use Rattle.rig.proofs.bachumoi_translate.Reads as translate-reads
use Rattle.rig.proofs.bachumoi_fresh.Kinds as fresh-kinds
use Rattle.rig.proofs.bachumoi_fresh.Reads as fresh-reads
use Rattle.rig.proofs.bachumoi_tick.Kinds as tick-kinds
use Rattle.rig.proofs.bachumoi_tick.Reads as tick-reads
use Rattle.calls.specs.Loop.{programme_in, ticks, next}
use Rattle.calls.specs.Salvages.{mended_in}

-- bachumoi_decide(book, request, out)
module _ (κs : Lfts 3) (a : Dens κs decide-kinds.ps) (x : (res_t decide-kinds.r κs).Denot) (s : AtExit (ended_of 3 decide-kinds.ps decide-kinds.r) κs) where
  pub decide_says : decide-reads.Post κs a x s
      → (x ≡ host_number (host_outcome a.0.now a.1.0.now a.1.1.0.now))
      × (s.1.1.0.now ≡ host_out a.0.now a.1.0.now a.1.1.0.now)
  decide_says p = p

-- bachumoi_translate(book, programme): its number counts the entries that a loop is to lend, or says the refusal
module _ (κs : Lfts 2) (a : Dens κs translate-kinds.ps) (x : (res_t translate-kinds.r κs).Denot) (s : AtExit (ended_of 2 translate-kinds.ps translate-kinds.r) κs) where
  pub translate_says : translate-reads.Post κs a x s → take (x / 256) s.1.0.now ≡ programme_in a.0.now a.1.0.now
  translate_says p = rw (p.0, p.1) refl

  pub translate_tells : translate-reads.Post κs a x s
      → (x ≡ translated_number (translate_of a.0.now (length a.1.0.now)))
      × (s.1.0.now ≡ leaves (translate_of a.0.now (length a.1.0.now)) a.0.now a.1.0.now)
  translate_tells p = p

-- bachumoi_salvage(book, mended, replaced): its number counts the records that it leaves first in mended, or says the refusal
module _ (κs : Lfts 3) (a : Dens κs salvage-kinds.ps) (x : (res_t salvage-kinds.r κs).Denot) (s : AtExit (ended_of 3 salvage-kinds.ps salvage-kinds.r) κs) where
  pub salvage_says : salvage-reads.Post κs a x s → take (x / 256 % 65536 * size) s.1.0.now ≡ mended_in a.0.now a.1.0.now a.1.1.0.now
  salvage_says p = rw (p.0, p.1) refl

  pub salvage_tells : salvage-reads.Post κs a x s
      → let answer = answer_of a.0.now (length a.1.0.now) (length a.1.1.0.now) in
      (x ≡ salvaged_number answer) × (s.1.0.now ≡ mended_out a.0.now answer a.1.0.now) × (s.1.1.0.now ≡ replaced_out a.0.now answer a.1.1.0.now)
  salvage_tells p = p

-- bachumoi_fresh(numbers, places)
module _ (κs : Lfts 2) (a : Dens κs fresh-kinds.ps) (x : (res_t fresh-kinds.r κs).Denot) (s : AtExit (ended_of 2 fresh-kinds.ps fresh-kinds.r) κs) where
  pub fresh_says : fresh-reads.Post κs a x s → call x s.0.now s.1.0.now ≡ fresh_call a.0.now a.1.0.now
  fresh_says p = p

-- bachumoi_tick(programme, request, numbers, places, budget, out)
module _ (κs : Lfts 5) (a : Dens κs tick-kinds.ps) (x : (res_t tick-kinds.r κs).Denot) (s : AtExit (ended_of 5 tick-kinds.ps tick-kinds.r) κs) where
  abbrev before : Call
  before = call 0 a.1.1.0.now a.1.1.1.0.now

  abbrev turn : Turn
  turn = record { budget = a.1.1.1.1.0; out = a.1.1.1.1.1.0.now }

  pub tick_says : tick-reads.Post κs a x s
      → (call x s.1.1.0.now s.1.1.1.0.now ≡ next a.0.now a.1.0.now before turn)
      × (s.1.1.1.1.1.0.now ≡ (ticks a.0.now a.1.0.now before turn).out)
  tick_says p = p
