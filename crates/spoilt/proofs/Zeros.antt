-- A record of zeros is bad, and covers no other. Assumes nothing.
use mathlib.Core.Path.{◌≡◌, refl, sym, ◌∙◌}
use mathlib.Core.Bool.{false}
use native.Mathlib.Omega.{arith}
use Prim.Native.Nat.{ℕ}
use lib.ListN.{replicate}
use Rattle.record.specs.Bytes.{size, span_of}
use Rattle.record.specs.Forest.{span_in}
use Rattle.fields.specs.Fields.{kind_of, kind_at, field_ok}
use Rattle.structure.specs.Subtrees.{Subtrees, record_at}
use Rattle.structure.specs.Sound.{Parent, record_ok}
use Rattle.structure.proofs.Records.{span_same, record_bytes}
use Rattle.spoilt.specs.Spoilt.{line_ok}
use Rattle.spoilt.specs.Claims.{ZerosAreBad}

-- its kind is none, so it breaks a field rule
zeros_bad : (u : Parent) (e : ℕ) (kids : Subtrees) → line_ok u e (replicate size 0) kids ≡ false
unfolding line_ok record_ok field_ok kind_at kind_of
zeros_bad u e kids = refl

zeros_span : span_of (replicate size 0) 0 ≡ 0
unfolding span_of
zeros_span = refl

pub zeros_are_bad : ZerosAreBad
unfolding span_in
zeros_are_bad b i z =
    let s : span_of b i ≡ 0 = sym (span_same (record_at b i) 0 b i (record_bytes b i)) ∙ rw z zeros_span in
    (λ u e kids. rw z (zeros_bad u e kids), λ left l. rw s (omega arith))
