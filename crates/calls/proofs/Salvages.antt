-- The claims of specs/Salvages.antt. Assumes nothing.
use Rattle.std.specs.Prelude.{Err, Ok}
use Prim.Native.Nat.{ℕ, ◌+◌, ◌*◌, ◌/◌, ◌%◌, ◌<◌}
use mathlib.Core.Path.{◌≡◌, refl, ap, ◌∙◌}
use lib.ListN.{length}
use native.Mathlib.Omega.{arith}
use Rattle.record.specs.Bytes.{size}
use Rattle.record.specs.Refusals.{spoilt, refusal_number}
use Rattle.placement.specs.Keeps.{Sized}
use Rattle.mending.specs.Claims.{Spoils}
use Rattle.mending.proofs.Exactly.{spoilt_spoils}
use Rattle.mending.specs.Salvaged.{leaves, mended_out, replaced_out, Salvaged, mended_with}
use Rattle.mending.proofs.Caller.{Told, told_other, told_line, told_mended, told, salvaged_is_accepted, spoils_is_told, answers_within}
use Rattle.mender.specs.Mender.{salvaged_number}
use Rattle.calls.specs.Salvages.{answered, SalvagedDecides, SpoiltIsTold, ToldIsSpoilt}
use Rattle.calls.proofs.Decides.{decides_right}

-- the number of a mended book counts its records
records_of : (n m : ℕ) → n < 65536 → (256 * n + 16777216 * m) / 256 % 65536 ≡ n
records_of n m l = omega arith

pub salvaged_decides : SalvagedDecides
salvaged_decides b out replaced n m e =
    let w = rw e at (answers_within b (length out) (length replaced)) in
    let z = salvaged_is_accepted b out (length replaced) n m e in
    rw (e, records_of n m (omega (arith, w.0))) (z.1, λ q places k asked room. decides_right _ q places n _ k z.1 asked room)

pub spoilt_is_told : SpoiltIsTold
unfolding mended_out replaced_out leaves
spoilt_is_told b n line sized s out replaced = rw (spoils_is_told b n line sized s (length out) (length replaced)) (refl, refl, refl)

-- a number tells which refusal it was
pub told_is_spoilt : ToldIsSpoilt
told_is_spoilt b out replaced line l h = go (told b (length out) (length replaced))
  where
    a : Salvaged
    a = answered b out replaced

    by_line : (k : ℕ) → a ≡ Err (spoilt k) → k ≡ line
    by_line k e = omega (arith, ap salvaged_number e, h)

    go : Told b (length b / size) a → Sized b (length b / size) × Spoils b (length b / size) line
    go (told_other r e n p z) = absurd (omega (arith, n, p, z, l, ap salvaged_number e, h))
    go (told_line k e sized s) = (sized, rw (by_line k e) at (spoilt_spoils b (length b / size) k s))
    go (told_mended x xs e sized s) = absurd (omega (arith, ap salvaged_number e, h))
