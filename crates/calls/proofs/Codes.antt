-- The claim of specs/Codes.antt. Assumes nothing.
use Prim.Native.Nat.{◌-◌, ◌*◌}
use mathlib.Core.Path.{◌≡◌, sym, ap, ◌∙◌}
use lib.ListN.{length, replicate}
use mathlib.Core.List.{◌++◌}
use native.Mathlib.Omega.{arith}
use Rattle.meaning.specs.Meaning.{decision_in, decides, obliges}
use Rattle.meaning.specs.Numbers.{number_of}
use Rattle.meaning.specs.Reading.{book_of, bags_of}
use Rattle.meaning.proofs.Codes.{codes_forgotten}
use Rattle.structure.proofs.Typed.{accepted_is_typed}
use Rattle.host.specs.Host.{pairs_of}
use Rattle.calls.specs.Codes.{CodesApart}
use Rattle.calls.proofs.Decides.{decides_right}

pub codes_apart : CodesApart
codes_apart b q r out n o m k bytes accepted first second room found =
    let x = decides_right b q out n o m accepted first room in
    let y = decides_right b r out n o k accepted second room in
    let w = codes_forgotten (bags_of q) (bags_of r) found (book_of b) (accepted_is_typed b n o bytes accepted) in
    let d : number_of (decision_in (decides (bags_of q) (book_of b))) ≡ number_of (decision_in (decides (bags_of r) (book_of b))) = ap number_of w.0 in
    let l : length (obliges (bags_of q) (book_of b)) ≡ length (obliges (bags_of r) (book_of b)) = ap length w.1 in
    (omega (arith, x.0, y.0, d, l), x.1 ∙ ap (λ os. pairs_of os ++ replicate (length out - 2 * length os) 0) w.1 ∙ sym y.1)
