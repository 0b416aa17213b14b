use Prim.Native.Nat.{◌+◌, ◌*◌}
use mathlib.Core.Path.{◌≡◌, refl, sym, ap, ◌∙◌}
use native.Mathlib.Omega.{arith}
use Rattle.record.specs.Bytes.{size}
use Rattle.record.specs.Stored.{stored}
use Rattle.record.proofs.Stored.{stored_none, stored_then}
use Rattle.structure.specs.Subtrees.{slice_of}
use Rattle.structure.proofs.Written.{slice_add}
use Rattle.mending.proofs.Mending.{slice_long}
use Rattle.mending.proofs.Exchanged.{slice_none}
use Rattle.mending.proofs.copy.Goals as goal

pub loop-j-init : goal.loop-j-init
loop-j-init c = (refl, sym (rw (slice_none c.args.book.now c.args.i) (stored_none c.args.out.now (c.args.k * size))))

pub loop-j-preserved : goal.loop-j-preserved
loop-j-preserved c =
    let b = c.args.book.now in
    let l = c.args.out.now in
    let i = c.args.i in
    let j = c.loop-j.j in
    let start = c.args.k * size in
    let at : (c.args.k + j) * size ≡ start + j * size = omega arith in
    let done = slice_of b i j in
    let long = slice_long b i j (omega (arith, c.requires.0, c.loop-j-test.true)) in
    let then = sym (stored_then l done (slice_of b (i + j) 1) start (j * size) long) ∙ ap (stored l start) (sym (slice_add b i j 1)) in
    (omega (arith, c.copy_record.auto.out, c.loop-j.invariant.0), c.copy_record.ensures ∙ rw (at, c.loop-j.invariant.1) then)
