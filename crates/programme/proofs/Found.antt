-- Laws of what an entry is found to do: whether it is in its layout, and which one stands at a place. Assumes nothing.
use Prim.Native.Nat.{ℕ, suc, ◌+◌, ◌/◌, ◌%◌, ◌≤◌, ◌<◌}
use mathlib.Core.Path.{◌≡◌, refl, sym}
use mathlib.Core.Bool.{Bool, true, false}
use mathlib.Core.List.{List}
use native.Mathlib.Omega.{arith}
use lib.ListN.{get_or}
use borrow.Author.Tests.{le-leb, lt-leb, ne_eqb}
use Rattle.record.proofs.Choose.{both_true, both_false}
use Rattle.meaning.specs.Meaning.{Bags}
use Rattle.layout.specs.declared.Frame.{Frame}
use Rattle.layout.specs.declared.Head.{Head}
use Rattle.moves.specs.declared.Move.{Move}
use Rattle.programme.specs.declared.Met.{Met}
use Rattle.std.specs.Prelude.{Option, Some, None}
use Rattle.layout.specs.Entry.{Entry, extra, reach, fits, lawful}
use Rattle.moves.specs.Core.{core}
use Rattle.layout.specs.Layout.{entry_by, entry_of, fetch}
use Rattle.moves.specs.Moves.{move_of}
use Rattle.programme.specs.Meets.{met_if, meets}

same_if : (ok : Bool) (v w : Move) (k n : ℕ) → v ≡ w → k ≡ n → met_if ok v k ≡ met_if ok w n
same_if true v w k n e f = rw (e, f)
same_if false v w k n e f = refl

module _ (g : Bags) (long : ℕ) (h : Head) (e : Entry) (l m : ℕ) (f b : Frame) where
  pub met : (r : Option Met) (ok : Bool) (v : Move) (k : ℕ) → r ≡ met_if ok v k → ok ≡ lawful long h.at e
      → v ≡ move_of (core g h e l m f b) → k ≡ extra e → r ≡ meets g long h e l m f b
  unfolding meets
  met r ok v k a o c d = rw (a, o) (same_if (lawful long h.at e) v (move_of (core g h e l m f b)) k (extra e) c d)

  pub does : (v : Move) (k : ℕ) → lawful long h.at e ≡ true → v ≡ move_of (core g h e l m f b) → k ≡ extra e
      → Some (record { does = v; further = k }) ≡ meets g long h e l m f b
  does v k o c d = met (Some (record { does = v; further = k })) true v k refl (sym o) c d

  pub outside : lawful long h.at e ≡ false → None ≡ meets g long h e l m f b
  unfolding meets
  outside o = rw o

module _ (long at : ℕ) where
  -- an entry that leads nowhere else, one beyond the end
  pub lawful_fits : (e : Entry) (x : Bool) → at < long → fits e ≡ x → reach e ≡ 0 → x ≡ lawful long at e
  unfolding lawful
  lawful_fits e x a p q = let k : at + 1 ≤ long = omega arith in rw (p, q, le-leb (at + 1) long k, both_true x)

  pub lawful_beyond : (e : Entry) → long ≤ at → lawful long at e ≡ false
  unfolding lawful
  lawful_beyond e a = let k : long < at + suc (reach e) = omega arith in rw (lt-leb (at + suc (reach e)) long k, both_false (fits e))

-- the entry at a place, by its kind
pub found : (p : List ℕ) (i k : ℕ) → get_or p i 0 % 16 ≡ k → fetch p i ≡ entry_by k (get_or p i 0 / 16) (get_or p (i + 1) 0) (get_or p (i + 2) 0)
unfolding fetch entry_of
found p i k e = rw e

-- a number that no kind has
pub lawful_none : (p : List ℕ) (i long : ℕ) → let k = get_or p i 0 % 16 in
    (k ≡ 0 → ⊥) → (k ≡ 1 → ⊥) → (k ≡ 3 → ⊥) → (k ≡ 4 → ⊥) → (k ≡ 5 → ⊥) → (k ≡ 6 → ⊥) → (k ≡ 7 → ⊥) → (k ≡ 8 → ⊥)
    → (k ≡ 9 → ⊥) → (k ≡ 10 → ⊥) → (k ≡ 11 → ⊥) → (k ≡ 12 → ⊥) → (k ≡ 13 → ⊥) → lawful long i (fetch p i) ≡ false
unfolding lawful entry_by
lawful_none p i long a0 a1 a3 a4 a5 a6 a7 a8 a9 a10 a11 a12 a13 =
    let k : ℕ = get_or p i 0 % 16 in
    rw (
      found p i k refl,
      ne_eqb k 0 a0,
      ne_eqb k 1 a1,
      ne_eqb k 3 a3,
      ne_eqb k 4 a4,
      ne_eqb k 5 a5,
      ne_eqb k 6 a6,
      ne_eqb k 7 a7,
      ne_eqb k 8 a8,
      ne_eqb k 9 a9,
      ne_eqb k 10 a10,
      ne_eqb k 11 a11,
      ne_eqb k 12 a12,
      ne_eqb k 13 a13,
    )
