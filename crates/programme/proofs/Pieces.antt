-- What a piece of a comparison of two values is found to do, one law for each return of the code. Assumes nothing.
use Rattle.std.specs.Prelude.{Ok, Option, Some, None}
use Prim.Native.Nat.{ℕ, ◌+◌, ◌/◌, ◌%◌, ◌^◌, ◌≤◌, ◌<◌}
use mathlib.Core.Path.{◌≡◌, refl, sym, ap}
use Rattle.sums.specs.Worth.{Word, Worth}
use borrow.Author.Tests.{le-leb, lt-leb, ne_eqb}
use Rattle.value.specs.Value.{function_of, value_of}
use Rattle.value.specs.declared.Function.{Function}
use Rattle.sums.specs.Sums.{in_bytes}
use Rattle.sums.proofs.Bytes.{bytes_back}
use Rattle.sums.specs.declared.Operator.{Operator}
use Rattle.meaning.specs.Numbers.{key_by}
use Rattle.meaning.specs.Meaning.{Bags, the_only}
use Rattle.meaning.specs.declared.Truth.TheVariants.{True}
use Rattle.layout.specs.declared.Op.TheVariants.{All}
use Rattle.layout.specs.declared.Frame.{Frame}
use Rattle.layout.specs.declared.Head.{Head}
use Rattle.layout.specs.Entry.{loads, asks, works, tests, sum, lawful}
use Rattle.layout.specs.Layout.{operator_by, piece_by}
use Rattle.moves.specs.declared.Move.{Move}
use Rattle.moves.specs.Core.{back, level, since, worked, tested, carried, pushes, leaves, core}
use Rattle.moves.specs.Moves.{move_of}
use Rattle.programme.specs.declared.Met.{Met}
use Rattle.programme.specs.Meets.{meets}
use Rattle.programme.proofs.Found.{does, outside, lawful_fits}

-- which piece it is
module _ (which n literal : ℕ) where
  loads_by : which ≡ 0 → piece_by which n literal ≡ loads n literal
  unfolding piece_by
  loads_by e = rw e

  asks_by : which ≡ 1 → piece_by which n literal ≡ asks (n % 281474976710656)
  unfolding piece_by
  asks_by e = rw e

  works_by : which ≡ 2 → piece_by which n literal ≡ works (operator_by n)
  unfolding piece_by
  works_by e = rw e

  tests_by : (which ≡ 0 → ⊥) → (which ≡ 1 → ⊥) → (which ≡ 2 → ⊥) → piece_by which n literal ≡ tests (function_of (n % 8)) (n / 8)
  unfolding piece_by
  tests_by a b c = rw (ne_eqb which 0 a, ne_eqb which 1 b, ne_eqb which 2 c)

abbrev does_so : Move → ℕ → Option Met
does_so v k = Some (record { does = v; further = k })

module _ (g : Bags) (long : ℕ) (h : Head) (which n literal l m : ℕ) (f b : Frame) where
  pub load_outside : which ≡ 0 → long < h.at + 2 → None ≡ meets g long h (sum (piece_by which n literal)) l m f b
  unfolding lawful
  load_outside e k = rw (loads_by which n literal e) (outside g long h (sum (loads n literal)) l m f b (lt-leb (h.at + 2) long k))

  -- a word that stands for a worth is put on top
  abbrev Puts : Word → Move → Type 0
  Puts x v = (w : Worth) → x ≡ in_bytes w → v ≡ move_of (pushes h (since h.found.ands w))

  pub load_does : {v : Move} → which ≡ 0 → h.at + 2 ≤ long → literal < 2 ^ 64 → Puts (Ok literal) v
      → does_so v 1 ≡ meets g long h (sum (piece_by which n literal)) l m f b
  unfolding lawful core
  load_does e k s q =
      rw (loads_by which n literal e)
      (does g long h (sum (loads n literal)) l m f b _ 1 (le-leb (h.at + 2) long k) (q (Ok (value_of n literal)) (ap Ok (sym (bytes_back n literal s)))) refl)

  module _ (inside : h.at < long) where
    pub ask_does : {x : Word} {v : Move} → which ≡ 1 → x ≡ in_bytes (the_only (g (key_by (n % 281474976710656)))) → Puts x v
        → does_so v 0 ≡ meets g long h (sum (piece_by which n literal)) l m f b
    unfolding core
    ask_does e r q =
        let y : ℕ = n % 281474976710656 in
        rw (asks_by which n literal e)
        (does g long h (sum (asks y)) l m f b _ 0 (sym (lawful_fits long h.at (sum (asks y)) _ inside refl refl)) (q (the_only (g (key_by y))) r) refl)

    pub work_does : {o : Operator} {v : Move} → which ≡ 2 → o ≡ operator_by n → v ≡ move_of (leaves h (since h.found.ands (worked o m l)))
        → does_so v 0 ≡ meets g long h (sum (piece_by which n literal)) l m f b
    unfolding core
    work_does {o} e z q =
        rw (works_by which n literal e, ← z)
        (does g long h (sum (works o)) l m f b _ 0 (sym (lawful_fits long h.at (sum (works o)) _ inside refl refl)) q refl)

    pub test_does : {t : Function} {v : Move} → (which ≡ 0 → ⊥) → (which ≡ 1 → ⊥) → (which ≡ 2 → ⊥) → t ≡ function_of (n % 8)
        → v ≡ move_of (carried h True (back (level All (tested h.found.ands t (n / 8) m l))))
        → does_so v 0 ≡ meets g long h (sum (piece_by which n literal)) l m f b
    unfolding core
    test_does {t} x y z e q =
        rw (tests_by which n literal x y z, ← e)
        (does g long h (sum (tests t (n / 8))) l m f b _ 0 (sym (lawful_fits long h.at (sum (tests t (n / 8))) _ inside refl refl)) q refl)
