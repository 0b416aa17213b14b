-- How the lines of a text that are not good become zeros, one after another: laws of `specs/Wrong.antt`, for the proofs of the functions. Assumes nothing.
use mathlib.Core.Path.{◌≡◌, refl, sym, ap, ◌∙◌}
use mathlib.Core.Bool.{Bool}
use mathlib.Core.List.{List, ◌++◌, map, append-nil}
use Prim.Native.Nat.{ℕ, ◌+◌, ◌-◌, ◌<◌, ◌≤◌, min}
use native.Mathlib.Omega.{arith}
use lib.ListN.{length, get_or, take, drop}
use lib.Seq.{get_or-drop, drop-drop, take_at, drop_at, drop-length}
use Rattle.record.specs.Table.{tab}
use Rattle.record.proofs.Below.{all_same}
use Rattle.record.proofs.Table.{length_tab}
use Rattle.text.specs.Hex.{is_digit}
use Rattle.text.specs.Text.{digits, line_length, start, width, digit_at, good_line}
use Rattle.text.specs.Wrong.{legible, zeroed_at, zeroed}
use Rattle.text.proofs.Widths.{start_none, start_more, line_of}
use Rattle.text.proofs.Lengthened.{puts}
use Rattle.text.proofs.Lists.{mapped}

-- two texts that are the same from a place on are so from a later one on
module _ (s t : List ℕ) (at i : ℕ) (e : drop at s ≡ drop at t) (h : at ≤ i) where
  later : at + (i - at) ≡ i
  later = omega arith

  byte_same : get_or s i 0 ≡ get_or t i 0
  byte_same = rw later at (sym (get_or-drop at s (i - at) 0) ∙ ap (λ (l : List ℕ). get_or l (i - at) 0) e ∙ get_or-drop at t (i - at) 0)

  rest_same : drop i s ≡ drop i t
  rest_same = rw later at (sym (drop-drop (i - at) at s) ∙ ap (drop (i - at)) e ∙ drop-drop (i - at) at t)

-- and a line that begins there is good in both or in neither
good_same : (w : ℕ) (s t : List ℕ) (at : ℕ) → length s ≡ length t → drop at s ≡ drop at t → good_line w s at ≡ good_line w t at
unfolding good_line
good_same w s t at l e =
    rw (
      l,
      byte_same s t at (at + digits w) e (omega arith),
      all_same (digit_at s at) (digit_at t at) (digits w) (λ j _. ap is_digit (byte_same s t at (at + j) e (omega arith))),
    )

-- a byte of line n + 1
pub zeroed_byte : (s : List ℕ) (n j : ℕ) {at : ℕ} → at ≡ start (width s) n → j < line_length (width s) → zeroed_at s (at + j) ≡ legible (good_line (width s) s at) (get_or s (at + j) 0)
unfolding zeroed_at
zeroed_byte s n j e h = rw (e, line_of (width s) n j h)

-- where n lines end
abbrev pub reached : List ℕ → ℕ → ℕ
reached d n = min (start (width d) n) (length d)

-- line after line: the first n are legible, and the others as they were
pub record Zeroing (d : List ℕ) (n : ℕ) (out : List ℕ) : Type 0 where
  pub long : length out ≡ length d
  pub holds : out ≡ tab (zeroed_at d) (reached d n) ++ drop (reached d n) d

pub zeroing_none : (d : List ℕ) → Zeroing d 0 d
unfolding tab
zeroing_none d = let e : reached d 0 ≡ 0 = omega (arith, start_none (width d)) in record { long = refl; holds = rw e }

module _ {d : List ℕ} {n : ℕ} {out : List ℕ} (z : Zeroing d n out) where
  pub zeroing_more : {w at end : ℕ} {good : Bool} {next : List ℕ} → w ≡ width d → at ≡ start w n → at < length out → good ≡ good_line w out at
      → end ≡ min (length out) (at + line_length w) → length next ≡ length out → next ≡ take at out ++ (map (legible good) (take (end - at) (drop at out)) ++ drop (end - at) (drop at out)) → Zeroing d (n + 1) next
  zeroing_more {w} {at} {end} {good} {next} v q h g e l f =
      let p : at ≡ start (width d) n = rw (← v) q in
      let r : reached d n ≡ at = omega (arith, p, z.long) in
      let r' : reached d (n + 1) ≡ end = omega (arith, start_more (width d) n, p, z.long, rw v at e) in
      let k : at + (end - at) ≡ end = omega arith in
      let done : List ℕ = tab (zeroed_at d) at in
      let made : out ≡ done ++ drop at d = rw r at z.holds in
      let head : take at out ≡ done = rw made (take_at done (drop at d) at (length_tab (zeroed_at d) at)) in
      let rest : drop at out ≡ drop at d = rw made (drop_at done (drop at d) at (length_tab (zeroed_at d) at)) in
      let same : (j : ℕ) → j < end - at → zeroed_at d (at + j) ≡ legible good (get_or out (at + j) 0) = λ j b.
      zeroed_byte d n j p (omega (arith, rw v at e)) ∙ rw (g, v, good_same (width d) out d at z.long rest, byte_same out d at (at + j) rest (omega arith)) in
      let filled : next ≡ tab (zeroed_at d) end ++ drop end d =
      f ∙ rw (head, drop-drop (end - at) at out, k, rest_same out d at end rest (omega arith), mapped (legible good) out at (end - at) (omega arith)) (rw k at (puts (zeroed_at d) _ (drop end d) at (end - at) same)) in
      record { long = l ∙ z.long; holds = rw r' filled }

  pub zeroing_done : length out ≤ start (width d) n → out ≡ zeroed d
  unfolding zeroed
  zeroing_done h =
      let e : reached d n ≡ length d = omega (arith, z.long) in
      z.holds ∙ rw (e, drop-length) (append-nil (tab (zeroed_at d) (length d)))
