-- Laws of carrying a move out. Assumes nothing.
use Prim.Native.Nat.{ℕ, zero, suc, ◌+◌, ◌-◌, ◌≤◌, ◌<◌}
use mathlib.Core.Path.{◌≡◌, refl, sym, ap, ◌∙◌}
use mathlib.Core.List.{List}
use native.Mathlib.Nat.{sub-zero, add-zero}
use native.Mathlib.Omega.{arith}
use lib.ListN.{length, get_or, set, drop, length-drop}
use Rattle.std.proofs.lemmas.List.{get_or-drop}
use lib.Seq.{paste, paste-zero, paste-suc, drop-paste}
use Rattle.std.specs.List.{copy_within}
use Rattle.moves.specs.declared.Change.{Change}
use Rattle.layout.specs.declared.Head.{Head}
use Rattle.moves.specs.declared.Move.{Move}
use Rattle.moves.specs.declared.Placing.{Placing}
use Rattle.moves.specs.declared.Placing.TheVariants.{Down}
use Rattle.stacks.specs.declared.Heights.{Heights}
use Rattle.stacks.specs.Machine.{height_after, stack_after, cut_after, permits_after, denies_after, copies}
use Rattle.layout.specs.Ranges.{Ranged}
use Rattle.stacks.specs.Carry.{Placed, head_with, changing_of}
use Rattle.layout.specs.Room.{room_p}

pub same_room : (n room k : ℕ) (c : Change) (xs ys : List ℕ) → room ≡ n → ys ≡ stack_after room (changing_of c) k xs
    → ys ≡ stack_after n (changing_of c) k xs
same_room n room k c xs ys e f = rw e at f

-- `copy_within` brings n places down by c, from m on
module _ (n c m : ℕ) (xs : List ℕ) (fits : c + (m + n) ≤ length xs) where
  abbrev above : List ℕ
  above = drop (c + m) xs

  abbrev done : ℕ → List ℕ
  done k = paste xs m above k

  source : (k : ℕ) → k < n → get_or (done k) (c + (m + k)) 0 ≡ get_or above k 0
  source k l =
      let e : c + (m + k) ≡ (m + k) + c = omega arith in
      let f : (m + k) + c ≡ (c + m) + k = omega arith in
      ap (λ (x : ℕ). get_or (done k) x 0) e ∙ sym (get_or-drop (m + k) (done k) c 0)
      ∙ ap (λ (ys : List ℕ). get_or ys c 0) (drop-paste xs m above k (omega arith) (omega (arith, length-drop (c + m) xs)))
      ∙ get_or-drop (m + k) xs c 0 ∙ ap (λ (x : ℕ). get_or xs x 0) f ∙ sym (get_or-drop (c + m) xs k 0)

  one_more : (i j x : ℕ) (ys : List ℕ) → get_or ys (c + j) 0 ≡ x → copies (suc i) c j ys ≡ copies i c (suc j) (set ys j x)
  unfolding copies
  one_more i j x ys e = ap (λ (z : ℕ). copies i c (suc j) (set ys j z)) e

  so_far : (k : ℕ) → k ≤ n → copies n c m xs ≡ copies (n - k) c (m + k) (done k)
  so_far zero l = ap (λ (ys : List ℕ). copies n c m ys) (paste-zero xs m above) ∙ rw (sub-zero, add-zero) refl
  so_far (suc k) l =
      let e : n - k ≡ suc (n - suc k) = omega arith in
      let f : suc (m + k) ≡ m + suc k = omega arith in
      so_far k (omega arith) ∙ ap (λ (i : ℕ). copies i c (m + k) (done k)) e ∙ one_more (n - suc k) (m + k) _ (done k) (source k (omega arith))
      ∙ ap (λ (ys : List ℕ). copies (n - suc k) c (suc (m + k)) ys) (paste-suc xs m above k 0 (omega arith) (omega (arith, length-drop (c + m) xs)))
      ∙ ap (λ (j : ℕ). copies (n - suc k) c j (done (suc k))) f

  pub copied_down : copy_within xs (c + m) (c + m + n) m ≡ copies n c m xs
  unfolding copies
  copied_down =
      let z : n - n ≡ 0 = omega arith in
      let f : (c + m + n) - (c + m) ≡ n = omega arith in
      ap done f ∙ sym (so_far n (omega arith) ∙ ap (λ (i : ℕ). copies i c (m + n) (done n)) z)

-- no more are brought down than there are
pub enough_above : (p d : ℕ) {z : Placing} {n : ℕ} → Placed z p d → z ≡ Down n → p + n ≤ d
enough_above p d k e = rw e at k

-- the first number after it
module _ (h : Head) (further : ℕ) (m : Move) where
  pub at_with : Ranged (head_with h further m) → h.at + suc (further + m.next.jump) < 8192
  unfolding head_with
  at_with r = r.at

  module _ (frames levels depth nest : ℕ) (s : Heights) (f : frames ≡ 17) (l : levels ≡ 15)
      (a : depth ≡ height_after frames (changing_of m.frames) h.depth) (b : nest ≡ height_after levels (changing_of m.levels) h.nest)
      (c : s ≡ record {
        permits = permits_after m.placing h.cut h.permits;
        denies = denies_after m.placing h.cut room_p h.denies;
        cut = cut_after m.placing h.cut;
      }) where
    abbrev made : Head
    made = record {
      at = h.at + 1 + further + m.next.jump;
      depth = depth;
      nest = nest;
      permits = s.permits;
      denies = s.denies;
      cut = s.cut;
      found = m.next.found;
      over = m.over;
    }

    pub made_is : made ≡ head_with h further m
    unfolding head_with
    made_is =
        let e : h.at + 1 + further + m.next.jump ≡ h.at + suc (further + m.next.jump) = omega arith in
        rw (e, a, b, c, f, l)
