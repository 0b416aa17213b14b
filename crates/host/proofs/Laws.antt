-- Laws of the C host's call. Assumes nothing.
use Rattle.std.specs.Prelude.{Err}
use mathlib.Core.Path.{◌≡◌, refl, sym, ap, ◌∙◌}
use mathlib.Core.List.{List, [], ◌∷◌, ◌++◌, append_assoc}
use Prim.Native.Nat.{ℕ, suc, ◌+◌, ◌-◌, ◌*◌, ◌/◌, ◌%◌, ◌≤◌, ◌<◌, min}
use native.Mathlib.Omega.{arith}
use native.Mathlib.Numerals.{add-one}
use lib.ListN.{length, take, drop, set, get_or, replicate, length-append}
use lib.Seq.{length-take-le, take-suc, drop-cons, append_snoc, set_at, take_at}
use Rattle.record.specs.Bytes.{most_records}
use Rattle.record.specs.declared.Refusal.{Refusal}
use Rattle.meaning.specs.declared.Verdict.{Verdict}
use Rattle.decider.specs.Outcome.{duties_of, outcome_of, out_of, Outcome, decided_with}
use Rattle.decider.proofs.Whole.{most_room, decided_puts}
use Rattle.host.specs.Host.{host_number, pairs_of, host_outcome, host_out}

pairs_both : (xs ys : List ℕ) → pairs_of (xs ++ ys) ≡ pairs_of xs ++ pairs_of ys
unfolding pairs_of
pairs_both [] ys = refl
pairs_both (x ∷ xs) ys = ap (λ z. x / 256 ∷ x % 256 ∷ z) (pairs_both xs ys)

pub pairs_length : (xs : List ℕ) → length (pairs_of xs) ≡ length xs * 2
unfolding pairs_of
pairs_length [] = refl
pairs_length (x ∷ xs) = omega (arith, pairs_length xs)

-- two bytes are stored
set_two : (p r : List ℕ) (u v x y n : ℕ) → length p ≡ n → set (set (p ++ u ∷ v ∷ r) n x) (n + 1) y ≡ p ++ x ∷ y ∷ r
set_two p r u v x y n e =
    let f : length (p ++ (x ∷ [])) ≡ n + 1 = length-append p (x ∷ []) ∙ omega arith in
    rw (set_at p u (v ∷ r) x n e, ← append_snoc p x (v ∷ r), set_at (p ++ (x ∷ [])) v r y (n + 1) f) (append_snoc p x (y ∷ r))

drop_two : (l : List ℕ) (n : ℕ) → n + 1 < length l → drop n l ≡ get_or l n 0 ∷ get_or l (n + 1) 0 ∷ drop (n + 2) l
drop_two l n h =
    let c : suc (n + 1) ≡ n + 2 = omega arith in
    drop-cons l n 0 (omega arith) ∙ rw (← add-one n) (ap (λ z. get_or l n 0 ∷ z) (drop-cons l (n + 1) 0 h) ∙ rw c)

-- the loop that puts pairs
pub pairs_none : (ps l : List ℕ) → l ≡ pairs_of (take 0 ps) ++ drop (0 * 2) l
unfolding pairs_of
pairs_none ps l = refl

pub pairs_more : (ps l o : List ℕ) (k : ℕ) {x : ℕ} → x ≡ get_or ps k 0 → k < length ps → k * 2 + 1 < length l → o ≡ pairs_of (take k ps) ++ drop (k * 2) l
    → set (set o (k * 2) (x / 256)) (k * 2 + 1) (x % 256) ≡ pairs_of (take (k + 1) ps) ++ drop ((k + 1) * 2) l
unfolding pairs_of
pairs_more ps l o k {x} ex h g e =
    let c : (k + 1) * 2 ≡ k * 2 + 2 = omega arith in
    let n : length (pairs_of (take k ps)) ≡ k * 2 = pairs_length (take k ps) ∙ ap (λ z. z * 2) (length-take-le k ps (omega arith)) in
    rw (
      e,
      drop_two l (k * 2) g,
      set_two (pairs_of (take k ps)) (drop (k * 2 + 2) l) (get_or l (k * 2) 0) (get_or l (k * 2 + 1) 0) (x / 256) (x % 256) (k * 2)
          n,
      c,
      add-one k,
      take-suc ps k 0 h,
      pairs_both (take k ps) (get_or ps k 0 ∷ []),
      ← ex,
    )
    (sym (append_assoc (pairs_of (take k ps)) (x / 256 ∷ x % 256 ∷ []) (drop (k * 2 + 2) l)))

-- the answers
same_outcome : (b q ps l : List ℕ) → length ps ≡ min (length l / 2) most_records → outcome_of b q (length ps) ≡ host_outcome b q l
unfolding host_outcome
same_outcome b q ps l e = rw e (most_room b q (length l / 2))

module _ (b q ps l : List ℕ) {o : Outcome} (room : length ps ≡ min (length l / 2) most_records) (eo : o ≡ outcome_of b q (length ps)) where
  pub host_refused : {r : Refusal} {x : ℕ} → o ≡ Err r → x ≡ host_number (Err r) → (x ≡ host_number (host_outcome b q l)) × (l ≡ host_out b q l)
  unfolding host_out
  host_refused e ex = let w : host_outcome b q l ≡ Err _ = sym (same_outcome b q ps l room) ∙ sym eo ∙ e in (rw w ex, rw w)

  module _ {e : List ℕ} {d : Verdict} {n : ℕ} (ed : o ≡ decided_with d n) (ee : e ≡ out_of b q ps) (el : length e ≡ length ps) where
    pub host_fits : (n ≤ length e) × (n * 2 ≤ length l) × (n ≤ most_records)
    host_fits = let w = decided_puts b q ps eo ed ee el in (w.0, omega (arith, w.0, el, room), omega (arith, w.0, el, room))

    pub host_decided : {f g : List ℕ} {x : ℕ} → f ≡ pairs_of (take n e) ++ drop (n * 2) l → length f ≡ length l → g ≡ take (n * 2) f ++ replicate (length f - n * 2) 0
        → x ≡ host_number (decided_with d n) → (x ≡ host_number (host_outcome b q l)) × (g ≡ host_out b q l)
    unfolding host_out
    host_decided {f} ef lf eg ex =
        let w : host_outcome b q l ≡ decided_with d n = sym (same_outcome b q ps l room) ∙ sym eo ∙ ed in
        let p = decided_puts b q ps eo ed ee el in
        let t : take n e ≡ duties_of b q = p.1 in
        let c : length (pairs_of (duties_of b q)) ≡ n * 2 = pairs_length (duties_of b q) ∙ ap (λ z. z * 2) (sym (ap length t) ∙ length-take-le n e p.0) in
        let h : take (n * 2) f ≡ pairs_of (duties_of b q) = rw (ef, t) (take_at (pairs_of (duties_of b q)) (drop (n * 2) l) (n * 2) c) in
        (rw w ex, rw w (eg ∙ rw (h, lf, c)))

-- the places that are lent
pub places_lent : (z : List ℕ) (r a : ℕ) → most_records ≡ length z → r ≡ min a most_records → length (take r z) ≡ r
places_lent z r a e h = length-take-le r z (omega arith)
