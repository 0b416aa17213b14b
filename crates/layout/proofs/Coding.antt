-- Numbers and what they stand for: each level, frame and first number comes back from its number. Assumes nothing.
use Prim.Native.Nat.{ℕ, ◌+◌, ◌*◌, ◌/◌, ◌%◌, ◌<◌}
use mathlib.Core.Path.{◌≡◌, refl}
use mathlib.Core.Bool.{Bool, true}
use native.Mathlib.Omega.{arith}
use lib.Dec.{eqb, ltb, leb}
use borrow.Author.Tests.{lt-ltb, le-leb, leb-true}
use Rattle.record.specs.Choose.{both}
use Rattle.record.proofs.Choose.{both_left, both_right}
use Rattle.layout.specs.declared.Level.{Level}
use Rattle.layout.specs.declared.Frame.{Frame}
use Rattle.layout.specs.declared.Head.{Head}
use Rattle.layout.specs.Layout.{bit_of, truth_code, cause_code, op_code, algorithm_code, acc_code, level_of, level_word, frame_of, frame_word, found_by, found_code, unpack_of, pack_of, allowed}
use Rattle.layout.specs.Ranges.{Held, Ranged}
use Rattle.layout.specs.Room.{room_p}
use Rattle.layout.specs.Words.{op_small, op_laws, truth_laws, algorithm_small, algorithm_laws, acc_small, acc_laws, cause_laws, bit_small, bit_laws, found_small, found_laws, remainder, digit, word_first, word_at}

-- levels and frames
pub level_back : (l : Level) → level_of (level_word l) ≡ l
unfolding level_of level_word
level_back l =
    let a = op_small l.op in
    let n : ℕ = op_code l.op + 4 * truth_code l.val in
    rw (word_first op_laws n l.op (truth_code l.val) refl, word_at truth_laws 4 n (op_code l.op) l.val 0 (omega arith) (omega arith))

pub frame_back : (f : Frame) → f.permits < 1024 → f.denies < 1024 → frame_of (frame_word f) ≡ f
unfolding frame_of frame_word
frame_back f p d =
    let k = f.tally in
    let g : ℕ = algorithm_code f.alg in
    let h : ℕ = acc_code k.acc in
    let c : ℕ = cause_code k.cause in
    let a = algorithm_small f.alg in
    let b = acc_small k.acc in
    let n : ℕ = g + 8 * (h + 16 * (f.permits + 1024 * (f.denies + 1024 * c))) in
    rw (
      word_first algorithm_laws n f.alg _ refl,
      word_at acc_laws 8 n g k.acc _ refl (omega arith),
      digit 128 1024 n (g + 8 * h) f.permits (f.denies + 1024 * c) (omega arith) (omega arith) p,
      digit 131072 1024 n (g + 8 * (h + 16 * f.permits)) f.denies c (omega arith) (omega arith) d,
      word_at cause_laws 134217728 n (g + 8 * (h + 16 * (f.permits + 1024 * f.denies))) k.cause 0 (omega arith) (omega arith),
    )

-- the first number: its words, and what stands below them
module _ (h : Head) where
  words : ℕ
  words = found_code h.found + 512 * bit_of h.over

  stacks : ℕ
  stacks = h.permits + 1024 * (h.denies + 1024 * h.cut)

  low : ℕ
  low = h.at + 8192 * (h.depth + 32 * (h.nest + 16 * stacks))

module _ (h : Head) (s : Held h) where
  words_small : words h < 1024
  unfolding words
  words_small = omega (arith, found_small h.found, bit_small h.over)

  low_small : low h < 4503599627370496
  unfolding low stacks
  low_small = omega arith

  parts : pack_of h ≡ low h + 4503599627370496 * words h
  unfolding pack_of low stacks words
  parts = omega arith

  pub pack_small : pack_of h < 4611686018427387904
  pack_small = omega (arith, parts, words_small, low_small)

  at_back : pack_of h % 8192 ≡ h.at
  unfolding pack_of
  at_back = remainder 8192 (pack_of h) h.at _ refl s.at

  depth_back : pack_of h / 8192 % 32 ≡ h.depth
  unfolding pack_of
  depth_back = digit 8192 32 (pack_of h) h.at h.depth _ refl s.at s.depth

  nest_back : pack_of h / 262144 % 16 ≡ h.nest
  unfolding low stacks
  nest_back =
      digit 262144 16 (pack_of h) (h.at + 8192 * h.depth) h.nest (h.permits + 1024 * (h.denies + 1024 * (h.cut + 1024 * words h)))
      (omega (arith, parts)) (omega arith) s.nest

  permits_back : pack_of h / 4194304 % 1024 ≡ h.permits
  unfolding low stacks
  permits_back =
      digit 4194304 1024 (pack_of h) (h.at + 8192 * (h.depth + 32 * h.nest)) h.permits (h.denies + 1024 * (h.cut + 1024 * words h))
      (omega (arith, parts)) (omega arith) s.permits

  denies_back : pack_of h / 4294967296 % 1024 ≡ h.denies
  unfolding low stacks
  denies_back =
      digit 4294967296 1024 (pack_of h) (h.at + 8192 * (h.depth + 32 * (h.nest + 16 * h.permits))) h.denies (h.cut + 1024 * words h)
      (omega (arith, parts)) (omega arith) s.denies

  cut_back : pack_of h / 4398046511104 % 1024 ≡ h.cut
  unfolding low stacks
  cut_back =
      digit 4398046511104 1024 (pack_of h) (h.at + 8192 * (h.depth + 32 * (h.nest + 16 * (h.permits + 1024 * h.denies)))) h.cut (words h)
      (omega (arith, parts)) (omega arith) s.cut

  found_stands : found_by (pack_of h / 4503599627370496 % 512) ≡ h.found
  unfolding words
  found_stands = word_at found_laws 4503599627370496 (pack_of h) (low h) h.found (bit_of h.over) parts low_small

  over_stands : eqb (pack_of h / 2305843009213693952 % 2) 1 ≡ h.over
  unfolding words
  over_stands =
      word_at bit_laws 2305843009213693952 (pack_of h) (low h + 4503599627370496 * found_code h.found) h.over 0
      (omega (arith, parts)) (omega (arith, low_small, found_small h.found))

  -- a first number whose fields fit comes back
  unpack_pack : unpack_of (pack_of h) ≡ h
  unfolding unpack_of
  unpack_pack =
      rw (
        at_back,
        depth_back,
        nest_back,
        permits_back,
        denies_back,
        cut_back,
        found_stands,
        over_stands,
      )

-- what lies in the allowed range fits its bits
pub held : (h : Head) → Ranged h → Held h
held h r = record { at = r.at; depth = omega arith; nest = omega arith; permits = omega arith; denies = omega arith; cut = omega arith }

pub ranged_back : (h : Head) → Ranged h → unpack_of (pack_of h) ≡ h
ranged_back h r = unpack_pack h (held h r)

pub allowed_pack : (h : Head) → Ranged h → allowed (pack_of h) ≡ true
unfolding allowed
allowed_pack h r =
    let s = held h r in
    rw (
      unpack_pack h s,
      lt-ltb _ _ (pack_small h s),
      le-leb _ _ r.depth,
      le-leb _ _ r.nest,
      le-leb _ _ r.permits,
      le-leb _ _ r.stacks,
    )

at_small : (n : ℕ) → (unpack_of n).at < 8192
unfolding unpack_of
at_small n = omega arith

-- and the other way round
pub ranged : (n : ℕ) → allowed n ≡ true → Ranged (unpack_of n)
unfolding allowed
ranged n e =
    let d : Bool = leb (unpack_of n).depth 16 in
    let c : Bool = leb (unpack_of n).nest 14 in
    let p : Bool = leb (unpack_of n).permits room_p in
    let s : Bool = leb ((unpack_of n).cut + (unpack_of n).denies) room_p in
    let f = both_right (ltb n 4611686018427387904) (both d (both c (both p s))) e in
    let g = both_right d (both c (both p s)) f in
    let h = both_right c (both p s) g in
    record {
      at = at_small n;
      depth = leb-true _ _ (both_left d (both c (both p s)) f);
      nest = leb-true _ _ (both_left c (both p s) g);
      permits = leb-true _ _ (both_left p s h);
      stacks = leb-true _ _ (both_right p s h);
    }
