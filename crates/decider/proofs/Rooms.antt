-- Room for obligations, and nesting, as a walk over the records finds them. Assumes nothing.
use mathlib.Core.Path.{◌≡◌, refl}
use mathlib.Core.List.{List}
use Prim.Native.Nat.{ℕ, zero, suc, ◌+◌, ◌-◌, ◌≤◌, ◌<◌, max}
use native.Mathlib.Omega.{arith}
use native.Mathlib.Numerals.{add-one}
use Rattle.record.specs.Choose.{if}
use Rattle.record.specs.Forest.{Forest, none, node, span_in, forest, height}
use Rattle.record.proofs.Forests.{forest_none, forest_more, span_pos, span_le}
use Rattle.fields.specs.First.{count_below}
use Rattle.fields.specs.Fields.{obligations_of}
use Rattle.meaning.specs.Reading.{is_kind}
use Rattle.decider.specs.Inside.{direct_of, room_of, deep_of}

-- how a forest begins
module _ (b : List ℕ) {i : ℕ} {f kids rest : Forest} (e : f ≡ node i kids rest) where
  pub direct_is : direct_of b f ≡ if (is_kind b i 8) 1 0 + direct_of b rest
  unfolding direct_of
  direct_is = rw e

  pub deep_is : deep_of b f ≡ room_of b kids + deep_of b rest
  unfolding deep_of
  deep_is = rw e

  room_is : room_of b f ≡ if (is_kind b i 8) 1 0 + room_of b kids + room_of b rest
  unfolding room_of
  room_is = rw e

module _ {i : ℕ} {f kids rest : Forest} (e : f ≡ node i kids rest) where
  nest_is : height f ≡ max (suc (height kids)) (height rest)
  unfolding height
  nest_is = rw e

  pub nest_kids : height kids < height f
  nest_kids = omega (arith, nest_is)

  pub nest_rest : height rest ≤ height f
  nest_rest = omega (arith, nest_is)

-- what stands in a forest, and what stands below it
room_split : (b : List ℕ) (t : Forest) → room_of b t ≡ deep_of b t + direct_of b t
unfolding room_of deep_of direct_of
room_split b none = refl
room_split b (node i kids rest) = omega (arith, room_split b rest)

pub rooms : (b : List ℕ) (i left : ℕ) → room_of b (forest b i left) ≡ deep_of b (forest b i left) + direct_of b (forest b i left)
rooms b i left = room_split b (forest b i left)

-- every record stands in the forest once
count_fuel : (f : ℕ) (b : List ℕ) (i left : ℕ) → left ≤ f → obligations_of b i + room_of b (forest b i left) ≡ obligations_of b (i + left)
unfolding obligations_of count_below room_of
count_fuel zero b i zero h = let a : i + 0 ≡ i = omega arith in rw (forest_none b i 0 (omega arith), a) (omega arith)
count_fuel (suc f) b i zero h = let a : i + 0 ≡ i = omega arith in rw (forest_none b i 0 (omega arith), a) (omega arith)
count_fuel zero b i (suc l) h = absurd (omega arith)
count_fuel (suc f) b i (suc l) h =
    let s : ℕ = span_in b i (suc l) in
    let p : 0 < s = span_pos b i (suc l) (omega arith) in
    let q : s ≤ suc l = span_le b i (suc l) in
    let x : i + 1 + (s - 1) ≡ i + s = omega arith in
    let y : i + s + (suc l - s) ≡ i + suc l = omega arith in
    let z : obligations_of b (i + 1) ≡ obligations_of b i + if (is_kind b i 8) 1 0 = rw (add-one i) in
    omega (arith, room_is b (forest_more b i (suc l) (omega arith) refl), z, rw x at (count_fuel f b (i + 1) (s - 1) (omega arith)), rw y at (count_fuel f b (i + s) (suc l - s) (omega arith)))

pub count_forest : (b : List ℕ) (i left : ℕ) → obligations_of b i + room_of b (forest b i left) ≡ obligations_of b (i + left)
count_forest b i left = count_fuel left b i left (omega arith)
