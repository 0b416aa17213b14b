use mathlib.Core.Path.{◌≡◌, ap, ◌∙◌}
use mathlib.Core.List.{◌++◌}
use lib.ListN.{length, replicate, take, drop}
use lib.Seq.{length-take-le}
use native.Mathlib.Omega.{arith}
use Rattle.std.proofs.Common.{rules}
use Rattle.layout.specs.Layout.{found_code, pack_of}
use Rattle.programme.specs.Step.{fresh_of}
use Rattle.rig.proofs.Laws.{put_numbers}
use Rattle.rig.proofs.put_fresh.Goals as goal

pub returns : goal.returns
unfolding fresh_of pack_of found_code
returns c =
    let a = c.args in
    let frames : c.fill.new.self ≡ replicate 17 0 = search rules in
    let levels : c.fill-2.new.self ≡ replicate 15 0 = search rules in
    let long : length (take 1000 a.places.now) ≡ 1000 = length-take-le 1000 a.places.now (omega arith) in
    let places : c.fill-3.new.self ≡ replicate 1000 0 = c.fill-3.ensures.after (λ y e. e) ∙ ap (λ n. replicate n 0) long in
    let numbers = put_numbers a.numbers.now fresh_of.head (replicate 17 0) (omega arith) (omega arith) (replicate 15 0) (omega arith) frames levels in
    (numbers, ap (λ xs. xs ++ drop 1000 a.places.now) places)
