-- The small words and their numbers: each comes back from its number, and its number fits its field. Assumes nothing.
use Rattle.std.specs.Prelude.{None, Some}
use Prim.Native.Nat.{ℕ, ◌+◌, ◌*◌, ◌/◌, ◌%◌, ◌≤◌, ◌<◌}
use mathlib.Core.Path.{◌≡◌, refl}
use mathlib.Core.Bool.{Bool, true, false}
use native.Mathlib.Nat.{add-mul-div_left, add-mul-mod_self_left, div-eq_of_lt, mod-eq_of_lt, zero-add}
use native.Mathlib.Omega.{arith}
use lib.Dec.{eqb}
use Rattle.value.specs.Value.{function_of}
use Rattle.value.specs.declared.Function.{Function}
use Rattle.value.specs.declared.Function.TheVariants.{Equal, Greater, GreaterOrEqual, Less, LessOrEqual}
use Rattle.sums.specs.declared.Operator.{Operator}
use Rattle.sums.specs.declared.Operator.TheVariants.{Add, Subtract, Multiply, Divide, Remainder, DoubleAdd}
use Rattle.sums.specs.declared.Status.TheVariants.{Missing, Processing}
use Rattle.meaning.proofs.Small.{status_small}
use Rattle.meaning.specs.declared.Truth.{Truth}
use Rattle.meaning.specs.declared.Truth.TheVariants.{True, False, Unknown}
use Rattle.meaning.specs.declared.Effect.{Effect}
use Rattle.meaning.specs.declared.Effect.TheVariants.{Permits, Denies}
use Rattle.meaning.specs.declared.Decision.{Decision}
use Rattle.meaning.specs.declared.Decision.TheVariants.{Permit, Deny, NotApplicable, Indeterminate}
use Rattle.meaning.specs.Cause.{Cause}
use Rattle.meaning.specs.declared.Verdict.{Verdict}
use Rattle.meaning.specs.declared.Verdict.TheVariants as verdict
use Rattle.meaning.specs.declared.Algorithm.{Algorithm}
use Rattle.meaning.specs.declared.Algorithm.TheVariants.{RulesDeny, RulesPermit, First, PoliciesDeny, PoliciesPermit, OnlyOne}
use Rattle.algorithm.specs.declared.Rank.{Rank}
use Rattle.algorithm.specs.declared.Rank.TheVariants.{R0, R1, R2, R3, R4}
use Rattle.algorithm.specs.declared.Acc.{Acc}
use Rattle.algorithm.specs.declared.Acc.TheVariants.{Ranked, Nobody, Pending, Two, One}
use Rattle.layout.specs.declared.Op.{Op}
use Rattle.layout.specs.declared.Op.TheVariants.{All, Any, Not}
use Rattle.layout.specs.declared.Found.{Found}
use Rattle.layout.specs.Layout.{bit_of, truth_code, truth_by, cause_code, cause_by, decision_code, decision_by, verdict_code, verdict_by, effect_code, effect_by, op_code, op_by, algorithm_code, algorithm_by, function_code, operator_code, operator_by, rank_code, rank_by, acc_code, acc_by, found_by, found_code}

-- what it is to stand in a field of so many numbers
pub record IsCoded {W : Type 0} (size : ℕ) (code : W → ℕ) (by : ℕ → W) : Type 0 where
  -- each word's number is below the size
  pub fits : (x : W) → code x < size
  -- and brings the word back
  pub back : (x : W) → by (code x) ≡ x

-- words
pub truth_back : (t : Truth) → truth_by (truth_code t) ≡ t
truth_back True = refl
truth_back False = refl
truth_back (Unknown Missing) = refl
truth_back (Unknown Processing) = refl

pub truth_small : (t : Truth) → truth_code t ≤ 3
truth_small True = omega arith
truth_small False = omega arith
truth_small (Unknown s) = omega (arith, status_small s)

pub cause_back : (c : Cause) → cause_by (cause_code c) ≡ c
cause_back None = refl
cause_back (Some Missing) = refl
cause_back (Some Processing) = refl

pub cause_small : (c : Cause) → cause_code c ≤ 2
cause_small None = omega arith
cause_small (Some s) = omega (arith, status_small s)

pub verdict_back : (v : Verdict) → verdict_by (verdict_code v) ≡ v
verdict_back verdict.Permit = refl
verdict_back verdict.Deny = refl
verdict_back verdict.NotApplicable = refl
verdict_back (verdict.Indeterminate Missing) = refl
verdict_back (verdict.Indeterminate Processing) = refl

pub verdict_small : (v : Verdict) → verdict_code v ≤ 4
verdict_small verdict.Permit = omega arith
verdict_small verdict.Deny = omega arith
verdict_small verdict.NotApplicable = omega arith
verdict_small (verdict.Indeterminate s) = omega (arith, status_small s)

pub decision_small : (d : Decision) → decision_code d ≤ 3
decision_small Permit = omega arith
decision_small Deny = omega arith
decision_small NotApplicable = omega arith
decision_small Indeterminate = omega arith

pub effect_back : (e : Effect) → effect_by (effect_code e) ≡ e
effect_back Permits = refl
effect_back Denies = refl

pub effect_small : (e : Effect) → effect_code e ≤ 1
effect_small Permits = omega arith
effect_small Denies = omega arith

pub op_back : (o : Op) → op_by (op_code o) ≡ o
op_back All = refl
op_back Any = refl
op_back Not = refl

pub op_small : (o : Op) → op_code o ≤ 2
op_small All = omega arith
op_small Any = omega arith
op_small Not = omega arith

pub algorithm_back : (a : Algorithm) → algorithm_by (algorithm_code a) ≡ a
algorithm_back RulesDeny = refl
algorithm_back RulesPermit = refl
algorithm_back First = refl
algorithm_back PoliciesDeny = refl
algorithm_back PoliciesPermit = refl
algorithm_back OnlyOne = refl

pub algorithm_small : (a : Algorithm) → algorithm_code a ≤ 5
algorithm_small RulesDeny = omega arith
algorithm_small RulesPermit = omega arith
algorithm_small First = omega arith
algorithm_small PoliciesDeny = omega arith
algorithm_small PoliciesPermit = omega arith
algorithm_small OnlyOne = omega arith

pub function_back : (f : Function) → function_of (function_code f) ≡ f
unfolding function_of
function_back Equal = refl
function_back Greater = refl
function_back GreaterOrEqual = refl
function_back Less = refl
function_back LessOrEqual = refl

pub function_small : (f : Function) → function_code f ≤ 5
function_small Equal = omega arith
function_small Greater = omega arith
function_small GreaterOrEqual = omega arith
function_small Less = omega arith
function_small LessOrEqual = omega arith

pub operator_back : (o : Operator) → operator_by (operator_code o) ≡ o
operator_back Add = refl
operator_back Subtract = refl
operator_back Multiply = refl
operator_back Divide = refl
operator_back Remainder = refl
operator_back DoubleAdd = refl

pub acc_back : (a : Acc) → acc_by (acc_code a) ≡ a
acc_back (Ranked R0) = refl
acc_back (Ranked R1) = refl
acc_back (Ranked R2) = refl
acc_back (Ranked R3) = refl
acc_back (Ranked R4) = refl
acc_back Nobody = refl
acc_back Pending = refl
acc_back Two = refl
acc_back (One Permit) = refl
acc_back (One Deny) = refl
acc_back (One NotApplicable) = refl
acc_back (One Indeterminate) = refl

pub acc_small : (a : Acc) → acc_code a ≤ 11
acc_small (Ranked R0) = omega arith
acc_small (Ranked R1) = omega arith
acc_small (Ranked R2) = omega arith
acc_small (Ranked R3) = omega arith
acc_small (Ranked R4) = omega arith
acc_small Nobody = omega arith
acc_small Pending = omega arith
acc_small Two = omega arith
acc_small (One d) = omega (arith, decision_small d)

pub bit_back : (b : Bool) → eqb (bit_of b) 1 ≡ b
bit_back true = refl
bit_back false = refl

pub decision_back : (d : Decision) → decision_by (decision_code d) ≡ d
decision_back Permit = refl
decision_back Deny = refl
decision_back NotApplicable = refl
decision_back Indeterminate = refl

pub rank_back : (k : Rank) → rank_by (rank_code k) ≡ k
rank_back R0 = refl
rank_back R1 = refl
rank_back R2 = refl
rank_back R3 = refl
rank_back R4 = refl

pub rank_small : (k : Rank) → rank_code k ≤ 4
rank_small R0 = omega arith
rank_small R1 = omega arith
rank_small R2 = omega arith
rank_small R3 = omega arith
rank_small R4 = omega arith

pub bit_small : (b : Bool) → bit_of b ≤ 1
bit_small true = omega arith
bit_small false = omega arith

pub operator_small : (o : Operator) → operator_code o ≤ 5
operator_small Add = omega arith
operator_small Subtract = omega arith
operator_small Multiply = omega arith
operator_small Divide = omega arith
operator_small Remainder = omega arith
operator_small DoubleAdd = omega arith

pub bit_laws : IsCoded 2 bit_of (λ n. eqb n 1)
bit_laws = record { fits = λ x. omega (arith, bit_small x); back = bit_back }

pub truth_laws : IsCoded 4 truth_code truth_by
truth_laws = record { fits = λ x. omega (arith, truth_small x); back = truth_back }

pub cause_laws : IsCoded 4 cause_code cause_by
cause_laws = record { fits = λ x. omega (arith, cause_small x); back = cause_back }

pub decision_laws : IsCoded 4 decision_code decision_by
decision_laws = record { fits = λ x. omega (arith, decision_small x); back = decision_back }

pub verdict_laws : IsCoded 8 verdict_code verdict_by
verdict_laws = record { fits = λ x. omega (arith, verdict_small x); back = verdict_back }

pub effect_laws : IsCoded 2 effect_code effect_by
effect_laws = record { fits = λ x. omega (arith, effect_small x); back = effect_back }

pub op_laws : IsCoded 4 op_code op_by
op_laws = record { fits = λ x. omega (arith, op_small x); back = op_back }

pub algorithm_laws : IsCoded 8 algorithm_code algorithm_by
algorithm_laws = record { fits = λ x. omega (arith, algorithm_small x); back = algorithm_back }

pub function_laws : IsCoded 8 function_code function_of
function_laws = record { fits = λ x. omega (arith, function_small x); back = function_back }

pub operator_laws : IsCoded 8 operator_code operator_by
operator_laws = record { fits = λ x. omega (arith, operator_small x); back = operator_back }

pub rank_laws : IsCoded 8 rank_code rank_by
rank_laws = record { fits = λ x. omega (arith, rank_small x); back = rank_back }

pub acc_laws : IsCoded 16 acc_code acc_by
acc_laws = record { fits = λ x. omega (arith, acc_small x); back = acc_back }

-- a number below b, what stands above it, and of that a number below c
pub remainder : (b n low high : ℕ) → n ≡ low + b * high → low < b → n % b ≡ low
remainder b n low high e l = rw (e, add-mul-mod_self_left low b high, mod-eq_of_lt l)

pub quotient : (b n low high : ℕ) → n ≡ low + b * high → low < b → n / b ≡ high
quotient b n low high e l = let z : 0 < b = omega arith in rw (e, add-mul-div_left low high z, div-eq_of_lt l, zero-add)

pub digit : (b c n low mid high : ℕ) → n ≡ low + b * (mid + c * high) → low < b → mid < c → n / b % c ≡ mid
digit b c n low mid high e l m = rw (quotient b n low (mid + c * high) e l) (remainder c (mid + c * high) mid high refl m)

-- a word at the start of a number, and one behind a smaller number
module _ {W : Type 0} {size : ℕ} {code : W → ℕ} {by : ℕ → W} (laws : IsCoded size code by) where
  pub word_first : (n : ℕ) (x : W) (high : ℕ) → n ≡ code x + size * high → by (n % size) ≡ x
  word_first n x high e = rw (remainder size n (code x) high e (laws.fits x), laws.back x)

  pub word_at : (place n low : ℕ) (x : W) (high : ℕ) → n ≡ low + place * (code x + size * high) → low < place → by (n / place % size) ≡ x
  word_at place n low x high e l = rw (digit place size n low (code x) high e l (laws.fits x), laws.back x)

-- what was found so far
pub found_small : (f : Found) → found_code f < 512
unfolding found_code
found_small f = omega (arith, verdict_small f.reg, truth_small f.ands, truth_small f.ors, truth_small f.sections)

pub found_back : (f : Found) → found_by (found_code f) ≡ f
unfolding found_by found_code
found_back f =
    let r : ℕ = verdict_code f.reg in
    let a : ℕ = truth_code f.ands in
    let o : ℕ = truth_code f.ors in
    let s : ℕ = truth_code f.sections in
    let n : ℕ = r + 8 * (a + 4 * (o + 4 * s)) in
    let v = verdict_small f.reg in
    let t = truth_small f.ands in
    let u = truth_small f.ors in
    rw (
      word_first verdict_laws n f.reg _ refl,
      word_at truth_laws 8 n r f.ands _ refl (omega arith),
      word_at truth_laws 32 n (r + 8 * a) f.ors s (omega arith) (omega arith),
      word_at truth_laws 128 n (r + 8 * (a + 4 * o)) f.sections 0 (omega arith) (omega arith),
    )

pub found_laws : IsCoded 512 found_code found_by
found_laws = record { fits = found_small; back = found_back }
