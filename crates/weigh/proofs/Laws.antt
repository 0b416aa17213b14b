-- What is read of the records of a value, and of the two values that an operator or a comparison has. Assumes nothing.
use Rattle.std.specs.Prelude.{Err, Ok}
use mathlib.Core.Path.{◌≡◌, refl, sym, ap, ◌∙◌}
use mathlib.Core.List.{List, [], ◌∷◌}
use Prim.Native.Nat.{ℕ, zero, suc, ◌+◌, ◌-◌, ◌*◌, ◌/◌, ◌%◌, ◌^◌, ◌<◌, ◌≤◌}
use Rattle.sums.specs.Worth.{Word, Worth}
use native.Mathlib.Omega.{arith}
use borrow.Author.Tests.{ne_eqb}
use Rattle.record.specs.Bytes.{size, byte_of, big_of}
use Rattle.record.specs.Forest.{span_in, forest}
use Rattle.record.proofs.Forests.{span_pos, forest_none, forest_more}
use Rattle.value.specs.Value.{function_of}
use Rattle.value.specs.declared.Function.{Function}
use Rattle.sums.specs.Sums.{in_bytes, kind_of}
use Rattle.sums.proofs.Bytes.{bytes_back}
use Rattle.sums.specs.declared.Operator.{Operator}
use Rattle.sums.specs.declared.Operator.TheVariants.{Add, Subtract, Multiply, Divide, Remainder, DoubleAdd}
use Rattle.meaning.specs.Numbers.{key_by}
use Rattle.meaning.specs.Policy.{Expr, operate, weighs, compares}
use Rattle.meaning.specs.Meaning.{Bags, the_only, operated, type_of, worth, weighed, condition_of}
use Rattle.meaning.specs.Reading.{choice_at, key_at, comparison_at, of_two, operator_of, spare_at, expr_at, exprs_in, weighs_at}
use Rattle.meaning.specs.declared.Truth.{Truth}
use Rattle.weigh.specs.Words.{operated_of, weighed_of}
use Rattle.weigh.specs.Two.{second_in}

-- words and worths
operated_is : (o : Operator) (x y : Worth) → operated_of o (in_bytes x) (in_bytes y) ≡ in_bytes (operated o x y)
operated_is o (Ok x) (Ok y) = refl
operated_is o (Ok x) (Err s) = refl
operated_is o (Err s) y = refl

weighed_is : (f : Function) (k : ℕ) (x y : Worth) → weighed_of f k (in_bytes x) (in_bytes y) ≡ weighed f k x y
weighed_is f k (Ok x) (Ok y) = refl
weighed_is f k (Ok x) (Err s) = refl
weighed_is f k (Err s) y = refl

-- the first of two records below record i ends where the second begins
pub second_behind : (b : List ℕ) (i stop : ℕ) {second : ℕ} → second ≡ second_in b i stop → second < stop → i + 1 < second
unfolding second_in
second_behind b i stop e l = omega (arith, e, span_pos b (i + 1) (stop - (i + 1)) (omega (arith, e, l)))

-- what is left behind the first of the records below record i
left_over : (i stop second n : ℕ) → second ≡ i + 1 + n → stop - (i + 1) - n ≡ stop - second
left_over i stop second n e = omega arith

-- the values below record i, which ends at `stop`
module _ (b : List ℕ) (i stop : ℕ) (h : i < stop) where
  abbrev values : List Expr
  values = exprs_in b (forest b (i + 1) (stop - i - 1))

  -- fewer than two
  pub few : {A : Type 0} (f : Expr → Expr → A) (d : A) → second_in b i stop ≡ stop → of_two f d values ≡ d
  unfolding second_in exprs_in
  few f d e = go (stop - i - 1) refl
    where
      go : (left : ℕ) → stop - i - 1 ≡ left → of_two f d (exprs_in b (forest b (i + 1) left)) ≡ d
      go zero z = rw (forest_none b (i + 1) 0 (omega arith)) refl
      go (suc left) z =
          let w : stop - (i + 1) ≡ suc left = omega (arith, z) in
          let s : suc left ≡ span_in b (i + 1) (suc left) = omega (arith, e, rw w at e) in
          rw (forest_more b (i + 1) (suc left) (omega arith) s, forest_none b (i + 1 + suc left) (suc left - suc left) (omega arith)) refl

  -- two, where the second begins at `second` and ends t records on
  module _ {second t : ℕ} (e : second ≡ second_in b i stop) (l : second < stop) (s : t ≡ span_in b second (stop - second)) where
    abbrev first_one : Expr
    first_one = expr_at b (i + 1) (exprs_in b (forest b (i + 1 + 1) (second - (i + 1) - 1)))

    abbrev second_one : Expr
    second_one = expr_at b second (exprs_in b (forest b (second + 1) (second + t - second - 1)))

    pub two_values_lem : {A : Type 0} (f : Expr → Expr → A) (d : A) → of_two f d values ≡ f first_one second_one
    unfolding second_in exprs_in
    two_values_lem f d =
        let n : ℕ = span_in b (i + 1) (stop - (i + 1)) in
        let w : stop - i - 1 ≡ stop - (i + 1) = omega arith in
        let a : second - (i + 1) ≡ n = omega (arith, e) in
        let k : second + t - second ≡ t = omega arith in
        rw (
          w,
          forest_more b (i + 1) (stop - (i + 1)) (omega (arith, e, l)) refl,
          ← e,
          left_over i stop second n e,
          forest_more b second (stop - second) (omega (arith, l)) s,
          a,
          k,
        )
        refl

-- the value at record i, by its choice
module _ (g : Bags) (b : List ℕ) (i : ℕ) (es : List Expr) {c : ℕ} (C : c ≡ byte_of b i 1) where
  pub literal_is : {n : ℕ} → c ≡ 1 → n ≡ big_of b (i * size + 8) 8 → n < 2 ^ 64 → Ok n ≡ in_bytes (worth g (expr_at b i es))
  unfolding expr_at worth
  literal_is e f s = rw (← C, e, ← f) (ap Ok (sym (bytes_back (byte_of b i 5) _ s)))

  pub attribute_is : {w : Word} {k : ℕ} → c ≡ 2 → k ≡ key_at b i → w ≡ in_bytes (the_only (g (key_by k))) → w ≡ in_bytes (worth g (expr_at b i es))
  unfolding expr_at worth
  attribute_is e f h = rw (← C, e, ← f) h

module _ (b : List ℕ) (i : ℕ) {c : ℕ} (C : c ≡ byte_of b i 1) (one : c ≡ 1 → ⊥) (two : c ≡ 2 → ⊥) (es : List Expr) where
  pub is_operator_lem : expr_at b i es ≡ of_two (operate (operator_of c)) (spare_at b i) es
  unfolding expr_at
  is_operator_lem = rw (← C, ne_eqb c 1 one, ne_eqb c 2 two) refl

-- an operator: without two operands, and with them
module _ (g : Bags) (b : List ℕ) (i stop : ℕ) (h : i < stop) {c second : ℕ} (C : c ≡ byte_of b i 1) (one : c ≡ 1 → ⊥) (two : c ≡ 2 → ⊥) (e : second ≡ second_in b i stop) where
  pub without_operands : {n : ℕ} → n ≡ big_of b (i * size + 8) 8 → n < 2 ^ 64 → second ≡ stop → Ok n ≡ in_bytes (worth g (expr_at b i (values b i stop h)))
  unfolding worth
  without_operands {n} f l z =
      rw (is_operator_lem b i C one two (values b i stop h), few b i stop h (operate (operator_of c)) (spare_at b i) (sym e ∙ z), ← f)
      (ap Ok (sym (bytes_back (kind_of (operator_of (byte_of b i 1))) n l)))

  pub with_operands : {t : ℕ} {o : Operator} {x y r : Word} → (second ≡ stop → ⊥) → second ≤ stop → t ≡ span_in b second (stop - second)
      → x ≡ in_bytes (worth g (expr_at b (i + 1) (exprs_in b (forest b (i + 1 + 1) (second - (i + 1) - 1)))))
      → y ≡ in_bytes (worth g (expr_at b second (exprs_in b (forest b (second + 1) (second + t - second - 1)))))
      → o ≡ operator_of c → r ≡ operated_of o x y → r ≡ in_bytes (worth g (expr_at b i (values b i stop h)))
  unfolding worth
  with_operands z l s p q u d =
      d ∙ rw (p, q, u, is_operator_lem b i C one two (values b i stop h), two_values_lem b i stop h e (omega (arith, z, l)) s (operate (operator_of c)) (spare_at b i))
      (operated_is (operator_of c) (worth g (first_one b i stop h e (omega (arith, z, l)) s)) (worth g (second_one b i stop h e (omega (arith, z, l)) s)))

-- the type of a value comes from its record alone
module _ (b : List ℕ) (i : ℕ) {c : ℕ} (C : c ≡ byte_of b i 1) (es : List Expr) where
  pub literal_type_lem : {r : ℕ} → c ≡ 1 → r ≡ byte_of b i 5 → r ≡ type_of (expr_at b i es)
  unfolding expr_at
  literal_type_lem e f = rw (← C, e) f

  pub attribute_type : {k : ℕ} → c ≡ 2 → k ≡ key_at b i → k / 65536 % 256 ≡ type_of (expr_at b i es)
  unfolding expr_at key_by
  attribute_type e f = rw (← C, e, f) refl

  pub operator_type_lem : {o : Operator} {r : ℕ} → (c ≡ 1 → ⊥) → (c ≡ 2 → ⊥) → o ≡ operator_of c → r ≡ kind_of o → r ≡ type_of (expr_at b i es)
  operator_type_lem one two u h = h ∙ rw (u, is_operator_lem b i C one two es) (go es)
    where
      go : (es : List Expr) → kind_of (operator_of c) ≡ type_of (of_two (operate (operator_of c)) (spare_at b i) es)
      go [] = rw C refl
      go (x ∷ []) = rw C refl
      go (x ∷ y ∷ es) = refl

pub operator_below : (o : Operator) {r : ℕ} → r ≡ kind_of o → r < 256
operator_below Add e = omega arith
operator_below Subtract e = omega arith
operator_below Multiply e = omega arith
operator_below Divide e = omega arith
operator_below Remainder e = omega arith
operator_below DoubleAdd e = omega arith

-- a comparison of two values
pub compared_is : (g : Bags) (b : List ℕ) (i stop : ℕ) (h : i < stop) {c second t k : ℕ} {f : Function} {x y : Word} {r : Truth}
    → second ≡ second_in b i stop → second < stop → c ≡ byte_of b i 1 → f ≡ function_of (c - 20) → t ≡ span_in b second (stop - second)
    → x ≡ in_bytes (worth g (expr_at b (i + 1) (exprs_in b (forest b (i + 1 + 1) (second - (i + 1) - 1)))))
    → y ≡ in_bytes (worth g (expr_at b second (exprs_in b (forest b (second + 1) (second + t - second - 1)))))
    → ((es : List Expr) → k ≡ type_of (expr_at b (i + 1) es)) → r ≡ weighed_of f k x y
    → r ≡ condition_of g (weighs_at b i (exprs_in b (forest b (i + 1) (stop - i - 1))))
unfolding condition_of
compared_is g b i stop h {c} {second = second} {k = k} {f = f} e l C F s p q u d =
    let a : Expr = first_one b i stop h e l s in
    let z : Expr = second_one b i stop h e l s in
    d ∙ rw (p, q, u (exprs_in b (forest b (i + 1 + 1) (second - (i + 1) - 1))), F, C, two_values_lem b i stop h e l s (weighs (function_of (choice_at b i - 20))) (compares (comparison_at b i)))
    (weighed_is (function_of (choice_at b i - 20)) (type_of a) (worth g a) (worth g z))
