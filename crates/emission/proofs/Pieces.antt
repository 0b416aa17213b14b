-- Values of conditions: their entries from the numbers that were written, and what their code is made of. Assumes nothing.
use Prim.Native.Nat.{ℕ, ◌+◌, ◌-◌, ◌*◌, ◌≤◌, ◌<◌}
use mathlib.Core.Path.{◌≡◌, refl, sym, ◌∙◌}
use mathlib.Core.List.{List, [], ◌∷◌, ◌++◌, append_assoc}
use native.Mathlib.Omega.{arith}
use borrow.Author.Tests.{ne_eqb, lt-ltb}
use Rattle.record.specs.Bytes.{size, byte_of, big_of}
use Rattle.record.specs.Forest.{span_in}
use Rattle.value.specs.Value.{function_of}
use Rattle.value.specs.declared.Function.{Function}
use Rattle.sums.specs.declared.Operator.{Operator}
use Rattle.meaning.specs.Policy.{Expr, literal, operate, weighs, compares}
use Rattle.meaning.specs.Meaning.{type_of}
use Rattle.meaning.specs.Reading.{key_at, comparison_at, operator_of, spare_at, of_two, expr_at, exprs_in, condition_at}
use Rattle.layout.specs.Entry.{loads, asks, works, tests, further, compare, close, sum}
use Rattle.layout.specs.Layout.{function_code, operator_code, piece_words, words_of}
use Rattle.code.specs.Code.{code_expr, code_condition}
use Rattle.weigh.specs.Two.{second_in}
use Rattle.weigh.proofs.Laws.{few, two_values_lem, is_operator_lem}
use Rattle.emission.specs.Emit.{Wrote, Emitted, below, expr_code, operands_code, condition_code}
use Rattle.emission.proofs.Emit.{Splits, Three, wrote_both, entry}

-- pieces, from the numbers that were written
module _ {end start : ℕ} {o o₁ : List ℕ} where
  pub asked : {k key : ℕ} → k ≡ key → Wrote ((12 + 16 * (1 + 4 * k)) ∷ []) end o o₁ start → Emitted (sum (asks key) ∷ []) end o o₁ start
  unfolding words_of piece_words
  asked {key = key} e f = entry (sum (asks key)) (rw e refl) refl f

  pub worked : {k : ℕ} {op by : Operator} → op ≡ by → k ≡ operator_code op → Wrote ((12 + 16 * (2 + 4 * k)) ∷ []) end o o₁ start → Emitted (sum (works by) ∷ []) end o o₁ start
  unfolding words_of piece_words
  worked {by = by} e g f = entry (sum (works by)) (rw (g, e) refl) refl f

  pub tested : (kind : ℕ) {k : ℕ} {g by : Function} → g ≡ by → k ≡ function_code g → Wrote ((12 + 16 * (3 + 4 * (k + 8 * kind))) ∷ []) end o o₁ start
      → Emitted (sum (tests by kind) ∷ []) end o o₁ start
  unfolding words_of piece_words
  tested kind {by = by} e g f = entry (sum (tests by kind)) (rw (g, e) refl) refl f

pub loaded : (kind : ℕ) {n v end mid start : ℕ} {o o₁ o₂ : List ℕ} → v ≡ n → Wrote (v ∷ []) end o o₁ mid → Wrote ((12 + 16 * (0 + 4 * kind)) ∷ []) mid o₁ o₂ start
    → Emitted (sum (loads kind n) ∷ further ∷ []) end o o₂ start
unfolding words_of piece_words
loaded kind {n} e f g =
    let z : 12 + 16 * (4 * kind) ≡ 12 + 16 * (0 + 4 * kind) = omega arith in
    entry (sum (loads kind n)) (rw (z, e) refl) refl (wrote_both f g)

-- an operator and a comparison: the code of both operands, then what is done with them
operator_code_lem : (op : Operator) (x y : Expr) → code_expr (operate op x y) ≡ (code_expr x ++ code_expr y) ++ (sum (works op) ∷ [])
unfolding code_expr
operator_code_lem op x y = sym (append_assoc (code_expr x) (code_expr y) (sum (works op) ∷ []))

weighing_code : (f : Function) (x y : Expr) (n : ℕ) → code_condition (weighs f x y) n ≡ (code_expr x ++ code_expr y) ++ (sum (tests f (type_of x)) ∷ close n ∷ [])
unfolding code_condition
weighing_code f x y n = sym (append_assoc (code_expr x) (code_expr y) (sum (tests f (type_of x)) ∷ close n ∷ []))

-- where a record has two operands, the second begins before the record's end
pub before_stop : {second stop : ℕ} → second ≤ stop → (second ≡ stop → ⊥) → second < stop
before_stop l e = omega (arith, l, e)

-- the operands of record i, which ends at `stop`
pub operands_parts : (b : List ℕ) (i stop : ℕ) (h : i < stop) {second t : ℕ} → second ≡ second_in b i stop → second < stop → t ≡ span_in b second (stop - second)
    → Splits (operands_code b i (stop - i)) (expr_code b (i + 1) (second - (i + 1))) (expr_code b second (second + t - second))
unfolding operands_code expr_code
operands_parts b i stop h e l s = record { joined = two_values_lem b i stop h e l s (λ (x y : Expr). code_expr x ++ code_expr y) [] }

-- the value at record i, by its choice
module _ (b : List ℕ) (i : ℕ) {c : ℕ} (C : c ≡ byte_of b i 1) where
  pub expr_attribute : (s : ℕ) → c ≡ 2 → expr_code b i s ≡ sum (asks (key_at b i)) ∷ []
  unfolding expr_code expr_at code_expr
  expr_attribute s e = rw (← C, e) refl

  -- a literal is of the type that its record says
  as_literal : (kind : ℕ) (es : List Expr) {m : ℕ} → kind ≡ type_of (expr_at b i es) → expr_at b i es ≡ literal m (big_of b (i * size + 8) 8)
      → code_expr (expr_at b i es) ≡ sum (loads kind (big_of b (i * size + 8) 8)) ∷ further ∷ []
  unfolding code_expr
  as_literal kind es t e = let k = rw e at t in rw (e, k) refl

  module _ (kind : ℕ) (t : (es : List Expr) → kind ≡ type_of (expr_at b i es)) where
    pub expr_literal : (s : ℕ) → c ≡ 1 → expr_code b i s ≡ sum (loads kind (big_of b (i * size + 8) 8)) ∷ further ∷ []
    unfolding expr_code expr_at
    expr_literal s e =
        let es : List Expr = exprs_in b (below b i s) in
        as_literal kind es {m = byte_of b i 5} (t es) (rw (← C, e) refl)

    pub expr_spare : (stop : ℕ) → i < stop → (c ≡ 1 → ⊥) → (c ≡ 2 → ⊥) → second_in b i stop ≡ stop
        → expr_code b i (stop - i) ≡ sum (loads kind (big_of b (i * size + 8) 8)) ∷ further ∷ []
    unfolding expr_code
    expr_spare stop h one two e =
        let es : List Expr = exprs_in b (below b i (stop - i)) in
        as_literal kind es (t es) (is_operator_lem b i C one two es ∙ few b i stop h (operate (operator_of c)) (spare_at b i) e)

  pub expr_parts : (stop : ℕ) → i < stop → (c ≡ 1 → ⊥) → (c ≡ 2 → ⊥) → {second : ℕ} → second ≡ second_in b i stop → second < stop
      → Splits (expr_code b i (stop - i)) (operands_code b i (stop - i)) (sum (works (operator_of c)) ∷ [])
  unfolding expr_code operands_code
  expr_parts stop h one two e l = record {
    joined =
        rw (
          is_operator_lem b i C one two (exprs_in b (below b i (stop - i))),
          two_values_lem b i stop h e l refl (operate (operator_of c)) (spare_at b i),
          two_values_lem b i stop h e l refl (λ (x y : Expr). code_expr x ++ code_expr y) [],
        )
        (operator_code_lem (operator_of c) _ _);
  }

-- the comparison at record i, by a choice above 20
module _ (b : List ℕ) (i stop n : ℕ) (h : i < stop) {c : ℕ} (C : c ≡ byte_of b i 1) (high : 20 < c) where
  is_weighing_lem : condition_code b i (stop - i) n
      ≡ code_condition (of_two (weighs (function_of (c - 20))) (compares (comparison_at b i)) (exprs_in b (below b i (stop - i)))) n
  unfolding condition_code condition_at
  is_weighing_lem = rw (← C, ne_eqb c 1 (λ z. omega (arith, high, z)), ne_eqb c 2 (λ z. omega (arith, high, z)), ne_eqb c 3 (λ z. omega (arith, high, z)), lt-ltb 20 c high) refl

  pub weighing_few : second_in b i stop ≡ stop → condition_code b i (stop - i) n ≡ compare (comparison_at b i) n ∷ further ∷ further ∷ []
  unfolding code_condition
  weighing_few e = is_weighing_lem ∙ rw (few b i stop h (weighs (function_of (c - 20))) (compares (comparison_at b i)) e) refl

  pub weighing_two : {second kind : ℕ} → second ≡ second_in b i stop → second < stop → ((es : List Expr) → kind ≡ type_of (expr_at b (i + 1) es))
      → Three (condition_code b i (stop - i) n) (operands_code b i (stop - i)) (sum (tests (function_of (c - 20)) kind) ∷ []) (close n ∷ [])
  unfolding operands_code
  weighing_two {second} e l t = record {
    joined =
        is_weighing_lem
        ∙ rw (
          two_values_lem b i stop h e l refl (weighs (function_of (c - 20))) (compares (comparison_at b i)),
          two_values_lem b i stop h e l refl (λ (x y : Expr). code_expr x ++ code_expr y) [],
          t (exprs_in b (below b (i + 1) (second - (i + 1)))),
        )
        (weighing_code (function_of (c - 20)) _ _ n);
  }
