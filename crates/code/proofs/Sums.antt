-- Values of conditions: the code of a value puts its worth on the levels, or notes that it is lost, and leaves all else as it was. Assumes nothing.
use Rattle.std.specs.Prelude.{Err, Ok}
use Prim.Native.Nat.{ℕ, suc, ◌+◌, ◌≤◌, ◌<◌}
use mathlib.Core.Path.{◌≡◌, refl}
use mathlib.Core.Bool.{Bool, true}
use mathlib.Core.List.{List, [], ◌∷◌, ◌++◌, append_assoc}
use Rattle.sums.specs.Worth.{Worth}
use lib.ListN.{length}
use lib.Dec.{ltb}
use borrow.Author.Tests.{lt-ltb}
use native.Mathlib.Omega.{arith}
use Rattle.record.specs.Choose.{if}
use Rattle.value.specs.Value.{value_of}
use Rattle.value.specs.declared.Function.{Function}
use Rattle.sums.specs.declared.Operator.{Operator}
use Rattle.meaning.specs.Numbers.{key_by}
use Rattle.meaning.specs.Policy.{Expr, literal, attribute, operate}
use Rattle.meaning.specs.Meaning.{Bags, the_only, operated, worth, weighed}
use Rattle.meaning.specs.declared.Truth.{Truth}
use Rattle.meaning.specs.declared.Truth.TheVariants.{True, False, Unknown}
use Rattle.meaning.specs.declared.Verdict.{Verdict}
use Rattle.layout.specs.declared.Op.TheVariants.{All}
use Rattle.layout.specs.declared.Frame.{Frame}
use Rattle.layout.specs.Entry.{works, tests, Entry, sum}
use Rattle.moves.specs.Core.{level, word_of, mark_of, since, worked, tested, core}
use Rattle.layout.specs.Room.{room_l}
use Rattle.code.specs.Code.{code_expr}
use Rattle.code.specs.Nesting.{nest_expr}
use Rattle.code.proofs.Lists.{State, at, step}
use Rattle.code.proofs.Goes.{Goes, stay, move, goes_on}

-- a worth on top of the levels
abbrev pub holding : Worth → List Entry → List Frame → List ℕ → Verdict → Truth → Truth → List ℕ → List ℕ → State
holding w es fs ls r o t ps ds = at es fs (word_of w ∷ ls) r (mark_of w) o t ps ds

-- an operator finds what its operands left: first with mark a, second since then
operates : (a : Truth) (o : Operator) (x y : Worth)
    → since (mark_of (since (mark_of (since a x)) y)) (worked o (word_of (since a x)) (word_of (since (mark_of (since a x)) y))) ≡ since a (operated o x y)
operates True o (Ok x) (Ok y) = refl
operates True o (Ok x) (Err s) = refl
operates True o (Err s) y = refl
operates False o (Ok x) (Ok y) = refl
operates False o (Ok x) (Err s) = refl
operates False o (Err s) y = refl
operates (Unknown s) o x y = refl

weighing : (f : Function) (k : ℕ) (x y : Worth)
    → tested (mark_of (since (mark_of x) y)) f k (word_of x) (word_of (since (mark_of x) y)) ≡ weighed f k x y
weighing f k (Ok x) (Ok y) = refl
weighing f k (Ok x) (Err s) = refl
weighing f k (Err s) y = refl

module _ (g : Bags) (fs : List Frame) (r : Verdict) (o t : Truth) (ps ds : List ℕ) where
  -- there is room for one more
  pushed : (w : Worth) (post : List Entry) (ls : List ℕ) → length ls < room_l
      → Goes g (at post fs (if (ltb (length ls) room_l) (word_of w ∷ ls) ls) r (mark_of w) o t ps ds) (holding w post fs ls r o t ps ds)
  pushed w post ls l = go (ltb (length ls) room_l) (lt-ltb (length ls) room_l l)
    where
      go : (b : Bool) → b ≡ true → Goes g (at post fs (if b (word_of w ∷ ls) ls) r (mark_of w) o t ps ds) (holding w post fs ls r o t ps ds)
      go b e = rw e stay

  -- the code of a value
  pub sim_expr : (e : Expr) (a : Truth) (post : List Entry) (ls : List ℕ) → nest_expr e + length ls ≤ room_l
      → Goes g (at (code_expr e ++ post) fs ls r a o t ps ds) (holding (since a (worth g e)) post fs ls r o t ps ds)
  unfolding code_expr worth nest_expr step core
  sim_expr (literal k n) a post ls d = move (pushed (since a (Ok (value_of k n))) post ls (omega (arith, d)))
  sim_expr (attribute key) a post ls d = move (pushed (since a (the_only (g (key_by key)))) post ls (omega (arith, d)))
  sim_expr (operate p x y) a post ls d =
      rw (append_assoc (code_expr x) (code_expr y ++ (sum (works p) ∷ [])) post, append_assoc (code_expr y) (sum (works p) ∷ []) post)
      (goes_on (sim_expr x a (code_expr y ++ (sum (works p) ∷ post)) ls (omega (arith, d)))
      (goes_on (sim_expr y (mark_of (since a (worth g x))) (sum (works p) ∷ post) (word_of (since a (worth g x)) ∷ ls) (omega (arith, d)))
      (move (worked_out (operates a p (worth g x) (worth g y))))))
    where
      worked_out : {v w : Worth} → v ≡ w → Goes g (holding v post fs ls r o t ps ds) (holding w post fs ls r o t ps ds)
      worked_out e = rw e stay

-- two values and their comparison: a level of a condition that has its value stands on top
pub sim_two : (f : Function) (k : ℕ) (x y : Expr) (g : Bags) (post : List Entry) (fs : List Frame) (ls : List ℕ) (r : Verdict) (ps ds : List ℕ)
    → nest_expr x + length ls ≤ room_l → suc (nest_expr y) + length ls ≤ room_l
    → Goes g (at (code_expr x ++ (code_expr y ++ (sum (tests f k) ∷ post))) fs ls r True False True ps ds)
    (at post fs (level All (weighed f k (worth g x) (worth g y)) ∷ ls) r True False True ps ds)
unfolding step core
sim_two f k x y g post fs ls r ps ds d e =
    goes_on (sim_expr g fs r False True ps ds x True (code_expr y ++ (sum (tests f k) ∷ post)) ls d)
    (goes_on (sim_expr g fs r False True ps ds y (mark_of (worth g x)) (sum (tests f k) ∷ post) (word_of (worth g x) ∷ ls) (omega (arith, e)))
    (move (tested_out (weighing f k (worth g x) (worth g y)))))
  where
    tested_out : {v w : Truth} → v ≡ w → Goes g (at post fs (level All v ∷ ls) r True False True ps ds) (at post fs (level All w ∷ ls) r True False True ps ds)
    tested_out e = rw e stay
