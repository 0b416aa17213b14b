-- The loops over rows of records, from the last to the first: what each has written, and one turn of each. Assumes nothing.
use Prim.Native.Nat.{ℕ, zero, suc, ◌+◌, ◌-◌, ◌*◌, ◌/◌, ◌≤◌, ◌<◌}
use mathlib.Core.Path.{◌≡◌, refl, sym, ap, ◌∙◌}
use mathlib.Core.Bool.{Bool, true, false}
use mathlib.Core.List.{List, [], ◌∷◌, ◌++◌, append-nil}
use lib.Dec.{eqb}
use mir.Val.{bool_byte}
use lib.ListN.{length, replicate}
use lib.Seq.{length-sets}
use mathlib.Core.Logic.{∥∥₁_elim}
use native.Mathlib.Bridge.{le_prop}
use native.Mathlib.Omega.{arith}
use borrow.Author.Tests.{eq-eqb, ne_eqb, eqb-true, eqb-false}
use Rattle.record.specs.Bytes.{size, byte_of, big_of}
use Rattle.record.specs.Forest.{Forest, none, node, span_in, forest}
use Rattle.record.proofs.Forests.{forest_none, forest_step}
use Rattle.meaning.specs.Meaning.{over_policies, is_only}
use Rattle.meaning.specs.Reading.{match_at, comparison_at, row_of, children_at, conjunction_at, section_at, conditions_in, effect_of, rules_in, obligations_in, trees_in, policies_by, is_kind, is_party, choice_at, book_of}
use Rattle.record.specs.Choose.{if}
use Rattle.meaning.specs.declared.Effect.{Effect}
use Rattle.meaning.specs.declared.Effect.TheVariants.{Permits, Denies}
use Rattle.layout.specs.Entry.{Entry, begin, match, further, opens, compare, close, rule, conclude, oblige, finish}
use Rattle.layout.specs.declared.Op.TheVariants.{Not}
use Rattle.layout.specs.Layout.{effect_code}
use Rattle.code.specs.Code.{code_conjunction, code_section, code_condition, code_rules, code_obligations, code_tree, code_applies, in_numbers, translated}
use Rattle.emission.specs.Emit.{Emitted, matches_in, matches_code, conjunction_code, conjunctions_in, conjunctions_code, section_code, target_code, condition_code, conditions_code, when_code, rule_code, rules_code, obligations_code, tree_code, trees_code, algorithm_at, body_code, within_code, due_in, in_rest}
use Rattle.record.specs.Siblings.{Passes}
use Rattle.record.specs.declared.siblings.Siblings.{Siblings}
use Rattle.elders.specs.Links.{Piece, Before, begun, ended, Taken, First}
use Rattle.elders.specs.declared.Node.{Node}
use Rattle.elders.specs.declared.Row.{Row}
use Rattle.elders.specs.declared.Rest.{Rest}
use Rattle.elders.proofs.Links.{first_in, forest_next}
use Rattle.emission.proofs.Emit.{Splits, Three, follows, behind, behind_fits, before_fits, as_is, nothing, differs, is_kind_lem, no_kind, op_at, target_more, target_other, condition_bare, condition_not, condition_parts, conditions_none, when_none, when_found, when_other, rule_parts, rules_none, obligations_none, body_parts, body_set, body_policy, within_parts, trees_none, due_none, due_own, due_else, due_flat, due_party, due_other, programme_parts}

-- nothing is in a forest
abbrev pub empty : Forest → Bool
empty none = true
empty (node i kids rest) = false

empty_at : (b : List ℕ) (next stop : ℕ) → next ≤ stop → empty (forest b next (stop - next)) ≡ eqb next stop
empty_at b next stop h = go (stop - next) refl
  where
    go : (left : ℕ) → stop - next ≡ left → empty (forest b next (stop - next)) ≡ eqb next stop
    go zero e = rw (forest_none b next (stop - next) (omega (arith, e)), eq-eqb next stop (omega (arith, e, h))) refl
    go (suc left) e = rw (forest_step b next (stop - next) (omega (arith, e)), ne_eqb next stop (λ z. omega (arith, e, z))) refl

-- how many records stand below record i
pub kids_left : (i stop : ℕ) → stop - i - 1 ≡ stop - (i + 1)
kids_left i stop = omega arith

-- a row from the record that is walked next on
row_is : {b t : List ℕ} {i stop next at : ℕ} → Piece b t i stop next at → forest b at (stop - at) ≡ node at (forest b (at + 1) (next - at - 1)) (forest b next (stop - next))
row_is {b} {stop = stop} {next = next} {at = at} p = forest_next b at next stop p.upto p.inside p.spans

-- a record's code comes in front, or it has none
longer : {code xs rest : List Entry} (b : Bool) → (b ≡ true → Splits code xs rest) → (b ≡ false → code ≡ rest) → length rest ≤ length code
longer {code} true more same = behind_fits (length code) (more refl) (omega arith)
longer {rest = rest} false more same = rw (same refl) (omega arith)

-- a code that only grows from the last record to the first
module _ {b t : List ℕ} {i stop : ℕ} (code : ℕ → List Entry) (grows : (next at : ℕ) → Piece b t i stop next at → length (code next) ≤ length (code at)) where
  along : {next at : ℕ} → Before b t i stop next at → length (code next) ≤ length (code i)
  along (begun at) = omega arith
  along (ended next at p q) = let h = along q in let k = grows next at p in omega (arith, h, k)

  pub along_row : {next at : ℕ} → ∥ Before b t i stop next at ∥₁ → length (code next) ≤ length (code i)
  along_row w = ∥∥₁_elim w le_prop (λ q. along q)

pub emitted_long : {code : List Entry} {end start : ℕ} {o o₁ : List ℕ} → Emitted code end o o₁ start → length o₁ ≡ length o
emitted_long {code} {end} {start} {o} f = ap (λ (l : List ℕ). length l) f.wrote ∙ length-sets o start (in_numbers code)

-- a loop over the children of a record that has written the code of those behind the ones that are left
pub record Going (parent : Node) (row : Row) (code : List Entry) (end : ℕ) (o o₁ : List ℕ) (start : ℕ) : Type 0 where
  pub same : row.parent ≡ parent
  pub done : Emitted code end o o₁ start
  pub long : length o₁ ≡ length o

-- a child that was taken, which ends at `next`
abbrev pub Child : Node → ℕ → ℕ → List ℕ → List ℕ → ℕ → ℕ → Type 0
Child parent next at book elders place stops = Taken parent.book.now parent.elders.now (parent.at + 1) parent.stop next at book elders place stops

-- the loop over any code of a row
pub go_begin : {parent : Node} {row : Row} (code : ℕ → List Entry) (end : ℕ) (o : List ℕ) → code parent.stop ≡ [] → (row.parent ≡ parent) × (row.next ≡ parent.stop)
    → Going parent row (code row.next) end o o end
go_begin code end o z e = record { same = e.0; done = nothing (rw e.1 z); long = refl }

module _ {parent : Node} {row : Row} (code : ℕ → List Entry) {end start : ℕ} {o o₁ : List ℕ} (g : Going parent row (code row.next) end o o₁ start) where
  pub go_end : row.next ≤ row.parent.at + 1 → Emitted (code (parent.at + 1)) end o o₁ start
  go_end h =
      let k = first_in row.walked in
      let e : row.next ≡ row.parent.at + 1 = omega (arith, h, k) in
      let f : row.next ≡ parent.at + 1 = rw g.same at e in
      rw f at g.done

  module _ {at place stops : ℕ} {book elders : List ℕ} (p : Child row.parent row.next at book elders place stops) where
    kid : Child parent row.next at book elders place stops
    kid = rw g.same at p

    -- a record with code: what it puts in front of what is behind it
    abbrev Prepends : List Entry → Type 0
    Prepends xs = Child parent row.next at book elders place stops → end - start ≡ length (code row.next) → Splits (code at) xs (code row.next)

    pub go_room : {xs : List Entry} → ((n a : ℕ) → Piece parent.book.now parent.elders.now (parent.at + 1) parent.stop n a → length (code n) ≤ length (code a))
        → length (code (parent.at + 1)) ≤ end → Prepends xs → length xs ≤ start
    go_room s r z =
        let k = along_row code s kid.rest in
        before_fits (z kid (behind g.done)) (omega (arith, k, r)) g.done

    module _ {row₁ : Row} (e : row₁.parent ≡ row.parent) where
      pub go_again : {xs : List Entry} {start₂ : ℕ} {o₂ : List ℕ} → Prepends xs → Emitted xs start o₁ o₂ start₂ → Going parent row₁ (code at) end o o₂ start₂
      go_again s w = record { same = e ∙ g.same; done = follows (s kid (behind g.done)) g.done w; long = emitted_long w ∙ g.long }

      -- a record that has no code
      pub go_skip : (Child parent row.next at book elders place stops → code at ≡ code row.next) → Going parent row₁ (code at) end o o₁ start
      go_skip s = record { same = e ∙ g.same; done = rw (s kid) g.done; long = g.long }

-- matches
match_before : (b : List ℕ) (at : ℕ) (kids rest : Forest) (c l : Bool) (n x k : ℕ) → k ≡ length (matches_in b rest c l n x)
    → matches_in b (node at kids rest) c l n x ≡ match (match_at b at) (empty rest) c l k (k + n) (k + x) ∷ further ∷ further ∷ matches_in b rest c l n x
unfolding matches_in code_conjunction row_of
match_before b at kids none c l n x k e =
    let f : k + n ≡ n = omega (arith, e) in
    let g : k + x ≡ x = omega (arith, e) in
    rw (f, g, e) refl
match_before b at kids (node j below rest) c l n x k e = rw e refl

module _ (b : List ℕ) (stop : ℕ) (c l : Bool) (n x : ℕ) where
  abbrev pub matches_to : ℕ → List Entry
  matches_to i = matches_code b i (stop - i) c l n x

  pub matches_stop : matches_to stop ≡ []
  unfolding matches_in
  matches_stop = rw (forest_none b stop (stop - stop) (omega arith)) refl

  module _ {t : List ℕ} {i : ℕ} where
    matches_step : {next at : ℕ} → Piece b t i stop next at → (k : ℕ) (m : Bool) → k ≡ length (matches_to next) → m ≡ eqb next stop
        → Splits (matches_to at) (match (match_at b at) m c l k (k + n) (k + x) ∷ further ∷ further ∷ []) (matches_to next)
    matches_step {next} {at} p k m e f =
        record { joined = rw (f, row_is p, match_before b at (forest b (at + 1) (next - at - 1)) (forest b next (stop - next)) c l n x k e, empty_at b next stop p.inside) refl }

    pub matches_turn : {next at place stops : ℕ} {book elders : List ℕ} → Taken b t i stop next at book elders place stops → (k : ℕ) → k ≡ length (matches_to next)
        → Splits (matches_to at) (match (match_at book place) (eqb stops stop) c l k (k + n) (k + x) ∷ further ∷ further ∷ []) (matches_to next)
    matches_turn p k e = rw (p.same_book, p.same_place, p.same_end) (matches_step p.piece k _ e refl)

    pub matches_grow : (next at : ℕ) → Piece b t i stop next at → length (matches_to next) ≤ length (matches_to at)
    matches_grow next at p = behind_fits (length (matches_to at)) (matches_step p (length (matches_to next)) (eqb next stop) refl refl) (omega arith)

-- conjunctions
module _ (b : List ℕ) (i stop : ℕ) (c l : Bool) (n x : ℕ) where
  pub conjunction_one : i + 1 ≡ stop → conjunction_code b i (stop - i) c l n x ≡ match (match_at b i) true c l 0 n x ∷ further ∷ further ∷ []
  unfolding conjunction_code conjunction_at children_at code_conjunction
  conjunction_one e = rw (forest_none b (i + 1) (stop - i - 1) (omega (arith, e))) refl

  pub conjunction_more : i < stop → (i + 1 ≡ stop → ⊥) → conjunction_code b i (stop - i) c l n x ≡ matches_code b (i + 1) (stop - (i + 1)) c l n x
  unfolding conjunction_code conjunction_at children_at matches_in
  conjunction_more h f =
      rw (kids_left i stop, forest_step b (i + 1) (stop - (i + 1)) (omega (arith, h, f))) refl

conjunction_before : (b : List ℕ) (at : ℕ) (kids rest : Forest) (l : Bool) (x k : ℕ) → k ≡ length (conjunctions_in b rest l x)
    → conjunctions_in b (node at kids rest) l x ≡ code_conjunction (conjunction_at b at kids) (empty rest) l k (k + x) ++ conjunctions_in b rest l x
unfolding conjunctions_in code_section row_of
conjunction_before b at kids none l x k e =
    let g : k + x ≡ x = omega (arith, e) in
    rw (g, e) (sym (append-nil _))
conjunction_before b at kids (node j below rest) l x k e = rw e refl

module _ (b : List ℕ) (stop : ℕ) (l : Bool) (x : ℕ) where
  abbrev pub conjunctions_to : ℕ → List Entry
  conjunctions_to i = conjunctions_code b i (stop - i) l x

  pub conjunctions_stop : conjunctions_to stop ≡ []
  unfolding conjunctions_in
  conjunctions_stop = rw (forest_none b stop (stop - stop) (omega arith)) refl

  module _ {t : List ℕ} {i : ℕ} where
    conjunctions_step : {next at : ℕ} → Piece b t i stop next at → (k : ℕ) (m : Bool) → k ≡ length (conjunctions_to next) → m ≡ eqb next stop
        → Splits (conjunctions_to at) (conjunction_code b at (next - at) m l k (k + x)) (conjunctions_to next)
    unfolding conjunction_code
    conjunctions_step {next} {at} p k m e f =
        record { joined = rw (f, row_is p, conjunction_before b at (forest b (at + 1) (next - at - 1)) (forest b next (stop - next)) l x k e, empty_at b next stop p.inside) refl }

    pub conjunctions_turn : {next at place stops : ℕ} {book elders : List ℕ} → Taken b t i stop next at book elders place stops → (k : ℕ) → k ≡ length (conjunctions_to next)
        → Splits (conjunctions_to at) (conjunction_code book place (stops - place) (eqb stops stop) l k (k + x)) (conjunctions_to next)
    conjunctions_turn p k e = rw (p.same_book, p.same_place, p.same_end) (conjunctions_step p.piece k _ e refl)

    pub conjunctions_grow : (next at : ℕ) → Piece b t i stop next at → length (conjunctions_to next) ≤ length (conjunctions_to at)
    conjunctions_grow next at p = behind_fits (length (conjunctions_to at)) (conjunctions_step p (length (conjunctions_to next)) (eqb next stop) refl refl) (omega arith)

-- sections and targets
module _ (b : List ℕ) (i stop : ℕ) (l : Bool) (x : ℕ) where
  pub section_one : i + 1 ≡ stop → section_code b i (stop - i) l x ≡ match (match_at b i) true true l 0 0 x ∷ further ∷ further ∷ []
  unfolding section_code section_at conjunction_at children_at code_section code_conjunction
  section_one e = rw (forest_none b (i + 1) (stop - i - 1) (omega (arith, e))) refl

  pub section_more : i < stop → (i + 1 ≡ stop → ⊥) → section_code b i (stop - i) l x ≡ conjunctions_code b (i + 1) (stop - (i + 1)) l x
  unfolding section_code section_at children_at conjunctions_in
  section_more h f =
      rw (kids_left i stop, forest_step b (i + 1) (stop - (i + 1)) (omega (arith, h, f))) refl

module _ {b t : List ℕ} {i stop place ends : ℕ} {book elders book₁ elders₁ : List ℕ} {from upto : ℕ} (p : First b t i stop book elders place ends book₁ elders₁ from upto) where
  -- what is left of a row, by the span of its first
  left_is : {A : Type 0} (f : List ℕ → ℕ → ℕ → A) → f b (i + span_in b i (stop - i)) (stop - i - span_in b i (stop - i)) ≡ f book₁ from (upto - from)
  left_is f =
      let s : ℕ = span_in b i (stop - i) in
      let g : stop - i - s ≡ stop - (i + s) = omega arith in
      rw (p.on_book, p.on_from, p.on_upto, p.spans, g) refl

  -- and what is below that first, with it
  first_is : {A : Type 0} (f : List ℕ → ℕ → ℕ → A) → f b i (span_in b i (stop - i)) ≡ f book place (ends - place)
  first_is f =
      let s : ℕ = span_in b i (stop - i) in
      let g : i + s - i ≡ s = omega arith in
      rw (p.same_book, p.same_place, p.spans, g) refl

  first_byte : (k : ℕ) → byte_of book place k ≡ byte_of b i k
  first_byte k = rw (p.same_book, p.same_place) refl

  rows_left : 0 < stop - i
  rows_left = omega (arith, p.some)

  pub target_next : (x mid end : ℕ) → byte_of book place 0 ≡ 4 → mid + length (target_code book₁ from (upto - from) x) ≡ end
      → Splits (target_code b i (stop - i) x) (section_code book place (ends - place) (eqb mid end) (end - mid + x)) (target_code book₁ from (upto - from) x)
  target_next x mid end k f =
      let l = left_is (λ c j left. target_code c j left x) in
      let f₁ : mid + length (target_code b (i + span_in b i (stop - i)) (stop - i - span_in b i (stop - i)) x) ≡ end = rw l f in
      rw (← l, ← first_is (λ c j left. section_code c j left (eqb mid end) (end - mid + x)))
      (target_more b i (stop - i) (span_in b i (stop - i)) x mid end rows_left (sym (first_byte 0) ∙ k) refl f₁)

  pub target_rest : (x end : ℕ) → byte_of book place 0 ≡ 4 → length (target_code b i (stop - i) x) ≤ end → length (target_code book₁ from (upto - from) x) ≤ end
  target_rest x end k l = behind_fits end (target_next x 0 (length (target_code book₁ from (upto - from) x)) k (omega arith)) l

  pub target_past : (x : ℕ) → (byte_of book place 0 ≡ 4 → ⊥) → target_code b i (stop - i) x ≡ []
  target_past x k = target_other b i (stop - i) x rows_left (λ z. k (first_byte 0 ∙ z))

-- the first child of a record, and that it has none
module _ {b c t u : List ℕ} {i j stop end : ℕ} (e : (b ≡ c) × (t ≡ u) × (i ≡ j) × (stop ≡ end)) where
  pub first_child : {book elders book₁ elders₁ : List ℕ} {place ends from upto : ℕ} → First b t i stop book elders place ends book₁ elders₁ from upto
      → First c u j end book elders place ends book₁ elders₁ from upto
  first_child p = rw (e.0, e.1, e.2, e.3) at p

  pub no_child : stop ≤ i → end ≤ j
  no_child h = omega (arith, h, e.2, e.3)

-- conditions
abbrev pub conditions_to : List ℕ → ℕ → ℕ → List Entry
conditions_to b stop i = conditions_code b i (stop - i)

pub conditions_stop : (b : List ℕ) (stop : ℕ) → conditions_to b stop stop ≡ []
conditions_stop b stop = conditions_none b stop (stop - stop) (omega arith)

module _ (b : List ℕ) {t : List ℕ} {i stop : ℕ} where
  conditions_step : {next at : ℕ} → Piece b t i stop next at → (k : ℕ) → k ≡ length (conditions_to b stop next)
      → Splits (conditions_to b stop at) (condition_code b at (next - at) k) (conditions_to b stop next)
  unfolding conditions_code conditions_in condition_code code_condition
  conditions_step p k e = record { joined = rw (e, row_is p) refl }

  pub conditions_turn : {next at place stops : ℕ} {book elders : List ℕ} → Taken b t i stop next at book elders place stops → (k : ℕ) → k ≡ length (conditions_to b stop next)
      → Splits (conditions_to b stop at) (condition_code book place (stops - place) k) (conditions_to b stop next)
  conditions_turn p k e = rw (p.same_book, p.same_place, p.same_end) (conditions_step p.piece k e)

  pub conditions_grow : (next at : ℕ) → Piece b t i stop next at → length (conditions_to b stop next) ≤ length (conditions_to b stop at)
  conditions_grow next at p = behind_fits (length (conditions_to b stop at)) (conditions_step p (length (conditions_to b stop next)) refl) (omega arith)

-- the condition at record i, by where its parts end
module _ (b : List ℕ) (i stop n : ℕ) (h : i < stop) where
  pub cond_bare : byte_of b i 1 ≡ 3 → stop ≤ i + 1 → condition_code b i (stop - i) n ≡ compare (comparison_at b i) n ∷ further ∷ further ∷ []
  cond_bare e f = condition_bare b i (stop - i) n e (omega (arith, f, h))

  pub cond_not : {t : List ℕ} {place ends : ℕ} {book elders book₁ elders₁ : List ℕ} {from upto : ℕ} → byte_of b i 1 ≡ 3
      → First b t (i + 1) stop book elders place ends book₁ elders₁ from upto
      → Three (condition_code b i (stop - i) n) (opens Not ∷ []) (condition_code book place (ends - place) 0) (close n ∷ [])
  cond_not e p =
      let g : span_in b (i + 1) (stop - (i + 1)) ≡ span_in b (i + 1) (stop - i - 1) = rw (kids_left i stop) refl in
      rw (← first_is p (λ c j left. condition_code c j left 0)) (condition_not b i (stop - i) (span_in b (i + 1) (stop - (i + 1))) n (omega (arith, p.some)) e g)

  pub cond_parts : (byte_of b i 1 ≡ 0 → ⊥) → byte_of b i 1 ≤ 3 → (byte_of b i 1 ≡ 3 → ⊥)
      → Three (condition_code b i (stop - i) n) (opens (op_at (byte_of b i 1)) ∷ []) (conditions_code b (i + 1) (stop - (i + 1))) (close n ∷ [])
  cond_parts p q r = rw (kids_left i stop) at (condition_parts b i (stop - i) n p q r)

-- the condition of a rule
module _ {b t : List ℕ} {i stop place ends : ℕ} {book elders book₁ elders₁ : List ℕ} {from upto : ℕ} (p : First b t i stop book elders place ends book₁ elders₁ from upto) where
  when_skip : (byte_of book place 0 ≡ 7 → ⊥) → when_code b i (stop - i) ≡ when_code book₁ from (upto - from)
  when_skip k = when_other b i (stop - i) _ (rows_left p) refl (λ z. k (first_byte p 0 ∙ z)) ∙ left_is p when_code

  pub when_here : byte_of book place 0 ≡ 7 → when_code b i (stop - i) ≡ condition_code book place (ends - place) 0
  when_here k = when_found b i (stop - i) _ (rows_left p) refl (sym (first_byte p 0) ∙ k) ∙ first_is p (λ c j left. condition_code c j left 0)

pub when_stop : (b : List ℕ) (i stop : ℕ) → stop ≤ i → when_code b i (stop - i) ≡ []
when_stop b i stop h = when_none b i (stop - i) (omega (arith, h))

-- the condition of these siblings is sought among those that are left
pub record Seeking (code : List Entry) (row : Rest) (o o₁ : List ℕ) : Type 0 where
  pub same : code ≡ in_rest when_code row
  pub kept : o₁ ≡ o

module _ {code : List Entry} {row : Rest} {o o₁ : List ℕ} (g : Seeking code row o o₁) where
  pub seek_on : {row₁ : Rest} {place ends : ℕ} {book elders : List ℕ}
      → First row.book.now row.elders.now row.from row.stop book elders place ends row₁.book.now row₁.elders.now row₁.from row₁.stop → (byte_of book place 0 ≡ 7 → ⊥) → Seeking code row₁ o o₁
  seek_on p k = record { same = g.same ∙ when_skip p k; kept = g.kept }

  pub seek_found : {xs : List Entry} {end start : ℕ} {o₂ : List ℕ} → in_rest when_code row ≡ xs → Emitted xs end o₁ o₂ start → Emitted code end o o₂ start
  seek_found e f = rw (g.same, e, ← g.kept) f

-- what stands in the row of a record's children, by the walk from the first of them
pub of_children : {A : Type 0} (f : List ℕ → ℕ → ℕ → A) (i : ℕ) {b t b₁ t₁ : List ℕ} {stop from upto : ℕ} → (b₁ ≡ b) × (t₁ ≡ t) × (from ≡ i + 1) × (upto ≡ stop)
    → f b (i + 1) (stop - (i + 1)) ≡ f b₁ from (upto - from)
of_children f i e = rw (e.0, e.2, e.3) refl

pub target_children : (i x : ℕ) {b t b₁ t₁ : List ℕ} {stop from upto : ℕ} → (b₁ ≡ b) × (t₁ ≡ t) × (from ≡ i + 1) × (upto ≡ stop)
    → target_code b (i + 1) (stop - (i + 1)) x ≡ target_code b₁ from (upto - from) x
target_children i x e = of_children (λ b j left. target_code b j left x) i e

-- rules
pub rule_to : (b : List ℕ) (i stop n k : ℕ) → k ≡ length (when_code b (i + 1) (stop - (i + 1)))
    → Three (rule_code b i (stop - i) n) (target_code b (i + 1) (stop - (i + 1)) k) (when_code b (i + 1) (stop - (i + 1))) (rule (effect_of (byte_of b i 1)) n ∷ [])
rule_to b i stop n k e =
    let f = kids_left i stop in
    let e₁ : k ≡ length (when_code b (i + 1) (stop - i - 1)) = rw f e in
    rw f at (rule_parts b i (stop - i) n k e₁)

module _ (b : List ℕ) (stop : ℕ) where
  abbrev pub rules_to : ℕ → List Entry
  rules_to i = rules_code b i (stop - i)

  pub rules_stop : rules_to stop ≡ []
  rules_stop = rules_none b stop (stop - stop) (omega arith)

  module _ {t : List ℕ} {i next at : ℕ} (p : Piece b t i stop next at) where
    rules_step : (k : ℕ) → byte_of b at 0 ≡ 3 → k ≡ length (rules_to next) → Splits (rules_to at) (rule_code b at (next - at) k) (rules_to next)
    unfolding rules_code rules_in code_rules rule_code
    rules_step k m e = record { joined = rw (e, row_is p, is_kind_lem b at 3 m) refl }

    rules_pass : (byte_of b at 0 ≡ 3 → ⊥) → rules_to at ≡ rules_to next
    unfolding rules_code rules_in
    rules_pass m = rw (row_is p, no_kind b at 3 m) refl

  module _ {t : List ℕ} {i next at place stops : ℕ} {book elders : List ℕ} (p : Taken b t i stop next at book elders place stops) where
    pub rules_turn : (k : ℕ) → byte_of book place 0 ≡ 3 → k ≡ length (rules_to next) → Splits (rules_to at) (rule_code book place (stops - place) k) (rules_to next)
    rules_turn k m e = rw (p.same_book, p.same_place, p.same_end) (rules_step p.piece k (rw (p.same_book, p.same_place) at m) e)

    pub rules_skip : (byte_of book place 0 ≡ 3 → ⊥) → rules_to at ≡ rules_to next
    rules_skip m = rules_pass p.piece (rw (p.same_book, p.same_place) at m)

  pub rules_grow : {t : List ℕ} {i : ℕ} (next at : ℕ) → Piece b t i stop next at → length (rules_to next) ≤ length (rules_to at)
  rules_grow next at p = longer (eqb (byte_of b at 0) 3) (λ z. rules_step p _ (eqb-true _ 3 z) refl) (λ z. rules_pass p (eqb-false _ 3 z))

  -- obligations
  abbrev pub obligations_to : ℕ → List Entry
  obligations_to i = obligations_code b i (stop - i)

  pub obligations_stop : obligations_to stop ≡ []
  obligations_stop = obligations_none b stop (stop - stop) (omega arith)

  module _ {t : List ℕ} {i next at : ℕ} (p : Piece b t i stop next at) where
    obligations_step : byte_of b at 0 ≡ 8 → Splits (obligations_to at) (oblige (effect_of (byte_of b at 1)) (big_of b (at * size + 6) 2) ∷ []) (obligations_to next)
    unfolding obligations_code obligations_in code_obligations
    obligations_step m = record { joined = rw (row_is p, is_kind_lem b at 8 m) refl }

    obligations_pass : (byte_of b at 0 ≡ 8 → ⊥) → obligations_to at ≡ obligations_to next
    unfolding obligations_code obligations_in
    obligations_pass m = rw (row_is p, no_kind b at 8 m) refl

  module _ {t : List ℕ} {i next at place stops : ℕ} {book elders : List ℕ} (p : Taken b t i stop next at book elders place stops) where
    pub obligations_turn : byte_of book place 0 ≡ 8
        → Splits (obligations_to at) (oblige (effect_of (byte_of book place 1)) (big_of book (place * size + 6) 2) ∷ []) (obligations_to next)
    obligations_turn m = rw (p.same_book, p.same_place) (obligations_step p.piece (rw (p.same_book, p.same_place) at m))

    pub obligations_skip : (byte_of book place 0 ≡ 8 → ⊥) → obligations_to at ≡ obligations_to next
    obligations_skip m = obligations_pass p.piece (rw (p.same_book, p.same_place) at m)

  pub obligations_grow : {t : List ℕ} {i : ℕ} (next at : ℕ) → Piece b t i stop next at → length (obligations_to next) ≤ length (obligations_to at)
  obligations_grow next at p = longer (eqb (byte_of b at 0) 8) (λ z. obligations_step p (eqb-true _ 8 z)) (λ z. obligations_pass p (eqb-false _ 8 z))

-- policies and sets
module _ (b : List ℕ) (stop up : ℕ) where
  abbrev pub trees_to : ℕ → List Entry
  trees_to i = trees_code b i (stop - i) up

  pub trees_stop : trees_to stop ≡ []
  trees_stop = trees_none b stop (stop - stop) up (omega arith)

  module _ {t : List ℕ} {i next at : ℕ} (p : Piece b t i stop next at) where
    trees_step : (k : ℕ) → is_party b at ≡ true → k ≡ length (trees_to next) → Splits (trees_to at) (tree_code b at (next - at) up k) (trees_to next)
    unfolding trees_code trees_in code_tree tree_code
    trees_step k m e = record { joined = rw (e, row_is p, m) refl }

    trees_pass : is_party b at ≡ false → trees_to at ≡ trees_to next
    unfolding trees_code trees_in
    trees_pass m = rw (row_is p, m) refl

  module _ {t : List ℕ} {i next at place stops : ℕ} {book elders : List ℕ} (p : Taken b t i stop next at book elders place stops) where
    pub trees_turn : (k : ℕ) → is_party book place ≡ true → k ≡ length (trees_to next) → Splits (trees_to at) (tree_code book place (stops - place) up k) (trees_to next)
    trees_turn k m e = rw (p.same_book, p.same_place, p.same_end) (trees_step p.piece k (rw (p.same_book, p.same_place) at m) e)

    pub trees_skip : is_party book place ≡ false → trees_to at ≡ trees_to next
    trees_skip m = trees_pass p.piece (rw (p.same_book, p.same_place) at m)

  pub trees_grow : {t : List ℕ} {i : ℕ} (next at : ℕ) → Piece b t i stop next at → length (trees_to next) ≤ length (trees_to at)
  trees_grow next at p = longer (is_party b at) (λ z. trees_step p _ z refl) (λ z. trees_pass p z)

pub set_to : (b : List ℕ) (i stop k c : ℕ) → byte_of b i 0 ≡ 1 → c ≡ byte_of b i 1 → k ≡ length (obligations_code b (i + 1) (stop - (i + 1)))
    → Three (body_code b i (stop - i)) (trees_code b (i + 1) (stop - (i + 1)) c) (conclude k ∷ []) (obligations_code b (i + 1) (stop - (i + 1)))
set_to b i stop k c m d e =
    let f = kids_left i stop in
    let e₁ : k ≡ length (obligations_code b (i + 1) (stop - i - 1)) = rw f e in
    rw f at (body_set b i (stop - i) k c m d e₁)

pub policy_to : (b : List ℕ) (i stop k : ℕ) → (byte_of b i 0 ≡ 1 → ⊥) → k ≡ length (obligations_code b (i + 1) (stop - (i + 1)))
    → Three (body_code b i (stop - i)) (rules_code b (i + 1) (stop - (i + 1))) (conclude k ∷ []) (obligations_code b (i + 1) (stop - (i + 1)))
policy_to b i stop k m e =
    let f = kids_left i stop in
    let e₁ : k ≡ length (obligations_code b (i + 1) (stop - i - 1)) = rw f e in
    rw f at (body_policy b i (stop - i) k m e₁)

pub body_to : (b : List ℕ) (i stop k : ℕ) → k ≡ length (obligations_code b (i + 1) (stop - (i + 1)))
    → Three (body_code b i (stop - i)) (if (is_kind b i 1) (trees_code b (i + 1) (stop - (i + 1)) (choice_at b i)) (rules_code b (i + 1) (stop - (i + 1))))
    (conclude k ∷ []) (obligations_code b (i + 1) (stop - (i + 1)))
body_to b i stop k e =
    let f = kids_left i stop in
    let e₁ : k ≡ length (obligations_code b (i + 1) (stop - i - 1)) = rw f e in
    rw f at (body_parts b i (stop - i) k e₁)

pub within_to : (b : List ℕ) (i stop up n k j : ℕ) → k ≡ length (body_code b i (stop - i)) + suc n
    → j ≡ length (code_applies (is_only (over_policies (policies_by up))) k) + length (body_code b i (stop - i))
    → Three (within_code b i (stop - i) up n) (target_code b (i + 1) (stop - (i + 1)) j) (code_applies (is_only (over_policies (policies_by up))) k) (body_code b i (stop - i))
within_to b i stop up n k j e f =
    let g = kids_left i stop in
    rw g at (within_parts b i (stop - i) up n k j e f)

-- how many obligations are due, counted from the first record on, where a walk has the others left
pub record Counting (b : List ℕ) (i stop : ℕ) (e : Effect) (deep : Bool) (w : Siblings) (n : ℕ) : Type 0 where
  pub book : w.book.now ≡ b
  pub total : n + due_in b w.at w.left e deep ≡ due_in b i (stop - i) e deep
  pub few : i + n ≤ w.at
  pub upto : w.at + w.left ≡ stop

pub count_begin : {b : List ℕ} {i stop : ℕ} {e : Effect} {deep : Bool} {w v : Siblings} → v ≡ w → w.book.now ≡ b → w.at ≡ i → w.left ≡ stop - i → i ≤ stop → Counting b i stop e deep v 0
count_begin z x y l h = rw z (record { book = x; total = rw (y, l) (omega arith); few = omega (arith, y); upto = omega (arith, y, l, h) })

pub count_end : {b : List ℕ} {i stop : ℕ} {e : Effect} {deep : Bool} {w : Siblings} {n : ℕ} → Counting b i stop e deep w n → w.left ≡ 0 → (n ≡ due_in b i (stop - i) e deep) × (n ≤ stop - i)
count_end {b} {i} {stop} {e} {deep} {w} {n} g h =
    let z = due_none b w.at w.left e deep (omega (arith, h)) in
    (omega (arith, z, g.total), omega (arith, g.few, g.upto, h))

-- a turn, at record `at`, whose span is s
module _ {b : List ℕ} {i stop : ℕ} {e : Effect} {deep : Bool} {w w₁ : Siblings} {n at s : ℕ} (g : Counting b i stop e deep w n) (p : Passes w at s w₁) where
  some : 0 < w.left
  some = omega (arith, p.long, p.short)

  span : s ≡ span_in b at w.left
  span = rw g.book at p.span

  count_on : (v : ℕ) → v + due_in b (at + s) (w.left - s) e deep ≡ due_in b at w.left e deep → v ≤ s → Counting b i stop e deep w₁ (n + v)
  count_on v u l =
      let t : n + due_in b at w.left e deep ≡ due_in b i (stop - i) e deep = rw (← p.place) at g.total in
      record {
        book = p.book ∙ g.book;
        total = rw (p.at, p.left) (omega (arith, u, t));
        few = omega (arith, l, g.few, p.at, p.place);
        upto = omega (arith, g.upto, p.at, p.place, p.left, p.short);
      }

  same_n : Counting b i stop e deep w₁ (n + 0) → Counting b i stop e deep w₁ n
  same_n c = let z : n + 0 ≡ n = omega arith in rw z at c

  pub count_own : {m k v : ℕ} → byte_of b at 0 ≡ 8 → m ≡ effect_code (effect_of (byte_of b at 1)) → k ≡ effect_code e → v ≡ bool_byte (eqb m k) → Counting b i stop e deep w₁ (n + v)
  count_own {m} {k} {v} x q y o = go (eqb m k) refl
    where
      go : (z : Bool) → eqb m k ≡ z → Counting b i stop e deep w₁ (n + v)
      go true z =
          let u = due_own b at w.left e some span deep x q y (eqb-true m k z) refl in
          let o₁ : v ≡ 1 = rw z at o in
          count_on v (omega (arith, u, o₁)) (omega (arith, p.long, o₁))
      go false z =
          let u = due_else b at w.left e some span deep x q y (eqb-false m k z) refl in
          let o₁ : v ≡ 0 = rw z at o in
          count_on v (omega (arith, u, o₁)) (omega (arith, o₁))

  pub count_flat : (byte_of b at 0 ≡ 8 → ⊥) → deep ≡ false → Counting b i stop e deep w₁ n
  count_flat x z =
      let u = due_flat b at w.left e some span deep x z refl in
      same_n (count_on 0 (omega (arith, u)) (omega arith))

  pub count_party : {k v : ℕ} → k ≡ byte_of b at 0 → (k ≡ 8 → ⊥) → is_party b at ≡ true → deep ≡ true → v ≡ due_in b (at + 1) (at + s - (at + 1)) e (eqb k 1) → v ≤ at + s - (at + 1)
      → Counting b i stop e deep w₁ (n + v)
  count_party {k} {v} d x m z y l =
      let q : at + s - (at + 1) ≡ s - 1 = omega arith in
      let y₁ : v ≡ due_in b (at + 1) (s - 1) e (is_kind b at 1) = rw (q, d) at y in
      count_on v (due_party b at w.left e some span deep (differs 8 d x) m z y₁ refl) (omega (arith, l))

  pub count_other : (byte_of b at 0 ≡ 8 → ⊥) → is_party b at ≡ false → Counting b i stop e deep w₁ n
  count_other x m =
      let u = due_other b at w.left e some span deep x m refl in
      same_n (count_on 0 (omega (arith, u)) (omega arith))

-- so many ends, and one more before them
pub one_more : (many : ℕ) {end start start₂ : ℕ} {o o₁ o₂ : List ℕ} → Emitted (replicate many finish) end o o₁ start → Emitted (finish ∷ []) start o₁ o₂ start₂
    → Emitted (replicate (many + 1) finish) end o o₂ start₂
one_more many g f =
    let h : suc many ≡ many + 1 = omega arith in
    let e : replicate (suc many) finish ≡ replicate (many + 1) finish = ap (λ (k : ℕ). replicate k finish) h in
    follows {xs = finish ∷ []} (record { joined = sym e }) g f

-- as many as there are to be
pub all_ends : (left many : ℕ) {end start : ℕ} {o o₁ : List ℕ} → Emitted (replicate many finish) end o o₁ start → many ≡ suc ((left - 1) / 2)
    → Emitted (replicate (suc ((left - 1) / 2)) finish) end o o₁ start
all_ends left many g e = as_is (ap (λ (k : ℕ). replicate k finish) (sym e)) g

pub due_by : (b : List ℕ) (m : ℕ) (e : Effect) {k r : ℕ} → k ≡ byte_of b 0 0 → r ≡ due_in b 1 m e (eqb k 1) → r ≡ due_in b 1 m e (is_kind b 0 1)
due_by b m e f g = rw (← f) g

-- the whole programme, its top record ending at n
pub programme_to : (b : List ℕ) (n : ℕ) {i p d : ℕ} → (i ≡ 0) × (length b ≡ n * size) → p ≡ due_in b (i + 1) (n - (i + 1)) Permits (is_kind b i 1)
    → d ≡ due_in b (i + 1) (n - (i + 1)) Denies (is_kind b i 1)
    → Three (translated (book_of b)) (begin (algorithm_at b i) p ∷ []) (within_code b i (n - i) 3 0) (replicate (suc ((d - 1) / 2)) finish)
programme_to b n {i} {p} {d} e f g =
    let f₁ : p ≡ due_in b 1 (n - 1) Permits (is_kind b 0 1) = rw e.0 at f in
    let g₁ : d ≡ due_in b 1 (n - 1) Denies (is_kind b 0 1) = rw e.0 at g in
    let z : n - 0 ≡ n = omega arith in
    rw (e.0, z) (programme_parts b n e.1 refl f₁ g₁)

pub from_first : {code : List Entry} {k start : ℕ} {o o₁ : List ℕ} → k ≡ length code → Emitted code k o o₁ start → Emitted code k o o₁ 0
from_first {code} {k} {start} e f = let z : start ≡ 0 = omega (arith, e, f.starts) in rw z at f
