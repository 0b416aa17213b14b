-- Laws of deciding: a law for each turn and return of the code. Assumes nothing.
use Rattle.std.specs.Prelude.{Option, None, Some, Ok, Err}
use mathlib.Core.Path.{◌≡◌, refl, sym, ap, ◌∙◌}
use mathlib.Core.Bool.{Bool, true, false}
use mathlib.Core.List.{List, [], ◌∷◌, ◌++◌, append-nil, append_assoc}
use Prim.Native.Nat.{ℕ, ◌+◌, ◌-◌, ◌*◌, ◌≤◌, ◌<◌}
use native.Mathlib.Omega.{arith}
use lib.ListN.{length, set, length-set}
use borrow.Author.Tests.{ne_eqb}
use Rattle.record.specs.Choose.{if, both, either}
use Rattle.record.specs.Bytes.{size, byte_of, big_of}
use Rattle.record.specs.Forest.{Forest, none, node, forest, height}
use Rattle.record.specs.Siblings.{forest_left, Passes}
use Rattle.record.specs.declared.siblings.Siblings.{Siblings}
use Rattle.record.proofs.Choose.{both_left}
use Rattle.record.proofs.Walks.{still, next_left, none_left}
use Rattle.sums.specs.declared.Status.{Status}
use Rattle.meaning.specs.Logic.{is_unknown, is_true, some}
use Rattle.meaning.specs.Meaning.{Bags, target_of, decision_in, Child, verdict_in, owed, is, unsure, keep, applying, is_only, decision_of, combine, met, walked, own_of, binding, verdict_of, over_rules, over_policies, rule_children}
use Rattle.meaning.specs.Reading.{is_kind, choice_at, effect_of, target_in, rules_in, rules_by, policies_by, obligation_at, obligations_in, is_party}
use Rattle.meaning.specs.declared.Truth.{Truth}
use Rattle.meaning.specs.declared.Truth.TheVariants.{True, False, Unknown}
use Rattle.meaning.specs.declared.Effect.TheVariants.{Permits}
use Rattle.meaning.specs.declared.Decision.{Decision}
use Rattle.meaning.specs.declared.Decision.TheVariants.{Indeterminate}
use Rattle.meaning.specs.declared.Verdict.{Verdict}
use Rattle.meaning.specs.declared.Verdict.TheVariants as verdict
use Rattle.meaning.specs.declared.Algorithm.{Algorithm}
use Rattle.meaning.specs.declared.Algorithm.TheVariants.{RulesDeny, RulesPermit, First, PoliciesDeny, PoliciesPermit, OnlyOne}
use Rattle.algorithm.specs.Fold.{fold_result, settled}
use Rattle.algorithm.specs.Tally.{fresh, tallied, verdict_so_far}
use Rattle.algorithm.specs.declared.tally.Tally.{Tally}
use Rattle.algorithm.proofs.Causes.{tallies, walks, verdict_right, walks_more}
use Rattle.decider.specs.Places.{Holds, Stacked, between}
use Rattle.decider.specs.Inside.{child_at, children_in, is_due, keeps, up_of, up_at, direct_of, room_of, deep_of, Put, Ruled, Applies, Single, Pick, Picked, picking}
use Rattle.decider.proofs.Stack.{holds_none, holds_both, holds_store, settled as stays, settled_within}
use Rattle.decider.proofs.Rooms.{direct_is, deep_is, nest_kids, nest_rest, rooms}
use Rattle.decider.proofs.Kept.{Standing, stand_start, stand_turn, stand_end}
use Rattle.meaning.proofs.Forgets.{forgets}
use Rattle.decider.proofs.Children.{at_target, at_effect, at_binds, at_duties, set_is, policy_is, children_on, children_all, children_none, children_skip, children_more, single_is}

-- nothing is put
pub put_none : (l : List ℕ) (n room : ℕ) → Put l n [] room l n
put_none l n room = record { holds = holds_none l n; within = omega arith }

put_both : {l e f : List ℕ} {n m r p q : ℕ} {xs ys : List ℕ} → Put l n xs p e m → Put e m ys q f r → Put l n (xs ++ ys) (p + q) f r
put_both v w = record { holds = holds_both v.holds w.holds; within = omega (arith, v.within, w.within) }

-- a record's own obligations
if_cons : (q : Bool) (x : ℕ) (ys : List ℕ) → if q (x ∷ ys) ys ≡ if q (x ∷ []) [] ++ ys
if_cons true x ys = refl
if_cons false x ys = refl

module _ (b : List ℕ) (d : Decision) {i : ℕ} {f kids rest : Forest} (e : f ≡ node i kids rest) where
  own_is : own_of d (obligations_in b f) ≡ if (is_due b i d) (big_of b (i * size + 6) 2 ∷ []) [] ++ own_of d (obligations_in b rest)
  unfolding own_of obligations_in is_due
  own_is = rw e (go (is_kind b i 8))
    where
      go : (k : Bool) → own_of d (if k (obligation_at b i ∷ obligations_in b rest) (obligations_in b rest))
          ≡ if (both k (is d (decision_of (effect_of (choice_at b i))))) (big_of b (i * size + 6) 2 ∷ []) [] ++ own_of d (obligations_in b rest)
      go true = if_cons (is d (decision_of (effect_of (choice_at b i)))) _ _
      go false = refl

due_kind : (b : List ℕ) (i : ℕ) (d : Decision) → is_due b i d ≡ true → is_kind b i 8 ≡ true
unfolding is_due
due_kind b i d = both_left (is_kind b i 8) (is d (decision_of (effect_of (choice_at b i))))

-- of the records `all` some are done, and `f` are left
pub record Putting (b : List ℕ) (d : Decision) (l : List ℕ) (n : ℕ) (all f : Forest) (o : List ℕ) (m : ℕ) : Type 0 where
  pub xs : List ℕ
  pub holds : Holds l n xs o m
  pub kept : length o ≡ length l
  pub room : m + direct_of b f ≤ n + direct_of b all
  pub goes : xs ++ own_of d (obligations_in b f) ≡ own_of d (obligations_in b all)

pub put_start : (b : List ℕ) (d : Decision) (l : List ℕ) (n : ℕ) {all f : Forest} → f ≡ all → Putting b d l n all f l n
put_start b d l n e = record { xs = []; holds = holds_none l n; kept = refl; room = rw e (omega arith); goes = rw e refl }

module _ {b : List ℕ} {d : Decision} {l : List ℕ} {n : ℕ} {all f : Forest} {o : List ℕ} {m : ℕ} (w : Putting b d l n all f o m) where
  pub put_end : f ≡ none → Put l n (own_of d (obligations_in b all)) (direct_of b all) o m
  unfolding own_of obligations_in
  put_end e = rw (← (rw (e, append-nil) at w.goes)) (record { holds = w.holds; within = omega (arith, w.room) })

  module _ {i : ℕ} {kids rest : Forest} {q : Bool} (e : f ≡ node i kids rest) (eq : q ≡ is_due b i d) where
    pub put_room : q ≡ true → m + 1 + direct_of b rest ≤ n + direct_of b all
    put_room z = omega (arith, w.room, rw (due_kind b i d (sym eq ∙ z)) at (direct_is b e))

    pub put_skip : q ≡ false → Putting b d l n all rest o m
    put_skip z = record {
      xs = w.xs;
      holds = w.holds;
      kept = w.kept;
      room = omega (arith, w.room, direct_is b e);
      goes = rw (own_is b d e, ← eq, z) at w.goes;
    }

    pub put_turn : {y : ℕ} → q ≡ true → y ≡ big_of b (i * size + 6) 2 → m < length o → Putting b d l n all rest (set o m y) (m + 1)
    put_turn {y} z ey hm = record {
      xs = w.xs ++ (y ∷ []);
      holds = holds_store y w.holds hm;
      kept = length-set o m y ∙ w.kept;
      room = put_room z;
      goes = append_assoc w.xs (y ∷ []) (own_of d (obligations_in b rest)) ∙ (rw (own_is b d e, ← eq, z, ← ey) at w.goes);
    }

pub own_put : {l e : List ℕ} {n m room : ℕ} {os : List ℕ} {d v : Decision} → d ≡ v → binding v os ≡ os → Put l n os room e m → Put l n (binding d os) room e m
own_put e f w = rw (e, f) w

pub own_none : (l : List ℕ) (n room : ℕ) (os : List ℕ) {d v : Decision} → d ≡ v → binding v os ≡ [] → Put l n (binding d os) room l n
own_none l n room os e f = rw (e, f) (put_none l n room)

-- a record as its parent sees it
module _ (b : List ℕ) (g : Bags) (i s : ℕ) {t : Truth} (e : t ≡ target_of g (target_in b (forest b (i + 1) (s - 1)))) where
  pub child_no : (l : List ℕ) (n room : ℕ) → t ≡ False
      → Ruled l n (verdict_in (child_at b g i s)) (owed (child_at b g i s).target (child_at b g i s).duties) room l verdict.NotApplicable n
  child_no l n room q = rw (at_target b g i s, ← e, q) (record { says = refl; puts = put_none l n room })

  pub child_lost : (l : List ℕ) (n room : ℕ) {why : Status} → t ≡ Unknown why
      → Ruled l n (verdict_in (child_at b g i s)) (owed (child_at b g i s).target (child_at b g i s).duties) room l (verdict.Indeterminate why) n
  child_lost l n room q = rw (at_target b g i s, ← e, q) (record { says = refl; puts = put_none l n room })

  pub child_yes : {l o : List ℕ} {n room m : ℕ} {v : Verdict} → t ≡ True → Ruled l n (child_at b g i s).body (child_at b g i s).duties room o v m
      → Ruled l n (verdict_in (child_at b g i s)) (owed (child_at b g i s).target (child_at b g i s).duties) room o v m
  child_yes q w = rw (at_target b g i s, ← e, q) w

-- its own obligations on top of what its children hand up
pub body_own : (b : List ℕ) (g : Bags) (i s : ℕ) {l e f : List ℕ} {n m r : ℕ} {v : Verdict} {d : Decision}
    → Ruled l n (child_at b g i s).body (up_at b g i s) (deep_of b (forest b (i + 1) (s - 1))) e v m → d ≡ decision_in v
    → Put e m (binding d (own_of d (obligations_in b (forest b (i + 1) (s - 1))))) (direct_of b (forest b (i + 1) (s - 1))) f r
    → Ruled l n (child_at b g i s).body (child_at b g i s).duties (room_of b (forest b (i + 1) (s - 1))) f v r
body_own b g i s w ed p =
    record { says = w.says; puts = rw (at_duties b g i s, rooms b (i + 1) (s - 1), ← w.says, ← ed) (put_both w.puts p) }

-- the algorithm of a policy, and of a set
pub only_is : (a : Algorithm) → is_only a ≡ true → a ≡ OnlyOne
only_is RulesDeny e = cc
only_is RulesPermit e = cc
only_is First e = cc
only_is PoliciesDeny e = cc
only_is PoliciesPermit e = cc
only_is OnlyOne e = refl

module _ (b : List ℕ) (g : Bags) (i s : ℕ) {k c : ℕ} (ek : k ≡ byte_of b i 0) (ec : c ≡ byte_of b i 1) where
  pub gather_rules : (l : List ℕ) (n room : ℕ) {v : Verdict} → (k ≡ 1 → ⊥) → v ≡ verdict_of (over_rules (rules_by c)) (rule_children g (rules_in b (forest b (i + 1) (s - 1))))
      → Ruled l n (child_at b g i s).body (up_at b g i s) room l v n
  gather_rules l n room q ev =
      let w = policy_is b g i s (rw (← ek) (ne_eqb k 1 q)) in
      rw w.1 (record { says = ev ∙ (rw ec (sym w.0)); puts = put_none l n room })

  module _ {a : Algorithm} (q : k ≡ 1) (ea : a ≡ over_policies (policies_by c)) where
    is_set : ((child_at b g i s).body ≡ verdict_of a (children_in b g (i + 1) (s - 1))) × (up_at b g i s ≡ up_of a (children_in b g (i + 1) (s - 1)))
    is_set = rw (ea, ec) (set_is b g i s (rw (← ek, q)))

    pub gather_walk : {l e : List ℕ} {n m room : ℕ} {v : Verdict}
        → Ruled l n (verdict_of a (children_in b g (i + 1) (s - 1))) (up_of a (children_in b g (i + 1) (s - 1))) room e v m
        → Ruled l n (child_at b g i s).body (up_at b g i s) room e v m
    gather_walk w = rw (is_set.0, is_set.1) w

    module _ {o : Bool} (eo : o ≡ is_only a) (z : o ≡ true) where
      is_one : ((child_at b g i s).body ≡ verdict_of OnlyOne (children_in b g (i + 1) (s - 1))) × (up_at b g i s ≡ up_of OnlyOne (children_in b g (i + 1) (s - 1)))
      is_one = rw (only_is a (sym eo ∙ z)) at is_set

      -- where no one child is picked, nothing is handed up
      none_picked : (l : List ℕ) (n room : ℕ) {v : Verdict} → verdict_of OnlyOne (children_in b g (i + 1) (s - 1)) ≡ v → ((xs : List ℕ) → binding (decision_in v) xs ≡ [])
          → Ruled l n (child_at b g i s).body (up_at b g i s) room l v n
      unfolding up_of
      none_picked l n room w free =
          let d = sym (forgets OnlyOne (children_in b g (i + 1) (s - 1))) ∙ ap decision_in w in
          rw (is_one.0, is_one.1, w, d, free _) (record { says = refl; puts = put_none l n room })

      pub gather_nobody : (l : List ℕ) (n room : ℕ) → Picked b g (i + 1) (s - 1) (Ok None)
          → Ruled l n (child_at b g i s).body (up_at b g i s) room l verdict.NotApplicable n
      unfolding Picked
      gather_nobody l n room w = none_picked l n room w (λ xs. refl)

      pub gather_many : (l : List ℕ) (n room : ℕ) {why : Status} → Picked b g (i + 1) (s - 1) (Err why)
          → Ruled l n (child_at b g i s).body (up_at b g i s) room l (verdict.Indeterminate why) n
      unfolding Picked
      gather_many l n room w = none_picked l n room w (λ xs. refl)

      pub gather_one : {j t : ℕ} {l e : List ℕ} {n m : ℕ} {v : Verdict} → Single b g (i + 1) (s - 1) j t
          → Ruled l n (child_at b g j t).body (child_at b g j t).duties (room_of b (forest b (j + 1) (t - 1))) e v m
          → Ruled l n (child_at b g i s).body (up_at b g i s) (deep_of b (forest b (i + 1) (s - 1))) e v m
      gather_one {j} {t} w v =
          let x = single_is (child_at b g j t) (children_in b g (i + 1) (s - 1)) w.sure w.alone w.applies.matches (at_binds b g j t) in
          rw (is_one.0, is_one.1, x.0, x.1)
          (record { says = v.says; puts = record { holds = v.puts.holds; within = omega (arith, v.puts.within, w.applies.room) } })

-- the child that only-one picked
pub picked_one : (b : List ℕ) (g : Bags) (from count : ℕ) (x : ℕ × ℕ) → Picked b g from count (Ok (Some x)) → Single b g from count x.0 x.1
unfolding Picked
picked_one b g from count x w = w

-- the walk: what stands on top of n places, and what is still to come
pub record Sofar (b : List ℕ) (g : Bags) (a : Algorithm) (l : List ℕ) (n from count : ℕ) (f : Forest) (k : Tally) (o : List ℕ) (m : ℕ) : Type 0 where
  pub xs : List ℕ
  pub holds : Holds l n xs o m
  pub kept : length o ≡ length l
  pub room : m + deep_of b f ≤ n + deep_of b (forest b from count)
  pub stands : Standing a (children_in b g from count) k.acc (children_on b g f) xs
  pub tells : verdict_so_far a (walks a k (children_on b g f)) ≡ verdict_of a (children_in b g from count)

pub walk_start : (b : List ℕ) (g : Bags) (a : Algorithm) (l : List ℕ) (n from count : ℕ) {f : Forest} {k : Tally}
    → is_only a ≡ false → f ≡ forest b from count → k ≡ fresh a → Sofar b g a l n from count f k l n
walk_start b g a l n from count h ef e = record {
  xs = [];
  holds = holds_none l n;
  kept = refl;
  room = rw ef (omega arith);
  stands = rw (e, ef, children_all b g from count) (stand_start a h (children_in b g from count));
  tells = rw (e, ef, children_all b g from count) (verdict_right a (children_in b g from count));
}

-- a child that is no rule is taken in by its verdict
takes_child : (a : Algorithm) (k : Tally) (c : Child) {v : Verdict} {next : Tally} → is_only a ≡ false → c.effect ≡ Permits → v ≡ verdict_in c → next ≡ tallied a k Permits v
    → tallies a k c ≡ next
takes_child a k c plain f ev en = rw (plain, en, ev, f, plain)

module _ {b : List ℕ} {g : Bags} {a : Algorithm} {l : List ℕ} {n from count : ℕ} {all : Forest} {k : Tally} {o : List ℕ} {m : ℕ}
    (plain : is_only a ≡ false) (w : Sofar b g a l n from count all k o m) where
  pub walk_end : {v : Verdict} → all ≡ none → v ≡ verdict_so_far a k
      → Ruled l n (verdict_of a (children_in b g from count)) (up_of a (children_in b g from count)) (deep_of b (forest b from count)) o v m
  unfolding walks
  walk_end h e =
      let over = children_none b g h in
      record {
        says = e ∙ (rw over at w.tells);
        puts = rw (← stand_end a plain (rw over at w.stands)) (record { holds = w.holds; within = omega (arith, w.room) });
      }

  module _ {i : ℕ} (s : ℕ) {rest : Forest} (e : all ≡ node i (forest b (i + 1) (s - 1)) rest) where
    pub walk_skip : false ≡ is_party b i → Sofar b g a l n from count rest k o m
    walk_skip other = record {
      xs = w.xs;
      holds = w.holds;
      kept = w.kept;
      room = omega (arith, w.room, deep_is b e);
      stands = rw (children_skip b g e other) at w.stands;
      tells = rw (children_skip b g e other) at w.tells;
    }

    -- a child was decided, and some of what stands stays
    module _ {before after d : Decision} {v : Verdict} {x y z : Bool} {next : Tally} {c f : List ℕ} {t r : ℕ} (party : true ≡ is_party b i)
        (child : Ruled o m (verdict_in (child_at b g i s)) (owed (child_at b g i s).target (child_at b g i s).duties) (room_of b (forest b (i + 1) (s - 1))) c v t)
        (ce : length c ≡ length o) (ed : d ≡ decision_in v) (eb : before ≡ fold_result a k.acc) (en : next ≡ tallied a k Permits v) (ea : after ≡ fold_result a next.acc)
        (ex : x ≡ keeps before after) (ey : y ≡ keeps d after) (ez : z ≡ settled a next.acc)
        (st : Stacked c (if x m n) (if y (between m t c) []) f r) (hn : n ≤ length l) (hm : m ≤ length o) where
      step : Standing a (children_in b g from count) next.acc (if z [] (children_on b g rest))
          (if x w.xs [] ++ if y (owed (child_at b g i s).target (child_at b g i s).duties) [])
      step =
          rw (ez, ex, ey, eb, ea, ed, en, child.says, ← at_effect b g i s)
          (stand_turn a plain (rw (children_more b g s e party) at w.stands))

      told : verdict_so_far a (if z next (walks a next (children_on b g rest))) ≡ verdict_of a (children_in b g from count)
      told = rw ez
          (rw (children_more b g s e party, walks_more a k _ _ (takes_child a k (child_at b g i s) plain (at_effect b g i s) child.says en)) at w.tells)

      on : Holds l n (if x w.xs [] ++ if y (owed (child_at b g i s).target (child_at b g i s).duties) []) f r
      on = stays x y w.holds child.puts.holds hn hm ce st

      no_more : r ≤ t
      no_more = settled_within x y (omega (arith, w.holds.count)) (omega (arith, child.puts.holds.count)) st

      pub walk_turn : length f ≡ length c → z ≡ false → Sofar b g a l n from count rest next f r
      walk_turn fe zf = record {
        xs = if x w.xs [] ++ if y (owed (child_at b g i s).target (child_at b g i s).duties) [];
        holds = on;
        kept = fe ∙ ce ∙ w.kept;
        room = omega (arith, w.room, child.puts.within, no_more, deep_is b e);
        stands = rw zf at step;
        tells = rw zf at told;
      }

      pub walk_stop : {u : Verdict} → z ≡ true → u ≡ verdict_so_far a next
          → Ruled l n (verdict_of a (children_in b g from count)) (up_of a (children_in b g from count)) (deep_of b (forest b from count)) f u r
      walk_stop zt eu = record {
        says = eu ∙ (rw zt at told);
        puts = rw (← stand_end a plain (rw zt at step)) (record { holds = on; within = omega (arith, w.room, child.puts.within, no_more, deep_is b e) });
      }

-- only-one: the targets so far
unfoldable pub Seen : List ℕ → Bags → ℕ → ℕ → List Child → Pick → Type 0
Seen b g from count rest (Ok None) =
    (some unsure (children_in b g from count) ≡ some unsure rest) × (applying (children_in b g from count) ≡ applying rest)
    × (walked false (children_in b g from count) ≡ walked false rest)
Seen b g from count rest (Ok (Some x)) =
    (some unsure (children_in b g from count) ≡ some unsure rest) × (applying (children_in b g from count) ≡ child_at b g x.0 x.1 ∷ applying rest)
    × (walked false (children_in b g from count) ≡ walked true rest) × Applies b g from count x.0 x.1
Seen b g from count rest (Err why) = verdict_of OnlyOne (children_in b g from count) ≡ verdict.Indeterminate why

pub record Seeking (b : List ℕ) (g : Bags) (from count : ℕ) (w : Siblings) (p : Option (ℕ × ℕ)) : Type 0 where
  pub book : w.book.now ≡ b
  pub place : w.at + w.left ≡ from + count
  pub fits : w.left ≤ count
  pub room : deep_of b (forest_left w) ≤ deep_of b (forest b from count)
  pub nest : height (forest_left w) ≤ height (forest b from count)
  pub seen : Seen b g from count (children_on b g (forest_left w)) (Ok p)

pub seek_start : (b : List ℕ) (g : Bags) (from count : ℕ) {w : Siblings} → w.book.now ≡ b → w.at ≡ from → w.left ≡ count → Seeking b g from count w None
unfolding Seen
seek_start b g from count eb ea el = record {
  book = eb;
  place = omega (arith, ea, el);
  fits = omega (arith, el);
  room = rw (eb, ea, el) (omega arith);
  nest = rw (eb, ea, el) (omega arith);
  seen = rw (eb, ea, el, children_all b g from count) (refl, refl, refl);
}

seen_end : (b : List ℕ) (g : Bags) (from count : ℕ) (p : Option (ℕ × ℕ)) → Seen b g from count [] (Ok p) → Picked b g from count (Ok p)
unfolding Seen Picked verdict_of combine
seen_end b g from count None w = rw (w.0, w.1)
seen_end b g from count (Some x) w = record { sure = w.0; alone = w.1; applies = w.3 }

either_way : (b : Bool) {d : Decision} → d ≡ Indeterminate → if b Indeterminate d ≡ Indeterminate
either_way true e = refl
either_way false e = e

-- where it is Indeterminate, the cause that was met counts
met_is : (cs : List Child) {why : Status} → combine OnlyOne cs ≡ Indeterminate → walked false cs ≡ Some why → verdict_of OnlyOne cs ≡ verdict.Indeterminate why
unfolding verdict_of
met_is cs e f = rw (e, f)

-- one child more, whose target is t
seen_more : (b : List ℕ) (g : Bags) (from count i s : ℕ) (rest : List Child) (p : Option (ℕ × ℕ)) (t : Truth) → (child_at b g i s).target ≡ t
    → (t ≡ True → Applies b g from count i s) → Seen b g from count (child_at b g i s ∷ rest) (Ok p) → Seen b g from count rest (picking p t i s)
unfolding Seen combine
seen_more b g from count i s rest None False e h w = rw e at w
seen_more b g from count i s rest (Some x) False e h w = rw e at w
seen_more b g from count i s rest None (Unknown why) e h w = met_is (children_in b g from count) (rw (w.0, e)) (rw (w.2, e))
seen_more b g from count i s rest (Some x) (Unknown why) e h w = met_is (children_in b g from count) (rw (w.0, e)) (rw (w.2, e))
seen_more b g from count i s rest None True e h w = (
  w.0 ∙ ap (λ z. either (is_unknown z) (some unsure rest)) e,
  w.1 ∙ ap (λ z. keep z (child_at b g i s) (applying rest)) e,
  w.2 ∙ ap (λ z. met false z (walked (is_true z) rest)) e,
  h refl,
)
seen_more b g from count i s rest (Some x) True e h w =
    met_is (children_in b g from count) (rw (w.1, e) (either_way (some unsure (children_in b g from count)) refl)) (rw (w.2, e))

module _ {b : List ℕ} {g : Bags} {from count : ℕ} {w : Siblings} {p : Option (ℕ × ℕ)} (so : Seeking b g from count w p) where
  pub seek_end : w.left ≡ 0 → Picked b g from count (Ok p)
  seek_end h = seen_end b g from count p (rw (children_none b g (none_left w h)) at so.seen)

  module _ {i s : ℕ} {v : Siblings} (step : Passes w i s v) where
    next : forest_left w ≡ node i (forest b (i + 1) (s - 1)) (forest_left v)
    next = next_left so.book step

    goes_on : (r : Option (ℕ × ℕ)) → Seen b g from count (children_on b g (forest_left v)) (Ok r) → Seeking b g from count v r
    goes_on r seen = record {
      book = still so.book step;
      place = omega (arith, so.place, step.place, step.at, step.left, step.short);
      fits = omega (arith, so.fits, step.left);
      room = omega (arith, so.room, deep_is b next);
      nest = omega (arith, so.nest, nest_rest next);
      seen = seen;
    }

    pub seek_skip : false ≡ is_party b i → Seeking b g from count v p
    seek_skip other = goes_on p (rw (children_skip b g next other) at so.seen)

    module _ {t : Truth} {r : Pick} (party : true ≡ is_party b i) (et : t ≡ target_of g (target_in b (forest b (i + 1) (s - 1))))
        (er : r ≡ picking p t i s) where
      here : t ≡ True → Applies b g from count i s
      here y = record {
        matches = at_target b g i s ∙ sym et ∙ y;
        there = step.long;
        ends = omega (arith, so.place, step.place, step.short);
        fits = omega (arith, so.fits, step.short);
        room = omega (arith, so.room, deep_is b next);
        nest = omega (arith, so.nest, nest_kids next);
      }

      seen_on : Seen b g from count (children_on b g (forest_left v)) r
      seen_on = rw er (seen_more b g from count i s (children_on b g (forest_left v)) p t (at_target b g i s ∙ sym et) here
          (rw (children_more b g s next party) at so.seen))

      pub seek_turn : (x : Option (ℕ × ℕ)) → r ≡ Ok x → Seeking b g from count v x
      seek_turn x e = goes_on x (rw e at seen_on)

      pub seek_stop : {why : Status} → r ≡ Err why → Picked b g from count (Err why)
      unfolding Seen Picked
      seek_stop e = rw e at seen_on
