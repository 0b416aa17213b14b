-- What is claimed of one step: it is a function of what it sees, for every programme, request and state. `proofs/Sight.antt` proves it. Assumes nothing.
use Rattle.std.specs.Prelude.{ℕ, suc, ◌+◌, ◌-◌, ◌≤◌, ◌≡◌, Bool, List, eqb, ltb, leb, length, get_or}
use Rattle.record.specs.Choose.{if, both}
use Rattle.value.specs.declared.Value.{Value}
use Rattle.meaning.specs.Policy.{Key}
use Rattle.meaning.specs.Numbers.{key_by, key_of}
use Rattle.meaning.specs.Meaning.{Bags}
use Rattle.layout.specs.declared.Head.{Head}
use Rattle.layout.specs.declared.State.{State}
use Rattle.moves.specs.declared.Placing.{Placing}
use Rattle.moves.specs.declared.Placing.TheVariants.{Rest, AddPermit, AddDeny, FallPermit, FallDeny, FallBoth, Cut, Down}
use Rattle.layout.specs.Entry.{Piece, loads, asks, works, tests, Entry, begin, match, further, opens, compare, close, sum, rule, enter, applies, conclude, oblige, leave, finish, lawful}
use Rattle.moves.specs.Core.{Changing, keep, push, swap, below, back, Out, core}
use Rattle.layout.specs.Layout.{frame_of, frame_word, unpack_of, pack_of, entry_of}
use Rattle.stacks.specs.Carry.{in_words}
use Rattle.programme.specs.Step.{head_after, may_step, step_of, fresh_of}
use Rattle.run.specs.Run.{run_of}
use Rattle.promises.specs.Place.{head_of, Place, frame, level, place, Sized, There, held, touched, In}

-- the key of the one bag that a step may ask for
abbrev pub piece_asked : Piece → Key
piece_asked (loads k n) = key_by 0
piece_asked (asks key) = key_by key
piece_asked (works o) = key_by 0
piece_asked (tests f k) = key_by 0

abbrev pub asked : Entry → Key
asked (begin al c) = key_by 0
asked (match t m c l i j x) = key_of t
asked further = key_by 0
asked (opens op) = key_by 0
asked (compare t n) = key_of t
asked (close n) = key_by 0
asked (sum p) = piece_asked p
asked (rule e n) = key_by 0
asked (enter al) = key_by 0
asked (applies n) = key_by 0
asked (conclude n) = key_by 0
asked (oblige e n) = key_by 0
asked (leave n) = key_by 0
asked finish = key_by 0

-- what a step sees: the programme's length, the first number, three neighbouring entries, two frames, two levels, one bag; no obligation place
pub record Sight : Type 0 where
  pub long : ℕ
  pub first : ℕ
  pub entry : ℕ
  pub second : ℕ
  pub third : ℕ
  pub top_frame : ℕ
  pub frame_below : ℕ
  pub top_level : ℕ
  pub level_below : ℕ
  pub bag : List Value

-- the first number fixes where the entries, the frames and the levels stand; the entries fix the bag
abbrev pub sight_of : List ℕ → Bags → State → Sight
sight_of p g s = record {
  long = length p;
  first = s.head;
  entry = get_or p (head_of s).at 0;
  second = get_or p ((head_of s).at + 1) 0;
  third = get_or p ((head_of s).at + 2) 0;
  top_frame = held s (frame (head_of s).depth);
  frame_below = held s (frame ((head_of s).depth - 1));
  top_level = held s (level (head_of s).nest);
  level_below = held s (level ((head_of s).nest - 1));
  bag = g (asked (entry_of (get_or p (head_of s).at 0) (get_or p ((head_of s).at + 1) 0) (get_or p ((head_of s).at + 2) 0)));
}

-- all that a step does, from that alone: the first number, the entry, what becomes of the stacks; may it be taken; the first number after it
abbrev pub head_in : Sight → Head
head_in w = unpack_of w.first

abbrev pub entry_in : Sight → Entry
entry_in w = entry_of w.entry w.second w.third

abbrev pub out_in : Sight → Out
out_in w = core (λ k. w.bag) (head_in w) (entry_in w) w.top_level w.level_below (frame_of w.top_frame) (frame_of w.frame_below)

abbrev pub may_in : Sight → Bool
may_in w = lawful w.long (head_in w).at (entry_in w)

abbrev pub first_after : Sight → ℕ
first_after w = pack_of (head_after (head_in w) (entry_in w) (out_in w))

-- what stands in a place after a step: what stood there, a number, or what stood in an obligation place
pub data Source : Type 0 where
  stays : Source
  number from : ℕ → Source

abbrev pub given : Source → State → Place → ℕ
given stays s x = held s x
given (number n) s x = n
given (from j) s x = held s (place j)

-- of the k-th of a stack whose top is the n-th
abbrev pub in_stack : Changing ℕ → ℕ → ℕ → Source
in_stack keep n k = stays
in_stack (push x) n k = if (eqb k (suc n)) (number x) stays
in_stack (swap x) n k = if (eqb k n) (number x) stays
in_stack (below x) n k = if (eqb k (n - 1)) (number x) stays
in_stack (back x) n k = if (eqb k (n - 1)) (number x) stays

-- of the k-th obligation place
abbrev pub in_places : Placing → Head → ℕ → Source
in_places Rest h k = stays
in_places (AddPermit n) h k = if (both (ltb h.permits h.cut) (eqb k h.permits)) (number n) stays
in_places (AddDeny n) h k = if (eqb k (h.cut + h.denies)) (number n) stays
in_places (FallPermit a) h k = stays
in_places (FallDeny b) h k = stays
in_places (FallBoth a b) h k = stays
in_places (Cut c) h k = stays
in_places (Down n) h k = if (both (leb h.permits k) (ltb k (h.permits + n))) (from (h.cut + k)) stays

abbrev pub source_of : Sight → Place → Source
source_of w (frame k) = in_stack (in_words frame_word (out_in w).frames) (head_in w).depth k
source_of w (level k) = in_stack (out_in w).levels (head_in w).nest k
source_of w (place k) = in_places (out_in w).placing (head_in w) k

-- a step is what its sight says, in every number of the state
abbrev pub BySight : Type 0
BySight =
    (p : List ℕ) (g : Bags) (s : State) → Sized s
    → (may_step p s ≡ may_in (sight_of p g s))
    × ((step_of p g s).head ≡ first_after (sight_of p g s))
    × ((x : Place) → There x → held (step_of p g s) x ≡ given (source_of (sight_of p g s) x) s x)

-- eleven numbers at most are touched, and the first number alone fixes which
abbrev pub AtMostEleven : Type 0
AtMostEleven = (h : Head) → length (touched h) ≤ 11

-- the entry is an obligation with this number
unfoldable pub Obliges : Entry → ℕ → Type 0
Obliges (begin al c) v = ⊥
Obliges (match t m c l i j x) v = ⊥
Obliges further v = ⊥
Obliges (opens op) v = ⊥
Obliges (compare t n) v = ⊥
Obliges (close n) v = ⊥
Obliges (sum p) v = ⊥
Obliges (rule e n) v = ⊥
Obliges (enter al) v = ⊥
Obliges (applies n) v = ⊥
Obliges (conclude n) v = ⊥
Obliges (oblige e n) v = v ≡ n
Obliges (leave n) v = ⊥
Obliges finish v = ⊥

-- what may become of a number: it stays, unless it is one of the eleven; what is put into an obligation place is the number of the obligation met, or what
-- one of the eleven held; no frame and no level takes what a place held
abbrev pub Plain : Place → Type 0
Plain (frame k) = Unit
Plain (level k) = Unit
Plain (place k) = ⊥

abbrev pub Puts : Sight → Place → ℕ → Type 0
Puts w (frame k) n = Unit
Puts w (level k) n = Unit
Puts w (place k) n = Obliges (entry_in w) n

abbrev pub Within : Sight → Place → Source → Type 0
Within w x stays = Unit
Within w x (number n) = In x (touched (head_in w)) × Puts w x n
Within w x (from j) = In x (touched (head_in w)) × (Plain x → ⊥) × In (place j) (touched (head_in w))

abbrev pub TouchesNoMore : Type 0
TouchesNoMore = (w : Sight) (x : Place) → Within w x (source_of w x)

-- so what is not one of the eleven stays
abbrev pub ElseStays : Type 0
ElseStays = (p : List ℕ) (g : Bags) (s : State) → Sized s → (x : Place) → (In x (touched (head_of s)) → ⊥) → held (step_of p g s) x ≡ held s x

-- what a step of s in p sees is what a step of t in q sees, in the words of document 01
pub record Alike (p q : List ℕ) (g h : Bags) (s t : State) : Type 0 where
  pub long : length p ≡ length q
  pub first : s.head ≡ t.head
  pub entry : get_or p (head_of s).at 0 ≡ get_or q (head_of s).at 0
  pub second : get_or p ((head_of s).at + 1) 0 ≡ get_or q ((head_of s).at + 1) 0
  pub third : get_or p ((head_of s).at + 2) 0 ≡ get_or q ((head_of s).at + 2) 0
  pub plain : (x : Place) → In x (touched (head_of s)) → Plain x → held s x ≡ held t x
  pub bag : g (asked (entry_in (sight_of p g s))) ≡ h (asked (entry_in (sight_of p g s)))

-- then all is the same: whether it may be taken, the first number after it, every frame and level that is touched, and of every number the source
abbrev pub Local : Type 0
Local =
    (p q : List ℕ) (g h : Bags) (s t : State) → Sized s → Sized t → Alike p q g h s t
    → (sight_of p g s ≡ sight_of q h t)
    × (may_step p s ≡ may_step q t)
    × ((step_of p g s).head ≡ (step_of q h t).head)
    × ((x : Place) → There x → In x (touched (head_of s)) → Plain x → held (step_of p g s) x ≡ held (step_of q h t) x)
    × ((x : Place) → There x → (held (step_of p g s) x ≡ given (source_of (sight_of p g s) x) s x) × (held (step_of q h t) x ≡ given (source_of (sight_of p g s) x) t x))

-- a step keeps how many numbers a state has
abbrev pub StaysSized : Type 0
StaysSized = (p : List ℕ) (g : Bags) (s : State) → Sized s → Sized (step_of p g s)

-- so does a run; and the fresh state has as many as a state has
abbrev pub RunsStaySized : Type 0
RunsStaySized = (p : List ℕ) (g : Bags) (n : ℕ) (s : State) → Sized s → Sized (run_of p g n s).state

abbrev pub FreshSized : Type 0
FreshSized = Sized fresh_of
