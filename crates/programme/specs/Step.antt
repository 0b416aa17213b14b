-- A step: what document 01 says of one in "The programme and its ticks". Assumes nothing.
use Rattle.std.specs.Prelude.{ℕ, ◌-◌, Bool, false, List, length, get_or, replicate, Option}
use Rattle.std.specs.Option.{unwrap_or}
use Rattle.record.specs.Choose.{if}
use Rattle.meaning.specs.Meaning.{Bags}
use Rattle.layout.specs.declared.Head.{Head}
use Rattle.layout.specs.Entry.{Entry, extra, lawful}
use Rattle.moves.specs.Core.{Out, core}
use Rattle.layout.specs.Room.{room_f, room_l, room_p}
use Rattle.stacks.specs.Machine.{height_after, stack_after, places_after}
use Rattle.layout.specs.Layout.{frame_word, frame_of, unpack_of, pack_of, fetch}
use Rattle.meaning.specs.declared.Verdict.{Verdict}
use Rattle.meaning.specs.declared.Verdict.TheVariants.{Permit, Deny, NotApplicable, Indeterminate}
use Rattle.meaning.specs.declared.Truth.TheVariants.{True, False}
use Rattle.layout.specs.declared.State.{State}
use Rattle.stacks.specs.Carry.{in_words, head_to}

-- the first number after a step
unfoldable pub head_after : Head → Entry → Out → Head
head_after h e x =
    head_to h (extra e) (height_after room_f x.frames h.depth) (height_after room_l x.levels h.nest) x.next x.over x.placing

-- what a step leaves
unfoldable pub after : Head → Entry → Out → State → State
after h e x s = record {
  head = pack_of (head_after h e x);
  frames = stack_after room_f (in_words frame_word x.frames) h.depth s.frames;
  levels = stack_after room_l x.levels h.nest s.levels;
  places = places_after x.placing h.cut h.permits h.denies s.places;
}

-- what a step sees
unfoldable pub seen : Bags → State → Head → Entry → Out
seen g s h e =
    core g h e
    (get_or s.levels h.nest 0) (get_or s.levels (h.nest - 1) 0)
    (frame_of (get_or s.frames h.depth 0)) (frame_of (get_or s.frames (h.depth - 1) 0))

-- may a step be taken: the entries that it meets are in their layout
unfoldable pub may_step : List ℕ → State → Bool
may_step p s = let h = unpack_of s.head in lawful (length p) h.at (fetch p h.at)

unfoldable pub step_of : List ℕ → Bags → State → State
step_of p g s = let h = unpack_of s.head in let e = fetch p h.at in after h e (seen g s h e) s

-- the first number says whether the run is finished, with which decision and code and how many obligations
unfoldable pub is_over : State → Bool
is_over s = (unpack_of s.head).over

abbrev pub count_by : Verdict → Head → ℕ
count_by Permit h = h.permits
count_by Deny h = h.denies
count_by NotApplicable h = 0
count_by (Indeterminate s) h = 0

-- a step, if it may be taken
pub record Stepped : Type 0 where
  pub ok : Bool
  pub state : State

unfoldable pub stepped_of : List ℕ → Bags → State → Stepped
stepped_of p g s = record { ok = may_step p s; state = if (may_step p s) (step_of p g s) s }

-- a state from its parts: for functions that have the arrays lent
abbrev pub state_of : ℕ → List ℕ → List ℕ → List ℕ → State
state_of head frames levels places = record { head = head; frames = frames; levels = levels; places = places }

-- before the first step
unfoldable pub fresh_of : State
fresh_of = record {
  head = pack_of (record { at = 0; depth = 0; nest = 0; permits = 0; denies = 0; cut = 0; found = record { reg = Permit; ands = True; ors = False; sections = True }; over = false });
  frames = replicate room_f 0;
  levels = replicate room_l 0;
  places = replicate room_p 0;
}

-- the first number that a function gives if a step was taken, else the one before it
abbrev pub head_or : Head → Option Head → Head
head_or h x = unwrap_or x h
