-- What a step does, from the entry, the two levels and the two frames on top, and the first number. It sees no obligation place. Assumes nothing.
use Rattle.std.specs.Prelude.{ℕ, zero, suc, ◌+◌, ◌-◌, min, Bool, true, false, leb, ltb, Err, Ok, Some}
use Rattle.sums.specs.Worth.{Worth}
use Rattle.record.specs.Choose.{if, both}
use Rattle.value.specs.Value.{value_of, test_of}
use Rattle.value.specs.declared.Function.{Function}
use Rattle.sums.specs.Sums.{bytes_of, kind_of, result_of}
use Rattle.sums.specs.declared.Operator.{Operator}
use Rattle.sums.specs.declared.Status.TheVariants.{Processing}
use Rattle.meaning.specs.Logic.{and_of, or_of, not_of, target_and}
use Rattle.meaning.specs.Numbers.{key_by}
use Rattle.meaning.specs.Meaning.{Bags, truth_of, match_of, comparison_of, the_only, under, decision_of, effected, decision_in, is}
use Rattle.meaning.specs.declared.Truth.{Truth}
use Rattle.meaning.specs.declared.Truth.TheVariants.{True, False, Unknown}
use Rattle.meaning.specs.declared.Effect.{Effect}
use Rattle.meaning.specs.declared.Effect.TheVariants.{Permits, Denies}
use Rattle.meaning.specs.declared.Decision.TheVariants as decision
use Rattle.meaning.specs.declared.Verdict.{Verdict}
use Rattle.meaning.specs.declared.Verdict.TheVariants.{Permit, Deny, NotApplicable, Indeterminate}
use Rattle.algorithm.specs.Fold.{settled}
use Rattle.algorithm.specs.Tally.{fresh, tallied, verdict_so_far}
use Rattle.algorithm.specs.declared.tally.Tally.{Tally}
use Rattle.algorithm.specs.declared.Acc.{Acc}
use Rattle.algorithm.specs.declared.Acc.TheVariants.{Ranked, Nobody, Pending, Two, One}
use Rattle.layout.specs.declared.Op.{Op}
use Rattle.layout.specs.declared.Op.TheVariants.{All, Any, Not}
use Rattle.layout.specs.declared.Level.{Level}
use Rattle.layout.specs.declared.Frame.{Frame}
use Rattle.layout.specs.declared.Head.{Head}
use Rattle.moves.specs.declared.Next.{Next}
use Rattle.moves.specs.declared.Placing.{Placing}
use Rattle.moves.specs.declared.Placing.TheVariants.{Rest, AddPermit, AddDeny, FallPermit, FallDeny, FallBoth, Cut, Down}
use Rattle.layout.specs.Layout.{level_of, level_word}
use Rattle.layout.specs.Entry.{Piece, loads, asks, works, tests, Entry, begin, match, further, opens, compare, close, sum, rule, enter, applies, conclude, oblige, leave, finish}

-- what becomes of a stack: at most one of its two on top is written
pub data Changing (A : Type 0) : Type 0 where
  keep : Changing A
  push swap below back : A → Changing A

pub record Out : Type 0 where
  pub next : Next
  pub over : Bool
  pub levels : Changing ℕ
  pub frames : Changing Frame
  pub placing : Placing

abbrev pub next : ℕ → Verdict → Truth → Truth → Truth → Next
next n r a o t = record { jump = n; found = record { reg = r; ands = a; ors = o; sections = t } }

abbrev pub out : Next → Changing ℕ → Changing Frame → Placing → Out
out n ls fs z = record { next = n; over = false; levels = ls; frames = fs; placing = z }

-- the next entry, with all that was found
abbrev pub onward : Head → Next
onward h = record { jump = 0; found = h.found }

-- the register and the truths as they are between targets and conditions, and how far to go on: over n entries if b
abbrev pub clear : ℕ → Verdict → Next
clear n r = next n r True False True

abbrev pub past : Bool → ℕ → Verdict → Next
past b n r = clear (if b n 0) r

-- a settled target, section, conjunction, match: i to the next conjunction, j to the next section, x out of the target
abbrev pub target_done : Truth → ℕ → ℕ → Verdict → Next
target_done True j x r = clear j r
target_done False j x r = clear x NotApplicable
target_done (Unknown s) j x r = clear x (Indeterminate s)

abbrev pub section_done : Truth → Bool → ℕ → ℕ → Truth → Verdict → Next
section_done (Unknown s) l j x t r = target_done (target_and t (Unknown s)) j x r
section_done True true j x t r = target_done t j x r
section_done False true j x t r = target_done (target_and t False) j x r
section_done True false j x t r = next j r True False t
section_done False false j x t r = next j r True False (target_and t False)

abbrev pub conjunction_done : Truth → Bool → Bool → ℕ → ℕ → ℕ → Truth → Verdict → Next
conjunction_done True c l i j x t r = section_done True l j x t r
conjunction_done False true l i j x t r = section_done False l j x t r
conjunction_done (Unknown s) true l i j x t r = section_done (Unknown s) l j x t r
conjunction_done False false l i j x t r = next i r True False t
conjunction_done (Unknown s) false l i j x t r = next i r True (Unknown s) t

abbrev pub match_done : Truth → Bool → Bool → Bool → ℕ → ℕ → ℕ → Truth → Truth → Verdict → Next
match_done False m c l i j x o t r = conjunction_done (or_of o False) c l i j x t r
match_done True true c l i j x o t r = conjunction_done (or_of o True) c l i j x t r
match_done (Unknown s) true c l i j x o t r = conjunction_done (or_of o (Unknown s)) c l i j x t r
match_done True false c l i j x o t r = next 0 r True o t
match_done (Unknown s) false c l i j x o t r = next 0 r (Unknown s) o t

-- conditions: and, or and not before their first part, with one part more, and when no further part matters
abbrev pub start_of : Op → Truth
start_of All = True
start_of Any = False
start_of Not = True

abbrev pub fold_of : Op → Truth → Truth → Truth
fold_of All a v = and_of a v
fold_of Any a v = or_of a v
fold_of Not a v = not_of v

abbrev pub settled_by : Op → Truth → Bool
settled_by All False = true
settled_by All True = false
settled_by All (Unknown s) = false
settled_by Any True = true
settled_by Any False = false
settled_by Any (Unknown s) = false
settled_by Not a = false

-- a level is a number, taken apart where a condition needs it
unfoldable pub level : Op → Truth → ℕ
level o v = level_word (record { op = o; val = v })

abbrev pub told_to : Level → Truth → Level
told_to l v = record { op = l.op; val = fold_of l.op l.val v }

-- a part of this condition has the value v: the level then, and whether no further part matters
unfoldable pub told : ℕ → Truth → ℕ
told l v = level_word (told_to (level_of l) v)

unfoldable pub settles : ℕ → Truth → Bool
settles l v = settled_by (told_to (level_of l) v).op (told_to (level_of l) v).val

unfoldable pub value_in : ℕ → Truth
value_in l = (level_of l).val

-- in the register Permit stands for True, NotApplicable for False
abbrev pub through : Truth → Verdict
through t = under t Permit

-- a part has the value v: the level is told, or, where no condition is open, the register holds it
abbrev pub tell : Truth → ℕ → ℕ → ℕ → Verdict → Out
tell v n zero l r = out (clear 0 (through v)) keep keep Rest
tell v n (suc k) l r = out (past (settles l v) n r) (swap (told l v)) keep Rest

-- the condition on top, of k that are open, is closed: it tells its value to the one below
abbrev pub closed : ℕ → ℕ → ℕ → ℕ → Verdict → Out
closed n zero l m r = out (clear 0 r) keep keep Rest
closed n (suc zero) l m r = out (clear 0 (through (value_in l))) (back m) keep Rest
closed n (suc (suc k)) l m r = out (past (settles m (value_in l)) n r) (back (told m (value_in l))) keep Rest

-- values of a comparison stand on the levels as their eight bytes; a value that is lost stands as 0, and the first number's `ands`, idle inside
-- conditions, keeps Unknown with the first one's status from then on to the comparison
abbrev pub word_of : Worth → ℕ
word_of (Ok v) = bytes_of v
word_of (Err s) = 0

abbrev pub mark_of : Worth → Truth
mark_of (Ok v) = True
mark_of (Err s) = Unknown s

abbrev pub since : Truth → Worth → Worth
since True w = w
since False w = w
since (Unknown s) w = Err s

-- an operator on two words; a comparison of two words
abbrev pub worked : Operator → ℕ → ℕ → Worth
worked o x y = result_of o (value_of (kind_of o) x) (value_of (kind_of o) y)

abbrev pub tested : Truth → Function → ℕ → ℕ → ℕ → Truth
tested True f k x y = truth_of (test_of f (value_of k x) (value_of k y))
tested False f k x y = truth_of (test_of f (value_of k x) (value_of k y))
tested (Unknown s) f k x y = Unknown s

abbrev pub carried : Head → Truth → Changing ℕ → Out
carried h mark ls = out (next 0 h.found.reg mark h.found.ors h.found.sections) ls keep Rest

abbrev pub pushes : Head → Worth → Out
pushes h w = carried h (mark_of w) (push (word_of w))

abbrev pub leaves : Head → Worth → Out
leaves h w = carried h (mark_of w) (back (word_of w))

-- a piece, by the levels on top and below: a literal or attribute is put on top; an operator takes the one on top away and replaces the one below; so
-- does the comparison, by a level of a condition that has its value, for `close` to tell
abbrev pub pieced : Bags → Head → Piece → ℕ → ℕ → Out
pieced g h (loads k n) l m = pushes h (since h.found.ands (Ok (value_of k n)))
pieced g h (asks key) l m = pushes h (since h.found.ands (the_only (g (key_by key))))
pieced g h (works o) l m = leaves h (since h.found.ands (worked o m l))
pieced g h (tests f k) l m = carried h True (back (level All (tested h.found.ands f k m l)))

-- rules, policies and sets
abbrev pub ruled : Effect → Verdict → Verdict
ruled e Permit = effected e
ruled e Deny = effected e
ruled e NotApplicable = NotApplicable
ruled e (Indeterminate s) = Indeterminate s

abbrev pub put : Frame → Tally → Frame
put f k = record { alg = f.alg; tally = k; permits = f.permits; denies = f.denies }

abbrev pub concluded : Verdict → ℕ → ℕ → ℕ → Out
concluded Permit n p d = out (clear 0 Permit) keep keep (FallDeny d)
concluded Deny n p d = out (clear 0 Deny) keep keep (FallPermit p)
concluded NotApplicable n p d = out (clear n NotApplicable) keep keep (FallBoth p d)
concluded (Indeterminate s) n p d = out (clear n (Indeterminate s)) keep keep (FallBoth p d)

-- a child's target matches: the only-one set below notes it; a second one settles the set as a processing error, and the child is left out
abbrev pub one_applies : Frame → Tally
one_applies h = record { acc = Pending; cause = h.tally.cause }

abbrev pub two_apply : Tally
two_apply = record { acc = Two; cause = Some Processing }

abbrev pub noted : Acc → Frame → ℕ → Verdict → Out
noted Nobody h n r = out (clear 0 r) keep (below (put h (one_applies h))) Rest
noted Pending h n r = out (clear n Permit) keep (back (put h two_apply)) Rest
noted Two h n r = out (clear n Permit) keep (back (put h two_apply)) Rest
noted (One d) h n r = out (clear n Permit) keep (back (put h two_apply)) Rest
noted (Ranked k) h n r = out (clear n Permit) keep (back (put h two_apply)) Rest

abbrev pub pushed : Effect → Bool → ℕ → Placing
pushed e false n = Rest
pushed Permits true n = AddPermit n
pushed Denies true n = AddDeny n

-- at most two places are brought down in one step
abbrev pub at_once : ℕ
at_once = 2

-- the stacks, the register and the truths stay as they are, and the run may be over
abbrev pub ending : Head → Bool → Placing → Out
ending h over z = record { next = onward h; over = over; levels = keep; frames = keep; placing = z }

-- Deny's obligations come down while some are left above, and the run is over with the last of them. Permit's stack is empty by then, and its
-- height counts them.
abbrev pub finished : Bool → Head → Out
finished true h = ending h (leb h.denies (h.permits + at_once)) (Down (min at_once (h.denies - h.permits)))
finished false h = ending h true Rest

-- the core of a step, by the first number, the entry, the levels on top and below, the frames on top and below
unfoldable pub core : Bags → Head → Entry → ℕ → ℕ → Frame → Frame → Out
core g h (begin al c) l m f b = out (clear 0 Permit) keep (push (record { alg = al; tally = fresh al; permits = 0; denies = 0 })) (Cut c)
core g h (match t k c s i j x) l m f b =
    out (match_done (and_of h.found.ands (match_of g t)) k c s i j x h.found.ors h.found.sections h.found.reg) keep keep Rest
core g h further l m f b = out (clear 0 h.found.reg) keep keep Rest
core g h (opens op) l m f b = out (onward h) (push (level op (start_of op))) keep Rest
core g h (compare t n) l m f b = tell (comparison_of g t) n h.nest l h.found.reg
core g h (close n) l m f b = closed n h.nest l m h.found.reg
core g h (sum p) l m f b = pieced g h p l m
core g h (rule e n) l m f b =
    let k = tallied f.alg f.tally e (ruled e h.found.reg) in
    out (past (settled f.alg k.acc) n Permit) keep (swap (put f k)) Rest
core g h (enter al) l m f b =
    out (next 0 Permit h.found.ands h.found.ors h.found.sections) keep
    (push (record { alg = al; tally = fresh al; permits = h.permits; denies = h.denies })) Rest
core g h (applies n) l m f b = noted b.tally.acc b n h.found.reg
core g h (conclude n) l m f b = concluded (verdict_so_far f.alg f.tally) n f.permits f.denies
core g h (oblige e n) l m f b = out (clear 0 h.found.reg) keep keep (pushed e (is (decision_in h.found.reg) (decision_of e)) n)
core g h (leave n) l m f b =
    let k = tallied b.alg b.tally Permits h.found.reg in
    out (past (settled b.alg k.acc) n Permit) keep (back (put b k)) Rest
core g h finish l m f b = finished (both (is (decision_in h.found.reg) decision.Deny) (ltb h.permits h.denies)) h
