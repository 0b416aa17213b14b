-- The numbers: how the first number, frames, levels and entries stand in 64 bits. docs/PROGRAMME.md draws it. Assumes nothing.
use Rattle.std.specs.Prelude.{ℕ, ◌+◌, ◌-◌, ◌*◌, ◌/◌, ◌%◌, Bool, true, false, List, [], ◌∷◌, eqb, ltb, leb, get_or, None, Some}
use Rattle.record.specs.Choose.{if, both}
use Rattle.value.specs.Value.{function_of}
use Rattle.value.specs.declared.Function.{Function}
use Rattle.value.specs.declared.Function.TheVariants.{Equal, Greater, GreaterOrEqual, Less, LessOrEqual}
use Rattle.sums.specs.declared.Operator.{Operator}
use Rattle.sums.specs.declared.Operator.TheVariants.{Add, Subtract, Multiply, Divide, Remainder, DoubleAdd}
use Rattle.sums.specs.declared.Status.TheVariants.{Missing, Processing}
use Rattle.meaning.specs.Numbers.{status_number, key_number, bare_of, issuer_of}
use Rattle.meaning.specs.declared.Test.{Test}
use Rattle.meaning.specs.declared.Truth.{Truth}
use Rattle.meaning.specs.declared.Truth.TheVariants.{True, False, Unknown}
use Rattle.meaning.specs.declared.Effect.{Effect}
use Rattle.meaning.specs.declared.Effect.TheVariants.{Permits, Denies}
use Rattle.meaning.specs.declared.Decision.{Decision}
use Rattle.meaning.specs.declared.Decision.TheVariants.{Permit, Deny, NotApplicable, Indeterminate}
use Rattle.meaning.specs.Cause.{Cause}
use Rattle.meaning.specs.declared.Verdict.{Verdict}
use Rattle.meaning.specs.declared.Verdict.TheVariants as verdict
use Rattle.meaning.specs.declared.Algorithm.{Algorithm}
use Rattle.meaning.specs.declared.Algorithm.TheVariants.{RulesDeny, RulesPermit, First, PoliciesDeny, PoliciesPermit, OnlyOne}
use Rattle.algorithm.specs.declared.Rank.{Rank}
use Rattle.algorithm.specs.declared.Rank.TheVariants.{R0, R1, R2, R3, R4}
use Rattle.algorithm.specs.declared.Acc.{Acc}
use Rattle.algorithm.specs.declared.Acc.TheVariants.{Ranked, Nobody, Pending, Two, One}
use Rattle.layout.specs.declared.Op.{Op}
use Rattle.layout.specs.declared.Op.TheVariants.{All, Any, Not}
use Rattle.layout.specs.declared.Level.{Level}
use Rattle.layout.specs.declared.Frame.{Frame}
use Rattle.layout.specs.declared.Found.{Found}
use Rattle.layout.specs.declared.Head.{Head}
use Rattle.layout.specs.Entry.{Piece, loads, asks, works, tests, Entry, begin, match, further, opens, compare, close, sum, rule, enter, applies, conclude, oblige, leave, finish}
use Rattle.layout.specs.Room.{room_p}

-- small words by number, and back; a number that no word has is read as the last one
abbrev pub bit_of : Bool → ℕ
bit_of false = 0
bit_of true = 1

abbrev pub truth_code : Truth → ℕ
truth_code True = 0
truth_code False = 1
truth_code (Unknown s) = 1 + status_number s

abbrev pub truth_by : ℕ → Truth
truth_by n = if (eqb n 0) True (if (eqb n 1) False (if (eqb n 2) (Unknown Missing) (Unknown Processing)))

abbrev pub cause_code : Cause → ℕ
cause_code None = 0
cause_code (Some s) = status_number s

abbrev pub cause_by : ℕ → Cause
cause_by n = if (eqb n 0) None (if (eqb n 1) (Some Missing) (Some Processing))

abbrev pub decision_code : Decision → ℕ
decision_code Permit = 0
decision_code Deny = 1
decision_code NotApplicable = 2
decision_code Indeterminate = 3

abbrev pub decision_by : ℕ → Decision
decision_by n = if (eqb n 0) Permit (if (eqb n 1) Deny (if (eqb n 2) NotApplicable Indeterminate))

abbrev pub verdict_code : Verdict → ℕ
verdict_code verdict.Permit = 0
verdict_code verdict.Deny = 1
verdict_code verdict.NotApplicable = 2
verdict_code (verdict.Indeterminate s) = 2 + status_number s

abbrev pub verdict_by : ℕ → Verdict
verdict_by n =
    if (eqb n 0) verdict.Permit
    (if (eqb n 1) verdict.Deny
    (if (eqb n 2) verdict.NotApplicable
    (if (eqb n 3) (verdict.Indeterminate Missing) (verdict.Indeterminate Processing))))

abbrev pub effect_code : Effect → ℕ
effect_code Permits = 0
effect_code Denies = 1

abbrev pub effect_by : ℕ → Effect
effect_by n = if (eqb n 0) Permits Denies

abbrev pub op_code : Op → ℕ
op_code All = 0
op_code Any = 1
op_code Not = 2

abbrev pub op_by : ℕ → Op
op_by n = if (eqb n 0) All (if (eqb n 1) Any Not)

abbrev pub algorithm_code : Algorithm → ℕ
algorithm_code First = 0
algorithm_code RulesDeny = 1
algorithm_code RulesPermit = 2
algorithm_code PoliciesDeny = 3
algorithm_code PoliciesPermit = 4
algorithm_code OnlyOne = 5

abbrev pub algorithm_by : ℕ → Algorithm
algorithm_by n =
    if (eqb n 0) First (if (eqb n 1) RulesDeny (if (eqb n 2) RulesPermit (if (eqb n 3) PoliciesDeny (if (eqb n 4) PoliciesPermit OnlyOne))))

abbrev pub function_code : Function → ℕ
function_code Equal = 1
function_code Greater = 2
function_code GreaterOrEqual = 3
function_code Less = 4
function_code LessOrEqual = 5

abbrev pub operator_code : Operator → ℕ
operator_code Add = 0
operator_code Subtract = 1
operator_code Multiply = 2
operator_code Divide = 3
operator_code Remainder = 4
operator_code DoubleAdd = 5

abbrev pub operator_by : ℕ → Operator
operator_by n =
    if (eqb n 0) Add (if (eqb n 1) Subtract (if (eqb n 2) Multiply (if (eqb n 3) Divide (if (eqb n 4) Remainder DoubleAdd))))

-- what an algorithm keeps: five ranks; nobody, pending, two; one with its decision
abbrev pub rank_code : Rank → ℕ
rank_code R0 = 0
rank_code R1 = 1
rank_code R2 = 2
rank_code R3 = 3
rank_code R4 = 4

abbrev pub acc_code : Acc → ℕ
acc_code (Ranked k) = rank_code k
acc_code Nobody = 5
acc_code Pending = 6
acc_code Two = 7
acc_code (One d) = 8 + decision_code d

abbrev pub rank_by : ℕ → Rank
rank_by n = if (eqb n 0) R0 (if (eqb n 1) R1 (if (eqb n 2) R2 (if (eqb n 3) R3 R4)))

abbrev pub acc_by : ℕ → Acc
acc_by n =
    if (ltb n 5) (Ranked (rank_by n))
    (if (eqb n 5) Nobody
    (if (eqb n 6) Pending
    (if (eqb n 7) Two (One (decision_by (n - 8))))))

-- a level: 2 bits what it does, 2 bits its value
unfoldable pub level_of : ℕ → Level
level_of n = record { op = op_by (n % 4); val = truth_by (n / 4 % 4) }

unfoldable pub level_word : Level → ℕ
level_word l = op_code l.op + 4 * truth_code l.val

-- a frame: 3 bits algorithm, 4 bits what it keeps, 10 bits each height, 2 bits the cause that counts
unfoldable pub frame_of : ℕ → Frame
frame_of n = record {
  alg = algorithm_by (n % 8);
  tally = record { acc = acc_by (n / 8 % 16); cause = cause_by (n / 134217728 % 4) };
  permits = n / 128 % 1024;
  denies = n / 131072 % 1024;
}

unfoldable pub frame_word : Frame → ℕ
frame_word f = algorithm_code f.alg + 8 * (acc_code f.tally.acc + 16 * (f.permits + 1024 * (f.denies + 1024 * cause_code f.tally.cause)))

-- what was found so far: 3 bits the register, 2 each the conjunction, the section and the target
unfoldable pub found_by : ℕ → Found
found_by n = record { reg = verdict_by (n % 8); ands = truth_by (n / 8 % 4); ors = truth_by (n / 32 % 4); sections = truth_by (n / 128 % 4) }

unfoldable pub found_code : Found → ℕ
found_code f = verdict_code f.reg + 8 * (truth_code f.ands + 4 * (truth_code f.ors + 4 * truth_code f.sections))

-- the first number: 13 bits the place in the programme, 5 open policies and sets, 4 open conditions, 10 each the heights of Permit's and Deny's
-- obligations and the cut, 9 what was found so far, 1 whether the run is over
unfoldable pub unpack_of : ℕ → Head
unpack_of n = record {
  at = n % 8192;
  depth = n / 8192 % 32;
  nest = n / 262144 % 16;
  permits = n / 4194304 % 1024;
  denies = n / 4294967296 % 1024;
  cut = n / 4398046511104 % 1024;
  found = found_by (n / 4503599627370496 % 512);
  over = eqb (n / 2305843009213693952 % 2) 1;
}

unfoldable pub pack_of : Head → ℕ
pack_of h =
    h.at
    + 8192 * (h.depth
    + 32 * (h.nest
    + 16 * (h.permits
    + 1024 * (h.denies
    + 1024 * (h.cut
    + 1024 * (found_code h.found
    + 512 * bit_of h.over))))))

-- what the layout allows of the first number: at most 16 policies and sets and 14 conditions open, and the stacks within the 1,000 places
unfoldable pub allowed : ℕ → Bool
allowed n =
    both (ltb n 4611686018427387904)
    (both (leb (unpack_of n).depth 16)
    (both (leb (unpack_of n).nest 14)
    (both (leb (unpack_of n).permits room_p)
    (leb ((unpack_of n).cut + (unpack_of n).denies) room_p))))

-- an entry by its number: 4 bits what it is, then its fields; a match, a comparison and a literal have the literal in the next number; the one after
-- has a match's ways to the next section and out of the target, and the issuer of a match or a comparison
unfoldable pub test_of : ℕ → ℕ → ℕ → Test
test_of n key literal = record { function = function_of (n % 8); must = eqb (n / 8 % 2) 1; key = key; literal = literal }

unfoldable pub match_by : ℕ → ℕ → ℕ → Entry
match_by n literal ways =
    match (test_of n (key_number (n / 128 % 4294967296) (ways / 67108864 % 65536)) literal) (eqb (n / 16 % 2) 1) (eqb (n / 32 % 2) 1) (eqb (n / 64 % 2) 1)
    (n / 549755813888) (ways % 8192) (ways / 8192 % 8192)

unfoldable pub compare_by : ℕ → ℕ → ℕ → Entry
compare_by n literal issuer = compare (test_of n (key_number (n / 16 % 4294967296) (issuer % 65536)) literal) (n / 68719476736)

-- a piece of a comparison of two values: 2 bits which; a literal its type, an attribute its key, an operator its number, the comparison its function
-- and type
unfoldable pub piece_by : ℕ → ℕ → ℕ → Piece
piece_by which n literal =
    if (eqb which 0) (loads n literal)
    (if (eqb which 1) (asks (n % 281474976710656))
    (if (eqb which 2) (works (operator_by n)) (tests (function_of (n % 8)) (n / 8))))

-- 2 was a comparison of two numbers, before there were issuers
unfoldable pub entry_by : ℕ → ℕ → ℕ → ℕ → Entry
entry_by op n literal third =
    if (eqb op 0) (begin (algorithm_by (n % 8)) (n / 8))
    (if (eqb op 1) (match_by n literal third)
    (if (eqb op 3) (opens (op_by n))
    (if (eqb op 4) (close n)
    (if (eqb op 5) (rule (effect_by (n % 2)) (n / 2))
    (if (eqb op 6) (enter (algorithm_by n))
    (if (eqb op 7) (applies n)
    (if (eqb op 8) (conclude n)
    (if (eqb op 9) (oblige (effect_by (n % 2)) (n / 2))
    (if (eqb op 10) (leave n)
    (if (eqb op 11) finish
    (if (eqb op 12) (sum (piece_by (n % 4) (n / 4) literal))
    (if (eqb op 13) (compare_by n literal third) further))))))))))))

unfoldable pub entry_of : ℕ → ℕ → ℕ → Entry
entry_of w literal third = entry_by (w % 16) (w / 16) literal third

-- the entry that stands at a place of a programme
unfoldable pub fetch : List ℕ → ℕ → Entry
fetch p i = entry_of (get_or p i 0) (get_or p (i + 1) 0) (get_or p (i + 2) 0)

-- the numbers of an entry, as many as it has
unfoldable pub test_word : Test → ℕ
test_word t = function_code t.function + 8 * bit_of t.must

unfoldable pub piece_words : Piece → List ℕ
piece_words (loads k n) = (12 + 16 * (4 * k)) ∷ n ∷ []
piece_words (asks key) = (12 + 16 * (1 + 4 * key)) ∷ []
piece_words (works o) = (12 + 16 * (2 + 4 * operator_code o)) ∷ []
piece_words (tests f k) = (12 + 16 * (3 + 4 * (function_code f + 8 * k))) ∷ []

unfoldable pub words_of : Entry → List ℕ
words_of (begin al c) = 16 * (algorithm_code al + 8 * c) ∷ []
words_of (match t m c s i j x) =
    (1 + 16 * (test_word t + 16 * (bit_of m + 2 * (bit_of c + 2 * (bit_of s + 2 * (bare_of t.key + 4294967296 * i))))))
    ∷ t.literal
    ∷ (j + 8192 * (x + 8192 * issuer_of t.key))
    ∷ []
words_of further = []
words_of (opens op) = (3 + 16 * op_code op) ∷ []
words_of (compare t n) = (13 + 16 * (test_word t + 16 * (bare_of t.key + 4294967296 * n))) ∷ t.literal ∷ issuer_of t.key ∷ []
words_of (close n) = (4 + 16 * n) ∷ []
words_of (sum p) = piece_words p
words_of (rule e n) = (5 + 16 * (effect_code e + 2 * n)) ∷ []
words_of (enter al) = (6 + 16 * algorithm_code al) ∷ []
words_of (applies n) = (7 + 16 * n) ∷ []
words_of (conclude n) = (8 + 16 * n) ∷ []
words_of (oblige e n) = (9 + 16 * (effect_code e + 2 * n)) ∷ []
words_of (leave n) = (10 + 16 * n) ∷ []
words_of finish = 11 ∷ []
