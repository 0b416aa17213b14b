-- What is claimed: a book is accepted exactly when its parts are sound, each by its own bytes; and what is built of sound parts is accepted. The proofs are in
-- `proofs/`. Assumes nothing.
use Rattle.std.specs.Prelude.{ℕ, ◌+◌, ◌-◌, ◌*◌, ◌≤◌, ◌<◌, ◌≡◌, true, List, length}
use Rattle.record.specs.Choose.{among}
use Rattle.record.specs.Bytes.{Bytes, size, most_records, span_of}
use Rattle.record.specs.Forest.{forest, height}
use Rattle.fields.specs.Fields.{kind_at, obligations_of}
use Rattle.fields.specs.declared.Kind.TheVariants.{PolicySet, Obligation}
use Rattle.operands.specs.Parent.{parent_of}
use Rattle.placement.specs.Place.{most_depth, kind_number, rank_of, rank_at}
use Rattle.judge.specs.Judge.{judge_of, accepted_with}
use Rattle.placement.specs.Keeps.{Sized, Keeps}
use Rattle.structure.specs.Subtrees.{Subtrees, record_count, subtrees_of, bytes_of, spanned, whole_records, slice_of, SameRecords, SameButSpan}
use Rattle.structure.specs.Sound.{Parent, line_one, rank_after, sound_book, sound_at, SoundChild, SoundParts}

-- a book is accepted exactly when its parts are sound: its head, its own sections and obligations, and each child's records by themselves, one level down
abbrev pub AcceptedByParts : Type 0
AcceptedByParts = (b : List ℕ) (n m : ℕ) → judge_of b ≡ accepted_with n m → SoundParts b n × (m ≡ obligations_of b n)

abbrev pub PartsAreAccepted : Type 0
PartsAreAccepted = (b : List ℕ) (n : ℕ) → SoundParts b n → judge_of b ≡ accepted_with n (obligations_of b n)

-- that is, it keeps the rules line by line exactly when its parts are sound
abbrev pub KeptByParts : Type 0
KeptByParts = (b : List ℕ) (n : ℕ) → Keeps b n → SoundParts b n

abbrev pub PartsAreKept : Type 0
PartsAreKept = (b : List ℕ) (n : ℕ) → SoundParts b n → Keeps b n

-- and exactly when its records, as subtrees, are a sound book
abbrev pub KeptIsSound : Type 0
KeptIsSound = (b : List ℕ) (n : ℕ) → Keeps b n → sound_book (subtrees_of b 0 n) ≡ true

abbrev pub SoundIsKept : Type 0
SoundIsKept = (b : List ℕ) (n : ℕ) → Sized b n → sound_book (subtrees_of b 0 n) ≡ true → Keeps b n

-- records are sound or not by their own bytes, whatever stands around them
abbrev pub ByOwnBytes : Type 0
ByOwnBytes = (u : Parent) (e : ℕ) (b : List ℕ) (i : ℕ) (c : List ℕ) (j s : ℕ) → SameRecords b i c j s → sound_at u e b i s ≡ sound_at u e c j s

-- so they may be cut out and judged by themselves
abbrev pub ByThemselves : Type 0
ByThemselves = (u : Parent) (e : ℕ) (b : List ℕ) (i s : ℕ) → sound_at u e (slice_of b i s) 0 s ≡ sound_at u e b i s

-- a policy or set that is sound as a child is by itself a sound book; and a sound book may stand in a set, before the set's obligations, where the levels above it
-- and its own are within the depth
abbrev pub PolicyIsBook : Type 0
PolicyIsBook =
    (u : Parent) (e : ℕ) (b : List ℕ) (i : ℕ) → 1 ≤ span_of b i → among 1 2 (kind_number (kind_at b i)) ≡ true → sound_at u e b i (span_of b i) ≡ true
    → (sound_book (subtrees_of b i (span_of b i)) ≡ true) × (u.above + height (forest b i (span_of b i)) ≤ most_depth)

abbrev pub BookMayStand : Type 0
BookMayStand =
    (u : Parent) (e : ℕ) (b : List ℕ) (i s : ℕ) → u.number ≡ kind_number PolicySet → e < rank_of Obligation 0 → sound_book (subtrees_of b i s) ≡ true
    → u.above + height (forest b i s) ≤ most_depth → sound_at u e b i s ≡ true

-- c is b with t other records for the s records from i on; of line 1 the span alone differs, which is c's number of records
pub record Replaced (b : List ℕ) (n : ℕ) (c : List ℕ) (m i s t : ℕ) : Type 0 where
  pub sized : Sized c m
  pub records : m + s ≡ n + t
  pub line_one_lem : SameButSpan b 0 c 0
  pub span : span_of c 0 ≡ m
  pub before : SameRecords b 1 c 1 (i - 1)
  pub after : SameRecords b (i + s) c (i + t) (n - (i + s))

-- a child of line 1 gives place to others, none, one or many, that are sound after a child of its rank and of which the last has no higher rank
abbrev pub ReplacedIsKept : Type 0
ReplacedIsKept =
    (b : List ℕ) (n : ℕ) (c : List ℕ) (m i t : ℕ) → Keeps b n → 0 < i → i < n → parent_of b i ≡ 0 → Replaced b n c m i (span_of b i) t
    → sound_at (line_one b) (rank_at b i) c i t ≡ true → rank_after (rank_at b i) (subtrees_of c i t) ≤ rank_at b i → Keeps c m

-- it gives place to one child of its rank
abbrev pub ChildForChild : Type 0
ChildForChild =
    (b : List ℕ) (n : ℕ) (c : List ℕ) (m i : ℕ) → Keeps b n → 0 < i → i < n → parent_of b i ≡ 0 → Replaced b n c m i (span_of b i) (span_of c i)
    → SoundChild (line_one b) (rank_at b i) c i → rank_at c i ≡ rank_at b i → Keeps c m

-- a sound book, written as bytes, is accepted, and is read back as it was
abbrev pub SoundIsAccepted : Type 0
SoundIsAccepted =
    (x : Subtrees) → sound_book x ≡ true → record_count x ≤ most_records → judge_of (bytes_of x) ≡ accepted_with (record_count x) (obligations_of (bytes_of x) (record_count x))

abbrev pub SoundIsReadBack : Type 0
SoundIsReadBack = (x : Subtrees) → sound_book x ≡ true → subtrees_of (bytes_of x) 0 (record_count x) ≡ x

-- a tree of records, written with its spans, is accepted exactly when it is then a sound book, and is read back as that tree
abbrev pub SpannedIsAccepted : Type 0
SpannedIsAccepted =
    (x : Subtrees) → sound_book (spanned x) ≡ true → record_count x ≤ most_records
    → judge_of (bytes_of (spanned x)) ≡ accepted_with (record_count x) (obligations_of (bytes_of (spanned x)) (record_count x))

abbrev pub AcceptedIsSound : Type 0
AcceptedIsSound =
    (x : Subtrees) (n m : ℕ) → whole_records x ≡ true → judge_of (bytes_of (spanned x)) ≡ accepted_with n m → (sound_book (spanned x) ≡ true) × (n ≡ record_count x)

abbrev pub SpannedIsReadBack : Type 0
SpannedIsReadBack = (x : Subtrees) → whole_records x ≡ true → subtrees_of (bytes_of (spanned x)) 0 (record_count x) ≡ spanned x

-- of a sound book the spans are right as they are
abbrev pub SoundIsSpanned : Type 0
SoundIsSpanned = (x : Subtrees) → sound_book x ≡ true → Bytes (bytes_of x) → spanned x ≡ x

-- the bytes of records, read as subtrees and written, are the same bytes
abbrev pub ReadIsWrittenBack : Type 0
ReadIsWrittenBack = (b : List ℕ) (n : ℕ) → length b ≡ n * size → bytes_of (subtrees_of b 0 n) ≡ b
