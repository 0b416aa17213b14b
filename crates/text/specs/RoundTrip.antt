-- What is claimed of reading and writing together, for a book and a request alike. `proofs/RoundTrip.antt` proves it. Assumes nothing.
use Rattle.std.specs.Prelude.{◌≡◌, List, [], ◌∷◌, ◌++◌, map, ℕ, ◌-◌, ◌≤◌, eqb, length, Ok}
use Rattle.record.specs.Choose.{if, among}
use Rattle.record.specs.Bytes.{size, Bytes}
use Rattle.record.specs.Table.{tab}
use Rattle.text.specs.Text.{short_size, digits, lf, width, read_of, write_of, byte_at, text_at}
use Rattle.text.specs.declared.Kind.{Kind}

-- a small letter as a capital; every other byte as it is
abbrev pub upper : ℕ → ℕ
upper c = if (among 97 122 c) (c - 32) c

abbrev pub zero_digit : ℕ
zero_digit = 48

-- eight zeros more at the end of each line
unfoldable pub lengthened : List ℕ → List ℕ
lengthened [] = []
lengthened (c ∷ s) = if (eqb c lf) (tab (λ _. zero_digit) (digits size - digits short_size) ++ (lf ∷ lengthened s)) (c ∷ lengthened s)

-- a text, read and written again, comes back as this other text
abbrev pub ComesBack : List ℕ → List ℕ → Type 0
ComesBack text other =
    (k : Kind) (room room' m : ℕ) → read_of k text room ≡ Ok m → length other ≤ room'
    → (write_of k (tab (byte_at text) m) room' ≡ Ok (length other)) × (tab (text_at (tab (byte_at text) m)) (length other) ≡ other)

-- a text of 40 digits a line comes back with its letters as capitals
abbrev pub ReadIsWritten : Type 0
ReadIsWritten = (text : List ℕ) → Bytes text → width text ≡ size → ComesBack text (map upper text)

-- a text of 32 digits a line comes back lengthened
abbrev pub ShortIsLengthened : Type 0
ShortIsLengthened = (text : List ℕ) → Bytes text → width text ≡ short_size → ComesBack text (lengthened (map upper text))

-- the text that comes back, of either length
abbrev pub restored : List ℕ → List ℕ
restored text = if (eqb (width text) size) (map upper text) (lengthened (map upper text))

abbrev pub ReadIsRestored : Type 0
ReadIsRestored = (text : List ℕ) → Bytes text → ComesBack text (restored text)

-- records that are written and read again are the same records
abbrev pub WrittenIsRead : Type 0
WrittenIsRead =
    (k : Kind) (records : List ℕ) (room room' m : ℕ) → Bytes records → write_of k records room ≡ Ok m → length records ≤ room'
    → (read_of k (tab (text_at records) m) room' ≡ Ok (length records)) × (tab (byte_at (tab (text_at records) m)) (length records) ≡ records)
