-- The field rules of a request's entries (refusal 5): category, type alone, finite value, unused bytes. Assumes nothing.
use Rattle.std.specs.Prelude.{ℕ, Bool, List}
use Rattle.record.specs.Choose.{both}
use Rattle.record.specs.Bytes.{size, byte_of}
use Rattle.fields.specs.Fields.{category_ok, type_of, finite, value_ok, zeros}

-- entry i: byte 0 category, 1 type (1, 2 or 3 alone), 2 and 3 identifier, 4 to 7 zero, 8 to 15 value, 16 and 17 issuer, 18 and 19 zero
unfoldable pub entry_ok : List ℕ → ℕ → Bool
entry_ok q i = both (category_ok (byte_of q i 0)) (both (value_ok (type_of (byte_of q i 1)) (finite q i)) (both (zeros q i 4 8) (zeros q i 18 size)))
