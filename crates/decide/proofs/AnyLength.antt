-- A text of any length is judged by the bytes that are read: `specs/Decide.antt`'s claim. Assumes nothing.
use Rattle.std.specs.Prelude.{Err, Ok}
use mathlib.Core.Path.{◌≡◌, refl}
use mathlib.Core.List.{List}
use Prim.Native.Nat.{ℕ, ◌+◌, ◌*◌}
use native.Mathlib.Omega.{arith}
use lib.ListN.{take}
use lib.Seq.{take_all}
use Rattle.record.specs.Bytes.{size, most_records, most_entries}
use Rattle.text.specs.Text.{book, request, line_length, read_of, byte_at, Filled}
use Rattle.record.specs.Table.{tab}
use Rattle.text.proofs.FirstBytes.{first_bytes, read_whole}
use Rattle.decide.specs.Decide.{after_request, after_book, printed, AnyLength}

request_cut : (b text : List ℕ) (a : Filled) → read_of request text (size * most_entries) ≡ a → after_request a b (take (line_length size * most_entries + 1) text) ≡ after_request a b text
unfolding after_request
request_cut b text (Ok m) e = rw (take_all (line_length size * most_entries + 1) text (read_whole request text (size * most_entries) m (line_length size * most_entries + 1) (omega arith) e))
request_cut b text (Err r) e = refl

request_any : (b text : List ℕ) → after_request (read_of request (take (line_length size * most_entries + 1) text) (size * most_entries)) b
    (take (line_length size * most_entries + 1) text) ≡ after_request (read_of request text (size * most_entries)) b text
request_any b text = rw (first_bytes request text (size * most_entries) (line_length size * most_entries + 1) (omega arith)) (request_cut b text (read_of request text (size * most_entries)) refl)

book_cut : (text asked : List ℕ) (a : Filled) → read_of book text (size * most_records) ≡ a
    → after_book a (take (line_length size * most_records + 1) text) (take (line_length size * most_entries + 1) asked) ≡ after_book a text asked
unfolding after_book
book_cut text asked (Ok n) e =
    rw (take_all (line_length size * most_records + 1) text
    (read_whole book text (size * most_records) n (line_length size * most_records + 1) (omega arith) e)) (request_any (tab (byte_at text) n) asked)
book_cut text asked (Err r) e = refl

pub any_length : AnyLength
unfolding printed
any_length text asked = rw (first_bytes book text (size * most_records) (line_length size * most_records + 1) (omega arith)) (book_cut text asked (read_of book text (size * most_records)) refl)
