-- Phrases of a list in which a bar stands before phrases 1, 2 and so on. Assumes nothing.
use Rattle.std.specs.Prelude.{ℕ, ◌-◌, Bool, not, List, eqb, ltb, length, take, drop, get_or}
use Rattle.fields.specs.First.{count_below, first_from}

-- a bar stands at place j
abbrev pub bar_at : List ℕ → ℕ → Bool
bar_at w j = eqb (get_or w j 0) 124

-- place j has fewer than k bars before it
abbrev pub fewer : List ℕ → ℕ → ℕ → Bool
fewer w k j = ltb (count_below (bar_at w) j) k

-- where phrase k starts: at the first place with k bars before it; at the list's end where there are fewer
unfoldable pub start_of : List ℕ → ℕ → ℕ
start_of w k = first_from (fewer w k) 0 (length w)

-- where the phrase stops that starts at a place: at the next bar; at the list's end where there is none
abbrev pub no_bar : List ℕ → ℕ → Bool
no_bar w j = not (bar_at w j)

unfoldable pub stop_of : List ℕ → ℕ → ℕ
stop_of w from = first_from (no_bar w) from (length w - from)

-- phrase k
unfoldable pub phrase_of : List ℕ → ℕ → List ℕ
phrase_of w k = take (stop_of w (start_of w k) - start_of w k) (drop (start_of w k) w)
