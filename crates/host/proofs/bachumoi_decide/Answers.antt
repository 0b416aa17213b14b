use mathlib.Core.Path.{sym, ◌∙◌}
use Rattle.host.proofs.Laws.{places_lent}
use Rattle.host.proofs.bachumoi_decide.Goals as goal

pub slice_bounds-decide_in-end : goal.slice_bounds-decide_in-end
slice_bounds-decide_in-end c = sym (places_lent _ _ _ c.zeros-places.ensures c.min-room.ensures)

pub decide_in-requires : goal.decide_in-requires
decide_in-requires c = places_lent _ _ _ c.zeros-places.ensures c.min-room.ensures ∙ c.min-room.ensures
