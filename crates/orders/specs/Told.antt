-- What the orders of the crate pick, and what they are when told a vertex. Assumes nothing.
use Rattle.std.specs.Prelude.{ℕ, Bool, List, vec_items, vec_len, Option}
use Rattle.model.specs.Walks.{walk_picks, filed_picks, next_place}
use Rattle.orders.specs.declared.filed.FiledOrder.{FiledOrder}
use Rattle.orders.specs.declared.walk.Walk.{Walk}

abbrev pub walk_pick : Walk → List Bool → Option ℕ
walk_pick w marks = walk_picks w.last marks

-- the vertex told is the last
abbrev pub walk_told : Walk → ℕ → Walk
walk_told w v = record { last = v }

abbrev pub filed_pick : FiledOrder → List Bool → Option ℕ
filed_pick o marks = filed_picks (vec_items o.vertices) o.place marks

-- whichever vertex it is told, it moves on by one place
abbrev pub filed_told : FiledOrder → ℕ → FiledOrder
filed_told o v = record { vertices = o.vertices; place = next_place (vec_len o.vertices) o.place }
