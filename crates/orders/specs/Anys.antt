-- An order of either kind. Assumes nothing.
use Rattle.std.specs.Prelude.{ℕ, Bool, List, Option}
use Rattle.model.specs.Orders.{PicksOpen}
use Rattle.orders.specs.Lawful.{walk_lawful, filed_lawful}
use Rattle.orders.specs.Told.{walk_told, walk_pick, filed_told, filed_pick}
use Rattle.orders.specs.declared.any.AnyOrder.{AnyOrder}
use Rattle.orders.specs.declared.any.AnyOrder.TheVariants.{Walk, Listed}

-- the pick of the order that it is
abbrev pub any_pick : AnyOrder → List Bool → Option ℕ
any_pick (Walk w) marks = walk_pick w marks
any_pick (Listed o) marks = filed_pick o marks

-- the order that it is, told the vertex
abbrev pub any_told : AnyOrder → ℕ → AnyOrder
any_told (Walk w) v = Walk (walk_told w v)
any_told (Listed o) v = Listed (filed_told o v)

-- either picks an open vertex where there is one
pub any_lawful : (o : AnyOrder) (marks : List Bool) → PicksOpen marks (any_pick o marks)
any_lawful (Walk w) marks = walk_lawful w marks
any_lawful (Listed o) marks = filed_lawful o marks
