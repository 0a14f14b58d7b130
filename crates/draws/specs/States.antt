-- What a draw in the code holds. Assumes nothing.
use Rattle.std.specs.Prelude.{List, vec_items}
use Rattle.model.specs.declared.draw.Pop.{Pop}
use Rattle.theory.specs.Draws.{State, Held}
use Rattle.draws.specs.declared.draw.Draw.{Draw}

-- its entries, its root and its pops
abbrev pub state_of : Draw → State
state_of d = record { entries = vec_items d.entries.list; root = d.root; pops = d.pops }

-- the draw and the list of records that is lent with it
abbrev pub held_of : Draw → List Pop → Held
held_of d l = record { draw = state_of d; list = l }
