-- What the two orders pick: the walk, which goes round the vertices, and the filed order, which follows a list. Assumes nothing.
use Rattle.std.specs.Prelude.{ℕ, ◌+◌, Bool, false, cond, ◌&&◌, List, length, Some, None, Option, nat_le, nat_lt, slice_index_or}
use Rattle.std.specs.Option.{option_or}
use Rattle.std.specs.List.{slice_get}
use Rattle.model.specs.Picks.{then, lowest}

-- whether v is an open vertex, by one mark for each vertex
abbrev pub is_open : List Bool → ℕ → Bool
is_open marks v = slice_index_or marks v false

-- the first open vertex from v on
abbrev pub open_from : List Bool → ℕ → Option ℕ
open_from marks v = lowest (λ u. nat_le v u && is_open marks u) (length marks)

-- the pick if there is one, else the lowest open vertex
abbrev pub or_lowest : List Bool → Option ℕ → Option ℕ
or_lowest marks pick = option_or pick (open_from marks 0)

-- the walk: the first open vertex from the one last told on, else, gone round, the lowest; from a number that is no vertex, the lowest too
abbrev pub walk_picks : ℕ → List Bool → Option ℕ
walk_picks last marks = or_lowest marks (open_from marks last)

-- v, if it is an open vertex
abbrev pub if_open : List Bool → ℕ → Option ℕ
if_open marks v = cond (is_open marks v) (Some v) None

-- the number that stands at the place of the list, if it is an open vertex
abbrev pub filed_at : List ℕ → ℕ → List Bool → Option ℕ
filed_at vertices place marks = then (slice_get vertices place) (if_open marks)

-- the filed order: the open vertex at the place, else the lowest
abbrev pub filed_picks : List ℕ → ℕ → List Bool → Option ℕ
filed_picks vertices place marks = or_lowest marks (filed_at vertices place marks)

-- the next place of a list of so many vertices; its end is the last
abbrev pub next_place : ℕ → ℕ → ℕ
next_place count place = cond (nat_lt place count) (place + 1) place
