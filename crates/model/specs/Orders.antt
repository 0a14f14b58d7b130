-- What an order owes: it picks an open vertex where there is one. Assumes nothing.
use Rattle.std.specs.Prelude.{◌≡◌, ℕ, ◌<◌, Bool, true, false, not, List, map, length, Option, MatchOption, slice_index_or}
use Rattle.model.specs.declared.draw.Entry.{Entry}

-- one mark for each vertex: whether it is open
abbrev pub open_marks : List Entry → List Bool
open_marks entries = map (λ e. not e.settled) entries

-- the pick is an open vertex, or there is none and no vertex is open
abbrev pub PicksOpen : List Bool → Option ℕ → Type 0
PicksOpen marks o = MatchOption o ((v : ℕ) → v < length marks → slice_index_or marks v false ≡ false) (λ v. (v < length marks) × (slice_index_or marks v false ≡ true))
