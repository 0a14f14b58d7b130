-- Arrows that a list of ports holds. Assumes nothing.
use Rattle.std.specs.Prelude.{ℕ, ◌+◌, ◌-◌, ◌*◌, Bool, cond, ◌||◌, List, Some, None, Option, ◌==◌, nat_le, nat_lt}
use Rattle.model.specs.Arrows.{Cells}
use Rattle.model.specs.Picks.{then}
use Rattle.std.specs.List.{slice_get}

-- the rank of v among the vertices other than the root r
abbrev pub rank : ℕ → ℕ → ℕ
rank r v = cond (nat_lt v r) v (v - 1)

-- there is no cell at the root, at what is no vertex, and at an index that is not below the depth
abbrev pub lacks_cell : ℕ → ℕ → ℕ → ℕ → ℕ → Bool
lacks_cell n r depth v k = v == r || (nat_le n v || nat_le depth k)

-- where the port of v and index k stands among the ports of n vertices with root r: by rising vertex without the root, then by rising index
abbrev pub place : ℕ → ℕ → ℕ → ℕ → ℕ → Option ℕ
place n r depth v k = cond (lacks_cell n r depth v k) None (Some (rank r v * depth + k))

-- the port that stands there, none where the list has ended; the degree is not looked at
abbrev pub filed_cells : ℕ → ℕ → ℕ → List ℕ → Cells
filed_cells n r depth ports v k d = then (place n r depth v k) (slice_get ports)
