-- Cells of arrows, and what a vertex shows at its height. Assumes nothing.
use Rattle.std.specs.Prelude.{ℕ, Bool, cond, not, ◌&&◌, is_some, Some, None, Option, nat_lt}
use Rattle.model.specs.Layouts.{Layout, is_root}
use Rattle.model.specs.Picks.{then}

-- where the arrow of a vertex at a height leads, if it has one there
abbrev pub Arrows : Type 0
Arrows = ℕ → ℕ → Option ℕ

-- an arrow source by its answers: a port, or none, for a vertex, an index and a degree
abbrev pub Cells : Type 0
Cells = ℕ → ℕ → ℕ → Option ℕ

-- the port counts only below the degree d, and only at a height below 4,096
abbrev pub counts : ℕ → ℕ → ℕ → Option ℕ
counts d k port = cond (nat_lt k 4096 && nat_lt port d) (Some port) None

-- the visible port of v at the height k: none at the root
abbrev pub visible : Layout → Cells → ℕ → ℕ → Option ℕ
visible p a v k = cond (is_root p v) None (then (a v k (p.degree v)) (counts (p.degree v) k))

-- where it leads: the arrows of a plan and its cells
abbrev pub sight : Layout → Cells → Arrows
sight p a v k = then (visible p a v k) (p.target v)

-- v is dry at the height k: not the root, and without a visible arrow
abbrev pub is_dry : Layout → Cells → ℕ → ℕ → Bool
is_dry p a v k = not (is_root p v) && not (is_some (visible p a v k))
