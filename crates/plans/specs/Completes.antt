-- The complete plan. Assumes nothing.
use Rattle.std.specs.Prelude.{ℕ, cond, not, List, [], filter, ◌==◌, nat_lt}
use Rattle.model.specs.Layouts.{Layout, from_ports}
use Rattle.std.specs.List.{range_with_len}

-- the vertices below n other than v, in rising order, where v is one of them; none else
abbrev pub others : ℕ → ℕ → List ℕ
others n v = cond (nat_lt v n) (filter (λ w. not (w == v)) (range_with_len 0 n)) []

-- the plan of n vertices with root r in which the ports of each vertex lead to all others in rising order
abbrev pub complete : ℕ → ℕ → Layout
complete n r = from_ports n r (others n)
