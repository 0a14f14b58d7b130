-- What is said of draws that were worked by any calls. Assumes nothing.
use Rattle.std.specs.Prelude.{ℕ, zero, suc, ◌+◌, ◌*◌, Bool, List, [], ◌∷◌}
use Rattle.model.specs.Arrows.{Cells, sight}
use Rattle.theory.specs.Calls.{Strategy}
use Rattle.theory.specs.Cycles.{Heights, flat}
use Rattle.theory.specs.Ends.{End, popped_out}
use Rattle.model.specs.Layouts.{Layout}
use Rattle.model.specs.Orders.{PicksOpen}
use Rattle.model.specs.declared.draw.Pop.{Pop}

-- the end of a plan and its arrows: no height passes 4,096, so there are no more pops than 4,096 for each vertex
abbrev pub end_of : Layout → Cells → End
end_of p a = popped_out (sight p a) p.size (suc (p.size * 4096)) flat

-- the sum of the heights of the vertices below n
abbrev pub sum_below : Heights → ℕ → ℕ
sum_below h zero = 0
sum_below h (suc n) = h n + sum_below h n

-- the sum of the recorded lengths
abbrev pub lengths_of : List Pop → ℕ
lengths_of [] = 0
lengths_of (r ∷ rs) = r.length + lengths_of rs

-- the strategy picks an open vertex where there is one, else none, whatever it was told
abbrev pub Lawful : Strategy → Type 0
Lawful s = (told : List ℕ) (marks : List Bool) → PicksOpen marks (s told marks)
